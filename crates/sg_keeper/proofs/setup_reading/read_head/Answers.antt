-- What is left to show of `read_head`.
use Rattle.std.proofs.Common.{sym, subst, ◌≡◌, drop}
use Rattle.sg_outside.specs.TextLines.{lines_of}
use Rattle.sg_grammar.specs.Walk.{Next}
use Rattle.sg_keeper.specs.inside.SetupReading.{no_line, read_plan}
use Rattle.sg_keeper.specs.inside.PlanLines.{making_of}
use Rattle.sg_keeper.proofs.PlanSteps.{head_end, head_step, head_stop}
use Rattle.sg_keeper.proofs.setup_reading.read_head.Goals as goal

pub returns-then-not-branch : goal.returns-then-not-branch
returns-then-not-branch c =
    subst (λ (n : Next). read_plan no_line (lines_of c.args.text.now) ≡ record { so_far = making_of n; left = lines_of (drop c.loop-end.end c.args.text.now) })
    (sym (c.in_ok-take_line.ensures.same c.if-not-branch.true))
    (head_stop (making_of c.loop-end.expect) (making_of c.take_line.new.expect) c.args.text.now c.loop-end.end c.line_end-next.result c.in_ok-take_line.field-0 c.loop-end.invariant c.line_end-next.ensures.line
    c.in_ok-take_line.ensures.line c.if-not-branch.true)

pub loop-end-preserved : goal.loop-end-preserved
loop-end-preserved c =
    head_step (making_of c.loop-end.expect) (making_of c.take_line.new.expect) c.args.text.now c.loop-end.end c.line_end-next.result c.in_ok-take_line.field-0 c.loop-end.invariant c.line_end-next.ensures.line
    c.in_ok-take_line.ensures.line c.if-not-branch.false

pub returns : goal.returns
returns c = head_end (making_of c.loop-end.expect) c.args.text.now c.loop-end.end c.loop-end.invariant c.loop-end-test.false
