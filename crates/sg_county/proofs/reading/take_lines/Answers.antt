-- Each line, and the end.
use Rattle.std.proofs.Common.{sym, ◌∙◌, arith}
use Rattle.std.proofs.lemmas.Bool.{not-false, not-true}
use Rattle.sg_county.proofs.TextRead.{read_all, read_more, read_none, read_over}
use Rattle.sg_county.proofs.reading.take_lines.Goals as goal
use Rattle.sg_county.specs.Tally.{is_more}

pub loop-start-init : goal.loop-start-init
loop-start-init c = read_none c.args.bytes.now c.args.tally.now c.requires.stands c.requires.still

pub line-requires : goal.line-requires
line-requires c = record { stands = (c.loop-start.invariant.lines, c.loop-start.invariant.stands) }

pub loop-start-preserved : goal.loop-start-preserved
loop-start-preserved c =
    read_more c.args.bytes.now c.loop-start.tally c.line.new.self c.loop-start.start c.line_end-end.result c.loop-start.invariant c.line_end-end.ensures.line
    (λ lines stands. c.in_ok-step.ensures.adds c.loop-start.invariant.still lines stands) c.line_end-end.ensures.within
    (c.in_ok-step.ensures.open c.loop-start.invariant.still ∙ not-false (is_more c.in_ok-step.step) (sym c.is_over.ensures ∙ c.if-is_over.false))

pub returns-then-is_over : goal.returns-then-is_over
returns-then-is_over c =
    read_over c.args.bytes.now c.loop-start.tally c.line.new.self c.loop-start.start c.line_end-end.result c.loop-start.invariant c.line_end-end.ensures.line
    (λ lines stands. c.in_ok-step.ensures.adds c.loop-start.invariant.still lines stands)
    (c.in_ok-step.ensures.open c.loop-start.invariant.still ∙ not-true (is_more c.in_ok-step.step) (sym c.is_over.ensures ∙ c.if-is_over.true))

pub returns : goal.returns
returns c = read_all c.args.bytes.now c.loop-start.tally c.loop-start.start c.loop-start.invariant (omega (arith, c.loop-start-test.false))
