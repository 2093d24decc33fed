-- What the steps before give.
use Rattle.sg_record.proofs.ReadLaw.{gathered_end, gathered_step, gathered_stop}
use Rattle.sg_record.proofs.read.gather_lines.Goals as goal
use Rattle.sg_record.specs.inside.Growing.{so_far}

pub returns-then-not-branch : goal.returns-then-not-branch
returns-then-not-branch c =
    gathered_stop (so_far c.loop-start.reading) (so_far c.take.new.self) c.args.bytes.now c.loop-start.start c.line_end-end.result c.in_ok-take.field-0 c.loop-start.invariant c.line_end-end.ensures.line
    c.in_ok-take.ensures c.if-not-branch.true

pub loop-start-preserved : goal.loop-start-preserved
loop-start-preserved c =
    gathered_step (so_far c.loop-start.reading) (so_far c.take.new.self) c.args.bytes.now c.loop-start.start c.line_end-end.result c.in_ok-take.field-0 c.loop-start.invariant c.line_end-end.ensures.line
    c.in_ok-take.ensures c.if-not-branch.false

pub returns : goal.returns
returns c = gathered_end (so_far c.loop-start.reading) c.args.bytes.now c.loop-start.start c.loop-start.invariant c.loop-start-test.false
