-- The judge was fed lines that settle nothing.
use Rattle.sg_outside.specs.Streams.{seen}
use Rattle.sg_driver.specs.inside.Stopping.{IsFed}
use Rattle.sg_driver.proofs.hearing.take_lines.Given as goal

abbrev pub invariant-loop-stop : goal.invariant-loop-stop
invariant-loop-stop g l =
    IsFed g.J.Judge.judging (g.J.Judge.stands l.judge) l.lines (seen (g.S.Source.left l.fn.input) (g.S.Source.faults l.fn.input)) (seen (g.S.Source.left l.input) (g.S.Source.faults l.input))

abbrev pub decreases-loop-stop : goal.decreases-loop-stop
decreases-loop-stop g l = g.J.Judge.left_in l.judge
