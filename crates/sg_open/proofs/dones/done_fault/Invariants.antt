use Rattle.sg_open.specs.inside.Passing.{Passes}
use Rattle.sg_open.proofs.dones.done_fault.Given as goal

abbrev pub invariant-loop-at : goal.invariant-loop-at
invariant-loop-at l = Passes l.stations l.told l.counts l.rows l.at
