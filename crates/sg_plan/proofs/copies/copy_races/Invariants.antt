use Rattle.std.proofs.Common.{◌≡◌, take}
use Rattle.sg_plan.proofs.copies.copy_races.Given as goal

abbrev pub invariant-loop-at : goal.invariant-loop-at
invariant-loop-at l = l.copy ≡ take l.at l.races
