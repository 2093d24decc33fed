-- The items walked over pass, and the rest decide.
use Rattle.std.proofs.Common.{◌≡◌, ℕ, drop}
use Rattle.sg_record.specs.Formed.{are_cast}
use Rattle.sg_plan.specs.Ballots.{races_of_ballot}
use Rattle.sg_record.proofs.formed.are_cast.Given as goal

abbrev pub invariant-loop-at : goal.invariant-loop-at
invariant-loop-at l = (ballot : ℕ) → l.races ≡ races_of_ballot l.index ballot → are_cast l.index ballot l.race l.column (drop l.at l.lines) ≡ are_cast l.index ballot 0 0 l.lines
