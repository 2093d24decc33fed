-- The rows of the instances so far pass.
use Rattle.std.proofs.Common.{◌≡◌, ℕ, ◌<◌, true}
use Rattle.sg_plan.specs.Ballots.{entries_of}
use Rattle.sg_parts.specs.inside.Checks.{passes}
use Rattle.sg_parts.proofs.checks.first_pair.Given as goal

abbrev pub invariant-loop-instance : goal.invariant-loop-instance
invariant-loop-instance l = (i x : ℕ) → i < l.instance → x < entries_of l.index l.race → passes l.index l.posted l.test l.race i x ≡ true
