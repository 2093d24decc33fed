-- The rows of the races so far pass.
use Rattle.std.proofs.Common.{◌≡◌, ℕ, ◌<◌, true}
use Rattle.sg_plan.specs.Ballots.{entries_of}
use Rattle.sg_parts.specs.inside.Checks.{passes}
use Rattle.sg_parts.proofs.checks.first_failing.Given as goal

abbrev pub invariant-loop-race : goal.invariant-loop-race
invariant-loop-race l = (r i x : ℕ) → r < l.race → i < l.index.instances → x < entries_of l.index r → passes l.index l.posted l.test r i x ≡ true
