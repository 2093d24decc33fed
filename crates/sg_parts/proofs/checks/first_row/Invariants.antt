-- The rows so far pass.
use Rattle.std.proofs.Common.{◌≡◌, ℕ, ◌<◌, true}
use Rattle.sg_parts.specs.inside.Checks.{passes}
use Rattle.sg_parts.proofs.checks.first_row.Given as goal

abbrev pub invariant-loop-row : goal.invariant-loop-row
invariant-loop-row l = (x : ℕ) → x < l.row → passes l.index l.posted l.test l.race l.instance x ≡ true
