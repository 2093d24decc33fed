-- The bytes so far, and those of the pairs left, are those of all pairs.
use Rattle.std.proofs.Common.{◌≡◌, ◌++◌, take, drop}
use Rattle.std.specs.Prelude.{map}
use Rattle.sg_lines.specs.inside.Rows.{joined}
use Rattle.sg_lines.proofs.rows.join.Given as goal

abbrev pub invariant-loop-at : goal.invariant-loop-at
invariant-loop-at l = take l.at l.out ++ map joined (drop l.at l.pairs) ≡ map joined l.pairs
