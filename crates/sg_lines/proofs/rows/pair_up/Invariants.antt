-- The pairs so far, and those of the values left, are those of all values.
use Rattle.std.proofs.Common.{◌≡◌, ◌*◌, ◌++◌, take, drop}
use Rattle.sg_lines.specs.inside.Rows.{paired}
use Rattle.sg_lines.proofs.rows.pair_up.Given as goal

abbrev pub invariant-loop-at : goal.invariant-loop-at
invariant-loop-at l = take l.at l.pairs ++ paired (drop (2 * l.at) l.values) ≡ paired l.values
