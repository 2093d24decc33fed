-- The invariant of the loop of `read_all`.
use Rattle.std.proofs.Common.{◌≡◌, map, take}
use Rattle.sg_store.proofs.reads.read_all.Given as goal

abbrev pub invariant-loop-at : goal.invariant-loop-at
invariant-loop-at g l = l.list ≡ map g.T.Listed.shown (take l.at l.rows)
