-- The invariant of the loop of `put_copies`.
use Rattle.std.proofs.Common.{◌≡◌, ◌++◌, take}
use Rattle.sg_keeper.proofs.placed.put_copies.Given as goal

abbrev pub invariant-loop-row : goal.invariant-loop-row
invariant-loop-row g l = l.rows.items ≡ l.fn.rows.items ++ take l.row-index l.more
