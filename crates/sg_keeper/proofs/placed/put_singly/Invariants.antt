-- The invariant of the loop of `put_singly`.
use Rattle.std.proofs.Common.{◌≡◌, take}
use Rattle.sg_keeper.specs.inside.Later.{by_key, put_all}
use Rattle.sg_keeper.proofs.placed.put_singly.Given as goal

abbrev pub invariant-loop-row : goal.invariant-loop-row
invariant-loop-row g l = l.rows.items ≡ put_all (by_key g.T.Keyed.key_of) l.fn.rows.items (take l.row-index l.more)
