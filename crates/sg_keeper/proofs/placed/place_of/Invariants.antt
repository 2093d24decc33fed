-- The invariant of the loop of `place_of`.
use Rattle.std.proofs.Common.{◌≡◌, ◌++◌, take, drop}
use Rattle.sg_keeper.specs.Rows.{put}
use Rattle.sg_keeper.specs.inside.Later.{by_key}
use Rattle.sg_keeper.proofs.placed.place_of.Given as goal

abbrev pub invariant-loop-at : goal.invariant-loop-at
invariant-loop-at g l = take l.at l.rows ++ put (by_key g.T.Keyed.key_of) l.row (drop l.at l.rows) ≡ put (by_key g.T.Keyed.key_of) l.row l.rows
