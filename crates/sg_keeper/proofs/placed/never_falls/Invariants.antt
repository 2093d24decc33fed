-- The invariant of the loop of `never_falls`.
use Rattle.std.specs.List.Sorted.{IsSortedWithin}
use Rattle.sg_keeper.specs.inside.Later.{by_key}
use Rattle.sg_keeper.proofs.placed.never_falls.Given as goal

abbrev pub invariant-loop-at : goal.invariant-loop-at
invariant-loop-at g l = IsSortedWithin (by_key g.T.Keyed.key_of) l.rows 0 l.at
