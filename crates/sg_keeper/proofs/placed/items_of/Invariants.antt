-- The invariant of the loop of `items_of`.
use Rattle.std.proofs.Common.{◌≡◌}
use Rattle.sg_keeper.proofs.placed.items_of.Given as goal

abbrev pub invariant-loop-row : goal.invariant-loop-row
invariant-loop-row g l = l.items ≡ l.yielded
