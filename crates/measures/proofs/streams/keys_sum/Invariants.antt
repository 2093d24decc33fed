use Rattle.std.proofs.Common.{◌≡◌}
use Rattle.measures.proofs.streams.keys_sum.Given as goal

abbrev pub invariant-loop-item : goal.invariant-loop-item
invariant-loop-item l = l.keys.item ≡ l._item
