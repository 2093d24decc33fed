use Rattle.std.proofs.Common.{◌≡◌}
use Rattle.measures.proofs.streams.coins_sum.Given as goal

abbrev pub invariant-loop-row : goal.invariant-loop-row
invariant-loop-row l = l.coins.row ≡ l._row
