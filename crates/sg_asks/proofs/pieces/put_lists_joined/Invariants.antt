use Rattle.std.proofs.Common.{◌≡◌, ◌++◌, drop, nat_lt}
use Rattle.std.specs.Prelude.{false, map}
use Rattle.sg_asks.specs.inside.Pieces.{joined, numbers_text}
use Rattle.sg_asks.proofs.pieces.put_lists_joined.Given as goal

abbrev pub invariant-loop-at : goal.invariant-loop-at
invariant-loop-at l = l.out ++ joined (nat_lt 0 l.at) (map numbers_text (drop l.at l.lists)) ≡ l.fn.out ++ joined false (map numbers_text l.lists)
