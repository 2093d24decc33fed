use Rattle.std.proofs.Common.{◌≡◌, ◌++◌, drop, decimal, nat_lt}
use Rattle.std.specs.Prelude.{false, map}
use Rattle.sg_asks.specs.inside.Pieces.{joined}
use Rattle.sg_asks.proofs.pieces.put_joined.Given as goal

abbrev pub invariant-loop-at : goal.invariant-loop-at
invariant-loop-at l = l.out ++ joined (nat_lt 0 l.at) (map decimal (drop l.at l.numbers)) ≡ l.fn.out ++ joined false (map decimal l.numbers)
