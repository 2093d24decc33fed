use Rattle.std.proofs.Common.{◌≡◌, ◌++◌, drop, nat_lt}
use Rattle.std.specs.Prelude.{false, map}
use Rattle.sg_asks.specs.inside.Pieces.{joined, seen_text}
use Rattle.sg_asks.proofs.pieces.put_seen_joined.Given as goal

abbrev pub invariant-loop-at : goal.invariant-loop-at
invariant-loop-at l = l.out ++ joined (nat_lt 0 l.at) (map (seen_text l.version) (drop l.at l.list)) ≡ l.fn.out ++ joined false (map (seen_text l.version) l.list)
