use Rattle.std.proofs.Common.{◌≡◌, map, take, List, ℕ}
use Rattle.sg_streams.proofs.ordering.numbers_of.Given as goal

abbrev pub invariant-loop-number : goal.invariant-loop-number
invariant-loop-number l = let pairs : List (ℕ × ℕ) = take l.number-index l.pairs in l.numbers ≡ map (λ p. p.1) pairs
