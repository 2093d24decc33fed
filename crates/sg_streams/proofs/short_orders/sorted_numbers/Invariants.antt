use Rattle.std.proofs.Common.{◌≡◌, ◌-◌, ◌++◌, map, replicate, take}
use Rattle.sg_streams.proofs.short_orders.sorted_numbers.Given as goal

abbrev pub invariant-loop-at : goal.invariant-loop-at
invariant-loop-at l = l.numbers ≡ map (λ p. p.1) (take l.at l.pairs) ++ replicate (16 - l.at) 0
