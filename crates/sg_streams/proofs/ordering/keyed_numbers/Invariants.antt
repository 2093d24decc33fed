use Rattle.std.proofs.Common.{◌≡◌, ◌*◌, ◌-◌, ◌++◌, map}
use Rattle.std.specs.List.{range_with_len}
use Rattle.sg_streams.specs.Numbers.{numbers_below}
use Rattle.sg_streams.specs.Order.{keyed}
use Rattle.sg_streams.proofs.ordering.keyed_numbers.Given as goal

abbrev pub invariant-loop-number : goal.invariant-loop-number
invariant-loop-number l = record {
  pairs : l.pairs.items ++ map (keyed l.seed.0 l.stream) (range_with_len l.number (l.n - l.number)) ≡ map (keyed l.seed.0 l.stream) (numbers_below l.n);
  words : l.words ≡ record { seed = l.seed.0; stream = l.stream; place = 2 * l.number };
}
