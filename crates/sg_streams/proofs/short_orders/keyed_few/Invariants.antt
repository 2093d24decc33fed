use Rattle.std.proofs.Common.{◌≡◌, ◌*◌, length, map, take}
use Rattle.sg_streams.specs.Numbers.{numbers_below}
use Rattle.sg_streams.specs.Order.{keyed}
use Rattle.sg_streams.proofs.short_orders.keyed_few.Given as goal

abbrev pub invariant-loop-number : goal.invariant-loop-number
invariant-loop-number l = record {
  many : length l.pairs ≡ 16;
  pairs : take l.number l.pairs ≡ map (keyed l.seed.0 l.stream) (numbers_below l.number);
  words : l.words ≡ record { seed = l.seed.0; stream = l.stream; place = 2 * l.number };
}
