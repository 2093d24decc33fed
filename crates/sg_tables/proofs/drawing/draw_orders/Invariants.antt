use Rattle.std.proofs.Common.{◌≡◌, map}
use Rattle.sg_streams.specs.Numbers.{numbers_below}
use Rattle.sg_streams.specs.Order.{order_of}
use Rattle.sg_streams.specs.Streams.{stream_number}
use Rattle.sg_tables.proofs.drawing.draw_orders.Given as goal

abbrev pub invariant-loop-index : goal.invariant-loop-index
invariant-loop-index l = l.lists ≡ map (λ index. order_of l.seed.0 (stream_number l.purpose l.race index) l.n) (numbers_below l.index)
