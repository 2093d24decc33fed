-- Each turn adds one more order.
use Rattle.std.proofs.Common.{ℕ, ap, ◌∙◌}
use Rattle.sg_streams.specs.Order.{order_of}
use Rattle.sg_streams.specs.Streams.{stream_number}
use Rattle.sg_tables.proofs.Lists.{map_below-more, map_below-none}
use Rattle.sg_tables.proofs.drawing.draw_orders.Goals as goal

pub loop-index-init : goal.loop-index-init
loop-index-init c = rw map_below-none c.new-lists.ensures

pub loop-index-preserved : goal.loop-index-preserved
loop-index-preserved c =
    let seed = c.args.seed.now.0 in
    let order = λ (index : ℕ). order_of seed (stream_number c.args.purpose c.args.race index) c.args.n in
    let item = c.in_ok-order.ensures.value ∙ ap (λ s. order_of seed s c.args.n) c.stream.ensures in
    map_below-more order c.loop-index.index c.loop-index.lists c.push.new.self c.in_ok-order.field-0 c.loop-index.invariant item c.in_ok-push.ensures.ok
