-- The pairs are sorted, and the list is their numbers.
use Rattle.sg_streams.proofs.OneOrders.{IsOrder-is}
use Rattle.sg_streams.proofs.Ordered.{sorted-IsOrder}
use Rattle.sg_streams.proofs.ordering.order.Goals as goal

pub returns-clause-order : goal.returns-clause-order
returns-clause-order c =
    rw (c.in_ok-numbers.ensures, c.as_slice.ensures.value)
    (sorted-IsOrder c.args.seed.now.0 c.args.stream c.args.n c.sort_unstable.new.self.items
    (rw (← c.in_ok-pairs.ensures) c.sort_unstable.ensures.permutation) c.sort_unstable.ensures.sorted)

pub returns-clause-value : goal.returns-clause-value
returns-clause-value c = IsOrder-is c.args.seed.now.0 c.args.stream c.args.n c.in_ok-numbers.numbers (returns-clause-order c)
