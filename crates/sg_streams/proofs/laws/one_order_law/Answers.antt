use Rattle.sg_streams.proofs.OneOrders.{one_order}
use Rattle.sg_streams.proofs.laws.one_order_law.Goals as goal

pub returns : goal.returns
returns c = one_order
