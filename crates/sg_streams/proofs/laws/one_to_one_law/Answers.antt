use Rattle.sg_streams.proofs.OneOrders.{one_to_one}
use Rattle.sg_streams.proofs.laws.one_to_one_law.Goals as goal

pub returns : goal.returns
returns c = one_to_one
