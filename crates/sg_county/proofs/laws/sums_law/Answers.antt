use Rattle.sg_county.proofs.Bounding.{sums_bound}
use Rattle.sg_county.proofs.laws.sums_law.Goals as goal

pub returns : goal.returns
returns c = sums_bound
