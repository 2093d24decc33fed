use Rattle.sg_check.proofs.BoundLaws.{totals_bound}
use Rattle.sg_check.proofs.laws.totals_law.Goals as goal

pub returns : goal.returns
returns c = totals_bound
