use Rattle.sg_check.proofs.FineLines.{totals_count}
use Rattle.sg_check.proofs.laws.counts_law.Goals as goal

pub returns : goal.returns
returns c = totals_count
