use Rattle.sg_check.proofs.FineLines.{codes_are_known}
use Rattle.sg_check.proofs.laws.codes_law.Goals as goal

pub returns : goal.returns
returns c = codes_are_known
