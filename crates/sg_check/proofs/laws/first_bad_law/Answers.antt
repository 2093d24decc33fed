use Rattle.sg_check.proofs.Verdicts.{first_bad_stays}
use Rattle.sg_check.proofs.laws.first_bad_law.Goals as goal

pub returns : goal.returns
returns c = first_bad_stays
