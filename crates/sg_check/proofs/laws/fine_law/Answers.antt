use Rattle.sg_check.proofs.Fine.{none_bad_are_fine}
use Rattle.sg_check.proofs.laws.fine_law.Goals as goal

pub returns : goal.returns
returns c = none_bad_are_fine
