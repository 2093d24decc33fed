use Rattle.sg_check.proofs.Verdicts.{fronts_are_fine}
use Rattle.sg_check.proofs.laws.fronts_law.Goals as goal

pub returns : goal.returns
returns c = fronts_are_fine
