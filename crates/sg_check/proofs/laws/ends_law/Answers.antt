use Rattle.sg_check.proofs.Verdicts.{ends_are_judged}
use Rattle.sg_check.proofs.laws.ends_law.Goals as goal

pub returns : goal.returns
returns c = ends_are_judged
