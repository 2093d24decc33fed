use Rattle.sg_plan.proofs.LimitLaws.{limits_told}
use Rattle.sg_plan.proofs.laws.limits_law.Goals as goal

pub returns : goal.returns
returns c = limits_told
