use Rattle.sg_plan.proofs.PlanLaws.{bounds}
use Rattle.sg_plan.proofs.laws.bounds_law.Goals as goal

pub returns : goal.returns
returns c = bounds
