use Rattle.sg_plan.proofs.KeptPlans.{plan_keeps_told}
use Rattle.sg_plan.proofs.laws.plan_keeps_law.Goals as goal

pub returns : goal.returns
returns c = plan_keeps_told
