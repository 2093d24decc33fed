use Rattle.sg_plan.proofs.PlanLaws.{row_laws}
use Rattle.sg_plan.proofs.laws.rows_law.Goals as goal

pub returns : goal.returns
returns c = row_laws
