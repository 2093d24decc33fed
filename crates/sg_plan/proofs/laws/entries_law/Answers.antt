use Rattle.sg_plan.proofs.PlanLaws.{entry_laws}
use Rattle.sg_plan.proofs.laws.entries_law.Goals as goal

pub returns : goal.returns
returns c = entry_laws
