use Rattle.sg_plan.proofs.PlanLaws.{row_place_laws}
use Rattle.sg_plan.proofs.laws.row_places_law.Goals as goal

pub returns : goal.returns
returns c = row_place_laws
