use Rattle.sg_plan.proofs.PlanLaws.{entry_place_laws}
use Rattle.sg_plan.proofs.laws.entry_places_law.Goals as goal

pub returns : goal.returns
returns c = entry_place_laws
