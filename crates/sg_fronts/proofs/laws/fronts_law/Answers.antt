-- The law is the lemma.
use Rattle.sg_fronts.proofs.Fronts.{fronts_go_on}
use Rattle.sg_fronts.proofs.laws.fronts_law.Goals as goal

pub returns : goal.returns
returns c = fronts_go_on
