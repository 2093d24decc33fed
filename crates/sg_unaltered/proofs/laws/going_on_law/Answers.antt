-- The law is proved as a lemma.
use Rattle.sg_unaltered.proofs.GoingOn.{histories_go_on}
use Rattle.sg_unaltered.proofs.laws.going_on_law.Goals as goal

pub returns : goal.returns
returns c = histories_go_on
