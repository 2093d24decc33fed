-- The law is proved as a lemma.
use Rattle.sg_unaltered.proofs.GoingOn.{closed_histories_go_on}
use Rattle.sg_unaltered.proofs.laws.closed_law.Goals as goal

pub returns : goal.returns
returns c = closed_histories_go_on
