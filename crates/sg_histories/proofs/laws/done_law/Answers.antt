-- The law is proved as a lemma.
use Rattle.sg_histories.proofs.DoneActs.{done_acts_stand}
use Rattle.sg_histories.proofs.laws.done_law.Goals as goal

pub returns : goal.returns
returns c = done_acts_stand
