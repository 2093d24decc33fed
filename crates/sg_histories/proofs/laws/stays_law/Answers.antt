-- The law is proved as a lemma.
use Rattle.sg_histories.proofs.DoneActs.{acts_stay}
use Rattle.sg_histories.proofs.laws.stays_law.Goals as goal

pub returns : goal.returns
returns c = acts_stay
