-- The law is proved as a lemma.
use Rattle.sg_histories.proofs.Talks.{turns_stay_lawful}
use Rattle.sg_histories.proofs.laws.turns_law.Goals as goal

pub returns : goal.returns
returns c = turns_stay_lawful
