-- The law is proved as a lemma.
use Rattle.sg_histories.proofs.Talks.{asks_make_lawful}
use Rattle.sg_histories.proofs.laws.asks_law.Goals as goal

pub returns : goal.returns
returns c = asks_make_lawful
