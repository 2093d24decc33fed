-- The law is proved as a lemma.
use Rattle.sg_histories.proofs.Talks.{lawful_comes}
use Rattle.sg_histories.proofs.laws.lawful_law.Goals as goal

pub returns : goal.returns
returns c = lawful_comes
