-- The law is proved as a lemma.
use Rattle.sg_sample.proofs.SampleRuns.{asks_are_done}
use Rattle.sg_sample.proofs.laws.asks_law.Goals as goal

pub returns : goal.returns
returns c = asks_are_done
