-- The law is proved as a lemma.
use Rattle.sg_sample.proofs.SampleRuns.{records_are_sealed}
use Rattle.sg_sample.proofs.laws.seals_law.Goals as goal

pub returns : goal.returns
returns c = records_are_sealed
