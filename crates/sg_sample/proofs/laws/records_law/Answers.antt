-- The law is proved as a lemma.
use Rattle.sg_sample.proofs.SampleRuns.{sample_accepted}
use Rattle.sg_sample.proofs.laws.records_law.Goals as goal

pub returns : goal.returns
returns c = sample_accepted
