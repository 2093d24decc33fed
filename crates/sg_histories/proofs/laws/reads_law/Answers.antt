-- The law is proved as a lemma.
use Rattle.sg_histories.proofs.ReadingActs.{act_in_reads_acts}
use Rattle.sg_histories.proofs.laws.reads_law.Goals as goal

pub returns : goal.returns
returns c = act_in_reads_acts
