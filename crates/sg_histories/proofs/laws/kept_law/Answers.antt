-- The law is proved as a lemma.
use Rattle.sg_histories.proofs.DoneActs.{done_acts_are_kept}
use Rattle.sg_histories.proofs.laws.kept_law.Goals as goal

pub returns : goal.returns
returns c = done_acts_are_kept
