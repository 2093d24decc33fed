-- The law is proved as a lemma.
use Rattle.sg_histories.proofs.Repeats.{repeats_are_answered}
use Rattle.sg_histories.proofs.laws.repeats_law.Goals as goal

pub returns : goal.returns
returns c = repeats_are_answered
