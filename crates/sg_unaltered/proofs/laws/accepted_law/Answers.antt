-- The law is proved as a lemma.
use Rattle.sg_unaltered.proofs.Accepting.{histories_are_accepted}
use Rattle.sg_unaltered.proofs.laws.accepted_law.Goals as goal

pub returns : goal.returns
returns c = histories_are_accepted
