-- The law is proved as a lemma.
use Rattle.sg_accepted.proofs.Law.{unaltered_is_accepted}
use Rattle.sg_accepted.proofs.laws.accepted_law.Goals as goal

pub returns : goal.returns
returns c = unaltered_is_accepted
