-- The law is proved as a lemma.
use Rattle.sg_unaltered.proofs.Accepting.{true_audits_are_told}
use Rattle.sg_unaltered.proofs.laws.audits_law.Goals as goal

pub returns : goal.returns
returns c = true_audits_are_told
