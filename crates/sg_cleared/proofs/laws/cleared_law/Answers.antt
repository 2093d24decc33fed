-- The law is proved as a lemma.
use Rattle.sg_cleared.proofs.Clear.{honest_is_cleared}
use Rattle.sg_cleared.proofs.laws.cleared_law.Goals as goal

pub returns : goal.returns
returns c = honest_is_cleared
