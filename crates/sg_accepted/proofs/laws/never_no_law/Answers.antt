-- The law is proved as a lemma.
use Rattle.sg_accepted.proofs.RecordTotals.{unaltered_is_never_no}
use Rattle.sg_accepted.proofs.laws.never_no_law.Goals as goal

pub returns : goal.returns
returns c = unaltered_is_never_no
