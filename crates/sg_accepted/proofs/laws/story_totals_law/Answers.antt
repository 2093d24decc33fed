-- The law is proved as a lemma.
use Rattle.sg_accepted.proofs.RecordTotals.{unaltered_has_totals}
use Rattle.sg_accepted.proofs.laws.story_totals_law.Goals as goal

pub returns : goal.returns
returns c = unaltered_has_totals
