-- The law is proved as a lemma.
use Rattle.sg_accepted.proofs.Votes.{totals_count_marks}
use Rattle.sg_accepted.proofs.laws.marks_law.Goals as goal

pub returns : goal.returns
returns c = totals_count_marks
