-- The law is proved as a lemma.
use Rattle.sg_histories.proofs.Opening.{rows_open_once}
use Rattle.sg_histories.proofs.laws.open_once_law.Goals as goal

pub returns : goal.returns
returns c = rows_open_once
