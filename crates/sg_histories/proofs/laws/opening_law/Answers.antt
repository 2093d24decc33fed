-- The law is proved as a lemma.
use Rattle.sg_histories.proofs.Opening.{lawful_rows_open}
use Rattle.sg_histories.proofs.laws.opening_law.Goals as goal

pub returns : goal.returns
returns c = lawful_rows_open
