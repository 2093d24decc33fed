-- The law is proved as a lemma.
use Rattle.sg_histories.proofs.Opening.{open_rows_are_lawful}
use Rattle.sg_histories.proofs.laws.opened_law.Goals as goal

pub returns : goal.returns
returns c = open_rows_are_lawful
