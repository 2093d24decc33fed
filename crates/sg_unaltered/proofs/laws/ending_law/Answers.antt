-- The law is proved as a lemma.
use Rattle.sg_unaltered.proofs.GoingOn.{elections_end}
use Rattle.sg_unaltered.proofs.laws.ending_law.Goals as goal

pub returns : goal.returns
returns c = elections_end
