-- The law is proved as a lemma.
use Rattle.sg_unaltered.proofs.GoingOn.{elections_begin}
use Rattle.sg_unaltered.proofs.laws.beginning_law.Goals as goal

pub returns : goal.returns
returns c = elections_begin
