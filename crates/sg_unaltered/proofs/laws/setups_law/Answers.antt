-- The law is proved as a lemma.
use Rattle.sg_unaltered.proofs.SomeSetup.{setups_are_there}
use Rattle.sg_unaltered.proofs.laws.setups_law.Goals as goal

pub returns : goal.returns
returns c = setups_are_there
