-- The law is proved as a lemma.
use Rattle.sg_unaltered.proofs.UnalteredStories.{unaltered_tell_so}
use Rattle.sg_unaltered.proofs.laws.unaltered_law.Goals as goal

pub returns : goal.returns
returns c = unaltered_tell_so
