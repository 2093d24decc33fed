-- The law is proved as a lemma.
use Rattle.sg_histories.proofs.FittingStories.{stories_fit}
use Rattle.sg_histories.proofs.laws.stories_law.Goals as goal

pub returns : goal.returns
returns c = stories_fit
