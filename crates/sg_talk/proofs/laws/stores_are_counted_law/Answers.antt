use Rattle.sg_talk.proofs.Talks.{stores_are_counted}
use Rattle.sg_talk.proofs.laws.stores_are_counted_law.Goals as goal

pub returns : goal.returns
returns c = stores_are_counted
