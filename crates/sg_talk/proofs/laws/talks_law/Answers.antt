use Rattle.sg_talk.proofs.Keeping.{talks_keep}
use Rattle.sg_talk.proofs.laws.talks_law.Goals as goal

pub returns : goal.returns
returns c = talks_keep
