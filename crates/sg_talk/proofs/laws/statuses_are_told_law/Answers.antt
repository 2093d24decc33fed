use Rattle.sg_talk.proofs.Statuses.{statuses_are_told}
use Rattle.sg_talk.proofs.laws.statuses_are_told_law.Goals as goal

pub returns : goal.returns
returns c = statuses_are_told
