-- The law is the lemma.
use Rattle.sg_fronts.proofs.ByRecords.{verdicts_say}
use Rattle.sg_fronts.proofs.laws.verdict_law.Goals as goal

pub returns : goal.returns
returns c = verdicts_say
