use Rattle.sg_check.proofs.Verdicts.{some_verdict}
use Rattle.sg_check.proofs.laws.some_verdict_law.Goals as goal

pub returns : goal.returns
returns c = some_verdict
