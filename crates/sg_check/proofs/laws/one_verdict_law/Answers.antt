use Rattle.sg_check.proofs.Verdicts.{one_verdict}
use Rattle.sg_check.proofs.laws.one_verdict_law.Goals as goal

pub returns : goal.returns
returns c = one_verdict
