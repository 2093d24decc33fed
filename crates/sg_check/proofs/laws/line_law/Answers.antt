use Rattle.sg_check.proofs.OneMore.{line_is_judged}
use Rattle.sg_check.proofs.laws.line_law.Goals as goal

pub returns : goal.returns
returns c = line_is_judged
