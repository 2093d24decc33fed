use Rattle.sg_check.proofs.OneMore.{form_is_judged}
use Rattle.sg_check.proofs.laws.form_law.Goals as goal

pub returns : goal.returns
returns c = form_is_judged
