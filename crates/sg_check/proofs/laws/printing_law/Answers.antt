use Rattle.sg_check.proofs.Accepted.{printing_exists}
use Rattle.sg_check.proofs.laws.printing_law.Goals as goal

pub returns : goal.returns
returns c = printing_exists
