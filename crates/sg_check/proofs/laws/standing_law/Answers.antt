use Rattle.sg_check.proofs.BoundLaws.{totals_stand}
use Rattle.sg_check.proofs.laws.standing_law.Goals as goal

pub returns : goal.returns
returns c = totals_stand
