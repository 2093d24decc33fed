use Rattle.sg_check.proofs.AllKinds.{all_kinds}
use Rattle.sg_check.proofs.laws.all_kinds_law.Goals as goal

pub returns : goal.returns
returns c = all_kinds
