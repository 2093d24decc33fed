use Rattle.sg_chances.proofs.Chances.{unaltered_gets_yes}
use Rattle.sg_chances.proofs.laws.chances_law.Goals as goal

pub returns : goal.returns
returns c = unaltered_gets_yes
