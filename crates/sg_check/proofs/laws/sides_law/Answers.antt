use Rattle.sg_check.proofs.FineLines.{sides_are_drawn}
use Rattle.sg_check.proofs.laws.sides_law.Goals as goal

pub returns : goal.returns
returns c = sides_are_drawn
