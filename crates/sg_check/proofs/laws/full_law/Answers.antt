use Rattle.sg_check.proofs.BoundLaws.{full_draw_equals}
use Rattle.sg_check.proofs.laws.full_law.Goals as goal

pub returns : goal.returns
returns c = full_draw_equals
