use Rattle.sg_check.proofs.FineLines.{pointers_stand_once}
use Rattle.sg_check.proofs.laws.pointers_law.Goals as goal

pub returns : goal.returns
returns c = pointers_stand_once
