use Rattle.sg_check.proofs.FineLines.{do_flags_agree}
use Rattle.sg_check.proofs.laws.flags_law.Goals as goal

pub returns : goal.returns
returns c = do_flags_agree
