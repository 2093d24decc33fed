use Rattle.sg_check.proofs.FineLines.{do_prints_agree}
use Rattle.sg_check.proofs.laws.prints_law.Goals as goal

pub returns : goal.returns
returns c = do_prints_agree
