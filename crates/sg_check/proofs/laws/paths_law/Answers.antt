use Rattle.sg_check.proofs.FineLines.{do_paths_agree}
use Rattle.sg_check.proofs.laws.paths_law.Goals as goal

pub returns : goal.returns
returns c = do_paths_agree
