use Rattle.sg_check.proofs.FineLines.{do_openings_open}
use Rattle.sg_check.proofs.laws.openings_law.Goals as goal

pub returns : goal.returns
returns c = do_openings_open
