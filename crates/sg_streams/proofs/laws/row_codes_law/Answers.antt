use Rattle.sg_streams.proofs.Drawn.{row_codes_law}
use Rattle.sg_streams.proofs.laws.row_codes_law.Goals as goal

pub returns : goal.returns
returns c = row_codes_law
