use Rattle.sg_parts.proofs.Finding.{readings_hold}
use Rattle.sg_parts.proofs.laws.readings_law.Goals as goal

pub returns : goal.returns
returns c = readings_hold
