use Rattle.sg_clerk.proofs.Staying.{record_stays}
use Rattle.sg_clerk.proofs.laws.record_law.Goals as goal

pub returns : goal.returns
returns c = record_stays
