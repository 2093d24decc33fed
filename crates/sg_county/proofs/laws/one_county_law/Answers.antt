use Rattle.sg_county.proofs.One.{one_county}
use Rattle.sg_county.proofs.laws.one_county_law.Goals as goal

pub returns : goal.returns
returns c = one_county
