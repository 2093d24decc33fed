use Rattle.sg_clerk.proofs.Staying.{sheet_has_papers}
use Rattle.sg_clerk.proofs.laws.sheet_law.Goals as goal

pub returns : goal.returns
returns c = sheet_has_papers
