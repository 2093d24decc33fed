use Rattle.sg_check.proofs.Posting.{completion_exists}
use Rattle.sg_check.proofs.laws.completion_law.Goals as goal

pub returns : goal.returns
returns c = completion_exists
