use Rattle.sg_http.proofs.LawLemmas.{within_limits}
use Rattle.sg_http.proofs.laws.head_law.Goals as goal

pub returns : goal.returns
returns c = within_limits
