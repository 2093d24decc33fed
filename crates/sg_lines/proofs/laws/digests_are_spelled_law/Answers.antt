-- Digests: what is read as one is its spelling.
use Rattle.sg_lines.proofs.Hex.{digests_are_spelled}
use Rattle.sg_lines.proofs.laws.digests_are_spelled_law.Goals as goal

pub returns : goal.returns
returns c = digests_are_spelled
