-- Digests: each is read from its spelling.
use Rattle.sg_lines.proofs.Hex.{digests_are_read}
use Rattle.sg_lines.proofs.laws.digests_are_read_law.Goals as goal

pub returns : goal.returns
returns c = digests_are_read
