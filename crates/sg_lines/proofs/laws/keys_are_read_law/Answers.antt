-- Keys: each is read from its spelling.
use Rattle.sg_lines.proofs.Hex.{keys_are_read}
use Rattle.sg_lines.proofs.laws.keys_are_read_law.Goals as goal

pub returns : goal.returns
returns c = keys_are_read
