-- Keys: what is read as one is its spelling.
use Rattle.sg_lines.proofs.Hex.{keys_are_spelled}
use Rattle.sg_lines.proofs.laws.keys_are_spelled_law.Goals as goal

pub returns : goal.returns
returns c = keys_are_spelled
