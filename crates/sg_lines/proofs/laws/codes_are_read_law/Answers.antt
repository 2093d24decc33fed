-- Codes of each version: each is read from its spelling.
use Rattle.sg_lines.proofs.Signs.{codes_are_read}
use Rattle.sg_lines.proofs.laws.codes_are_read_law.Goals as goal

pub returns : goal.returns
returns c = codes_are_read
