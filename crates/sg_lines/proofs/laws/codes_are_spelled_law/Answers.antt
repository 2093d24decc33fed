-- Codes of each version: what is read as one is its spelling.
use Rattle.sg_lines.proofs.Signs.{codes_are_spelled}
use Rattle.sg_lines.proofs.laws.codes_are_spelled_law.Goals as goal

pub returns : goal.returns
returns c = codes_are_spelled
