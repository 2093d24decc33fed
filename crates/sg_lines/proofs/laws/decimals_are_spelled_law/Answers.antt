-- Numbers: what is read as one is its spelling.
use Rattle.sg_lines.proofs.Numbers.{decimals_are_spelled}
use Rattle.sg_lines.proofs.laws.decimals_are_spelled_law.Goals as goal

pub returns : goal.returns
returns c = decimals_are_spelled
