-- Numbers: each is read from its spelling.
use Rattle.sg_lines.proofs.Numbers.{decimals_are_read}
use Rattle.sg_lines.proofs.laws.decimals_are_read_law.Goals as goal

pub returns : goal.returns
returns c = decimals_are_read
