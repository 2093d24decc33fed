-- Numbers: different ones have different spellings.
use Rattle.sg_lines.proofs.Numbers.{decimals_differ}
use Rattle.sg_lines.proofs.laws.decimals_differ_law.Goals as goal

pub returns : goal.returns
returns c = decimals_differ
