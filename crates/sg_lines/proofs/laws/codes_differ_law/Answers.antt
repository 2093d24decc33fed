-- Codes of each version: different ones have different spellings.
use Rattle.sg_lines.proofs.Signs.{codes_differ}
use Rattle.sg_lines.proofs.laws.codes_differ_law.Goals as goal

pub returns : goal.returns
returns c = codes_differ
