-- Keys, digests and other bytes: different ones have different spellings.
use Rattle.sg_lines.proofs.Hex.{bytes_differ}
use Rattle.sg_lines.proofs.laws.bytes_differ_law.Goals as goal

pub returns : goal.returns
returns c = bytes_differ
