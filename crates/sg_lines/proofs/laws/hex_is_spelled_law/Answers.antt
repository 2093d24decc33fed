-- Bytes of any number: what is read as bytes is their spelling.
use Rattle.sg_lines.proofs.Hex.{hex_is_spelled}
use Rattle.sg_lines.proofs.laws.hex_is_spelled_law.Goals as goal

pub returns : goal.returns
returns c = hex_is_spelled
