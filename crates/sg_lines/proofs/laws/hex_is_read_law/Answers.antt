-- Bytes of any number: all are read from their spelling.
use Rattle.sg_lines.proofs.Hex.{hex_is_read}
use Rattle.sg_lines.proofs.laws.hex_is_read_law.Goals as goal

pub returns : goal.returns
returns c = hex_is_read
