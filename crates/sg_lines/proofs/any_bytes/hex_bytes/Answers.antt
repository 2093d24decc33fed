-- A word of an odd length spells no bytes.
use Rattle.sg_lines.proofs.Hex.{hex_of-odd}
use Rattle.sg_lines.proofs.any_bytes.hex_bytes.Goals as goal

pub returns-then-word-ne0 : goal.returns-then-word-ne0
returns-then-word-ne0 c = hex_of-odd c.args.word.now c.if-word-ne0.true
