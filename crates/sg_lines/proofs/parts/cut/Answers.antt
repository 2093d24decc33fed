-- A text without a separator is one part.
use Rattle.sg_lines.proofs.Splitting.{cut_nowhere}
use Rattle.sg_lines.proofs.parts.cut.Goals as goal

pub returns-in-None : goal.returns-in-None
returns-in-None c = cut_nowhere c.args.separator c.args.text.now c.in-None.ensures
