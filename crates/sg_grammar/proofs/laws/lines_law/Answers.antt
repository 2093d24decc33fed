use Rattle.sg_grammar.proofs.FrontLaws.{lines_are_few}
use Rattle.sg_grammar.proofs.laws.lines_law.Goals as goal

pub returns : goal.returns
returns c = lines_are_few
