use Rattle.sg_grammar.proofs.Ranges.{lines_are_in_plan}
use Rattle.sg_grammar.proofs.laws.numbers_law.Goals as goal

pub returns : goal.returns
returns c = lines_are_in_plan
