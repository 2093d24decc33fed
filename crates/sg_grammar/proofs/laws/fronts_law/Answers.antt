use Rattle.sg_grammar.proofs.FrontLaws.{first_lines_are_front}
use Rattle.sg_grammar.proofs.laws.fronts_law.Goals as goal

pub returns : goal.returns
returns c = first_lines_are_front
