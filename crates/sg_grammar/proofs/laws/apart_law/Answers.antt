use Rattle.sg_grammar.proofs.Wholes.{lines_stand_apart}
use Rattle.sg_grammar.proofs.laws.apart_law.Goals as goal

pub returns : goal.returns
returns c = lines_stand_apart
