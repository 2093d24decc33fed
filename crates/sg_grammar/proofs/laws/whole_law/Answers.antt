use Rattle.sg_grammar.proofs.Wholes.{whole_has_each}
use Rattle.sg_grammar.proofs.laws.whole_law.Goals as goal

pub returns : goal.returns
returns c = whole_has_each
