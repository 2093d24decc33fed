use Rattle.sg_grammar.proofs.FrontLaws.{totals_are_few}
use Rattle.sg_grammar.proofs.laws.few_totals_law.Goals as goal

pub returns : goal.returns
returns c = totals_are_few
