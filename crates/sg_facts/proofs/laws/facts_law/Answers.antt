-- The parts of the law are proved as lemmas.
use Rattle.sg_facts.proofs.Facts.{are_listed}
use Rattle.sg_facts.proofs.laws.facts_law.Goals as goal

pub returns : goal.returns
returns c = are_listed
