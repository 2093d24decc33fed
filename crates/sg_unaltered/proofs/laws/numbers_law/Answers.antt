-- The law is proved as a lemma.
use Rattle.sg_unaltered.proofs.Numbers.{numbers_are_left}
use Rattle.sg_unaltered.proofs.laws.numbers_law.Goals as goal

pub returns : goal.returns
returns c = numbers_are_left
