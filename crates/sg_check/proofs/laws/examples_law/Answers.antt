use Rattle.sg_check.proofs.KindExamples.{kinds_shown}
use Rattle.sg_check.proofs.laws.examples_law.Goals as goal

pub returns : goal.returns
returns c = kinds_shown
