use Rattle.sg_odds.proofs.Examples.{odds_are_shown}
use Rattle.sg_odds.proofs.laws.examples_law.Goals as goal

pub returns : goal.returns
returns c = odds_are_shown
