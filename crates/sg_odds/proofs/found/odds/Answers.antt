-- What is found of the parts is within the law.
use Rattle.sg_odds.proofs.Bounding.{found_is_bound}
use Rattle.sg_odds.proofs.found.odds.Goals as goal

pub returns-clause-bound : goal.returns-clause-bound
returns-clause-bound c = found_is_bound c.args.parts.now c.args.race c.in_ok-found.found c.posted.ensures.parts c.requires.race c.in_ok-found.ensures
