-- The ballot is one of the plan, and its row one of the race's.
use Rattle.sg_plan.proofs.PlanLaws.{ballot_has-true, rows_are_one}
use Rattle.sg_desks.proofs.BallotRaces.{race_within}
use Rattle.sg_desks.proofs.races.know_race.Goals as goal

pub returns-clause-first : goal.returns-clause-first
returns-clause-first c = (ballot_has-true c.args.index.now c.args.ballot c.args.race c.requires).first

pub returns-clause-last : goal.returns-clause-last
returns-clause-last c = (ballot_has-true c.args.index.now c.args.ballot c.args.race c.requires).last

pub returns-clause-race : goal.returns-clause-race
returns-clause-race c = race_within c.args.index.now c.args.ballot c.args.race c.plan-plan.ensures.good c.requires

pub returns-clause-row : goal.returns-clause-row
returns-clause-row c = (rows_are_one c.args.index.now c.args.race).below c.args.ballot c.requires
