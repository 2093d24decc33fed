-- The race is one of the plan, and so is the ballot.
use Rattle.sg_plan.proofs.PlanLaws.{ballot_has-true}
use Rattle.sg_sheet.proofs.Styles.{has-in_plan}
use Rattle.sg_sheet.proofs.due.codes_due.Goals as goal

pub row-requires-clause-race : goal.row-requires-clause-race
row-requires-clause-race c = has-in_plan c.args.index.now c.args.ballot c.args.race c.plan.ensures.good c.requires.has

pub row-requires-clause-first : goal.row-requires-clause-first
row-requires-clause-first c = (ballot_has-true c.args.index.now c.args.ballot c.args.race c.requires.has).first

pub row-requires-clause-last : goal.row-requires-clause-last
row-requires-clause-last c = (ballot_has-true c.args.index.now c.args.ballot c.args.race c.requires.has).last
