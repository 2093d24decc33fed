use Rattle.std.proofs.Common.{arith}
use Rattle.sg_plan.proofs.PlanLaws.{bounds}
use Rattle.sg_plan.proofs.index_tables.list_ballots.Goals as goal

pub overflow_cast-race : goal.overflow_cast-race
overflow_cast-race c = omega (arith, (bounds c.args.plan.now c.requires).few_races)

pub push_ballots-requires : goal.push_ballots-requires
push_ballots-requires c = (bounds c.args.plan.now c.requires).few_ballots
