use Rattle.std.proofs.Common.{arith}
use Rattle.sg_plan.proofs.PlanLaws.{bounds}
use Rattle.sg_plan.proofs.plan.Plan.ballots.Goals as goal

pub count_ballots-requires : goal.count_ballots-requires
count_ballots-requires c = omega (arith, (bounds c.args.self.now c.requires).few_ballots)
