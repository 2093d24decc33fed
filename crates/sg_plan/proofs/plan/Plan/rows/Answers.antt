use Rattle.std.proofs.Common.{arith}
use Rattle.sg_plan.proofs.PlanLaws.{bounds}
use Rattle.sg_plan.proofs.plan.Plan.rows.Goals as goal

pub count_rows-requires : goal.count_rows-requires
count_rows-requires c = omega (arith, (bounds c.args.self.now c.requires.limits).few_ballots)
