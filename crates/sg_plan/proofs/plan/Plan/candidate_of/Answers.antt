use Rattle.std.proofs.Common.{arith}
use Rattle.sg_plan.proofs.PlanLaws.{bounds}
use Rattle.sg_plan.proofs.plan.Plan.candidate_of.Goals as goal

pub overflow_cast-result : goal.overflow_cast-result
overflow_cast-result c = omega (arith, (bounds c.args.self.now c.requires.limits).few_candidates c.args.race)

pub nonzero_rem-result : goal.nonzero_rem-result
nonzero_rem-result c = omega (arith, (bounds c.args.self.now c.requires.limits).two_candidates c.args.race c.requires.race)
