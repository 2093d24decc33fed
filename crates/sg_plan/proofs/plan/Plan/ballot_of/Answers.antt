use Rattle.std.proofs.Common.{arith}
use Rattle.sg_plan.proofs.PlanLaws.{bounds}
use Rattle.sg_plan.proofs.plan.Plan.ballot_of.Goals as goal

pub overflow_cast-candidates : goal.overflow_cast-candidates
overflow_cast-candidates c = omega (arith, (bounds c.args.self.now c.requires.limits).few_candidates c.args.race)

pub place_of_row-requires-clause-few : goal.place_of_row-requires-clause-few
place_of_row-requires-clause-few c = omega (arith, (bounds c.args.self.now c.requires.limits).few_ballots)

pub overflow_add-result : goal.overflow_add-result
overflow_add-result c = omega (arith, (bounds c.args.self.now c.requires.limits).few_ballots)
