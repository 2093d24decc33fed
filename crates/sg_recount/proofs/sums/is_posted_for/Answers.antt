-- A race has few candidates.
use Rattle.std.proofs.Common.{arith}
use Rattle.sg_plan.proofs.PlanLaws.{bounds}
use Rattle.sg_recount.specs.inside.Basis.{plan_in}
use Rattle.sg_recount.proofs.sums.is_posted_for.Goals as goal

pub overflow_cast-candidates : goal.overflow_cast-candidates
overflow_cast-candidates c = omega (arith, (bounds (plan_in c.args.basis.now) c.requires.basis.good).few_candidates c.args.race, c.candidates-candidates.ensures)
