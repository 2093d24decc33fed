-- A plan without a fault is small.
use Rattle.std.proofs.Common.{◌≡◌, length, arith, ap, ◌∙◌}
use Rattle.sg_plan.specs.declared.plan.Plan.{Plan}
use Rattle.sg_post.proofs.counts.count_races.Goals as goal

pub overflow_cast-result : goal.overflow_cast-result
overflow_cast-result c =
    let many : c.len.result ≡ length c.args.tables.now.plan.races = c.len.ensures ∙ ap (λ (p : Plan). length p.races) c.plan.ensures.plan in
    omega (arith, many, (c.bounds_law.ensures c.args.tables.now.plan c.plan.ensures.limits).few_races)

pub returns-clause-few : goal.returns-clause-few
returns-clause-few c =
    let many : c.len.result ≡ length c.args.tables.now.plan.races = c.len.ensures ∙ ap (λ (p : Plan). length p.races) c.plan.ensures.plan in
    omega (arith, many, (c.bounds_law.ensures c.args.tables.now.plan c.plan.ensures.limits).few_races)

pub returns-clause-few_instances : goal.returns-clause-few_instances
returns-clause-few_instances c = (c.bounds_law.ensures c.args.tables.now.plan c.plan.ensures.limits).few_instances

pub returns-clause-few_candidates : goal.returns-clause-few_candidates
returns-clause-few_candidates c = (c.bounds_law.ensures c.args.tables.now.plan c.plan.ensures.limits).few_candidates
