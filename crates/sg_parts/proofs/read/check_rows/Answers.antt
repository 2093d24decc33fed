-- Each row is right, or this is the first that isn't.
use Rattle.std.proofs.Common.{None, Some, subst, arith}
use Rattle.sg_plan.proofs.PlanLaws.{bounds}
use Rattle.sg_plan.specs.declared.plan.Plan.{Plan}
use Rattle.sg_parts.proofs.Halves.{right_true}
use Rattle.sg_parts.proofs.Holding.{rows_fault}
use Rattle.sg_parts.specs.inside.Checks.{FirstRow, row_right}
use Rattle.sg_parts.proofs.read.check_rows.Goals as goal

pub row_fault-requires-clause-race : goal.row_fault-requires-clause-race
row_fault-requires-clause-race c = omega (arith, c.in-Some.ensures.within.0, (bounds c.args.index.now c.plan.ensures.good).few_races)

pub row_fault-requires-clause-instance : goal.row_fault-requires-clause-instance
row_fault-requires-clause-instance c = omega (arith, c.in-Some.ensures.within.1, (bounds c.args.index.now c.plan.ensures.good).few_instances)

pub returns-in-Some-clause-err : goal.returns-in-Some-clause-err
returns-in-Some-clause-err c =
    let first = subst (λ (p : Plan). FirstRow p (row_right c.args.posted.now c.args.rows.now) (Some c.in-Some.at)) c.requires c.in-Some.ensures in
    rw c.row_fault.ensures (rows_fault c.args.posted.now c.args.rows.now c.in-Some.at first)

pub returns-in-None-clause-ok : goal.returns-in-None-clause-ok
returns-in-None-clause-ok c =
    let all = subst (λ (p : Plan). FirstRow p (row_right c.args.posted.now c.args.rows.now) None) c.requires c.in-None.ensures in
    λ race instance row half. right_true c.args.posted.now c.args.rows.now race instance row (all race instance row half)
