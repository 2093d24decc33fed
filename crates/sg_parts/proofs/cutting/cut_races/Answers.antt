-- The rows of one more race are cut.
use Rattle.std.proofs.Common.{length, refl, ap, arith}
use Rattle.sg_plan.proofs.PlanLaws.{bounds}
use Rattle.sg_plan.specs.declared.plan.Plan.{Plan}
use Rattle.sg_parts.proofs.Cuts.{few_rows, races_all, races_more, races_start}
use Rattle.sg_parts.proofs.cutting.cut_races.Goals as goal

pub loop-race-init : goal.loop-race-init
loop-race-init c = races_start c.args.index.now c.args.rows.now c.in_ok-cut.cut c.in_ok-cut.ensures

pub overflow_cast-race : goal.overflow_cast-race
overflow_cast-race c = omega (arith, (bounds c.args.index.now c.plan-plan.ensures.good).few_races, c.loop-race-test.true, c.len-race-end.ensures, ap (λ (p : Plan). length p.races) c.plan-plan.ensures.plan)

pub overflow_add-next : goal.overflow_add-next
overflow_add-next c =
    let less = few_rows c.args.index.now c.plan-plan.result.now c.loop-race.race c.loop-race.done c.entries-count.result c.plan-plan.ensures.plan (omega (arith, c.loop-race-test.true, c.len-race-end.ensures)) c.loop-race.invariant.done_are c.entries-count.ensures in
    omega (arith, less, (bounds c.args.index.now c.plan-plan.ensures.good).few_r_rows)

pub offset_bounds-rows-done : goal.offset_bounds-rows-done
offset_bounds-rows-done c =
    let less = few_rows c.args.index.now c.plan-plan.result.now c.loop-race.race c.loop-race.done c.entries-count.result c.plan-plan.ensures.plan (omega (arith, c.loop-race-test.true, c.len-race-end.ensures)) c.loop-race.invariant.done_are c.entries-count.ensures in
    omega (arith, less, (bounds c.args.index.now c.plan-plan.ensures.good).few_r_rows)

pub slice_bounds-cut_instances-end : goal.slice_bounds-cut_instances-end
slice_bounds-cut_instances-end c =
    let less = few_rows c.args.index.now c.plan-plan.result.now c.loop-race.race c.loop-race.done c.entries-count.result c.plan-plan.ensures.plan (omega (arith, c.loop-race-test.true, c.len-race-end.ensures)) c.loop-race.invariant.done_are c.entries-count.ensures in
    omega (arith, less, c.requires)

pub loop-race-preserved : goal.loop-race-preserved
loop-race-preserved c =
    races_more c.args.index.now c.plan-plan.result.now c.loop-race.race c.loop-race.done _ c.entries-count.result c.args.rows.now _ c.in_ok-here.here c.loop-race.cut c.push.new.self c.loop-race.invariant c.plan-plan.ensures.plan
    c.entries-count.ensures refl refl c.in_ok-here.ensures c.in_ok-push.ensures.ok

pub returns : goal.returns
returns c =
    races_all c.args.index.now c.loop-race.race c.loop-race.done c.args.rows.now c.loop-race.cut c.loop-race.invariant
    (omega (arith, c.loop-race-test.false, c.loop-race.auto.race-end, c.len-race-end.ensures, ap (λ (p : Plan). length p.races) c.plan-plan.ensures.plan)) c.requires
