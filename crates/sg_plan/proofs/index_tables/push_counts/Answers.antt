use Rattle.std.proofs.Common.{◌++◌}
use Rattle.sg_plan.proofs.IndexLists.{counts-step, left-step}
use Rattle.sg_plan.specs.Ballots.{style_has}
use Rattle.sg_plan.specs.inside.Index.{counts_before}
use Rattle.sg_plan.proofs.index_tables.push_counts.Goals as goal

pub loop-at-preserved : goal.loop-at-preserved
loop-at-preserved c =
    let runs = c.args.plan.now.runs in
    let has = style_has c.args.plan.now c.args.race in
    let run = c.get-run.result.now in
    let kept = c.loop-at.invariant in
    record {
      few = rw c.rows_of_run-rows.ensures ((left-step has runs c.loop-at.at c.loop-at.count run 20000 c.get-run.ensures.rest kept.few).3);
      rest = rw (c.in_ok-push.ensures.ok, c.rows_of_run-rows.ensures) (counts-step has runs c.loop-at.at c.loop-at.count run c.loop-at.counts (c.args.counts.now ++ counts_before has 0 runs) c.get-run.ensures.rest kept.rest);
    }
