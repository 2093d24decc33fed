use Rattle.std.proofs.Common.{◌++◌}
use Rattle.sg_plan.proofs.IndexLists.{ballots-step, left-step}
use Rattle.sg_plan.specs.Ballots.{ballot_styles, style_has}
use Rattle.sg_plan.specs.inside.Index.{ballots_with}
use Rattle.sg_plan.proofs.index_tables.push_ballots.Goals as goal

pub push_rising-requires : goal.push_rising-requires
push_rising-requires c =
    let has = style_has c.args.plan.now c.args.race in
    rw c.rows_of_run-rows.ensures ((left-step has c.args.plan.now.runs c.loop-at.at c.loop-at.first c.get-run.result.now 20001 c.get-run.ensures.rest c.loop-at.invariant.few).2)

pub loop-at-preserved : goal.loop-at-preserved
loop-at-preserved c =
    let runs = c.args.plan.now.runs in
    let has = style_has c.args.plan.now c.args.race in
    let run = c.get-run.result.now in
    let kept = c.loop-at.invariant in
    record {
      few = (left-step has runs c.loop-at.at c.loop-at.first run 20001 c.get-run.ensures.rest kept.few).1;
      rest = rw (c.in_ok-push_rising.ensures, c.rows_of_run-rows.ensures)
          (ballots-step has runs c.loop-at.at c.loop-at.first run c.loop-at.ballots (c.args.ballots.now ++ ballots_with has 1 (ballot_styles runs)) c.get-run.ensures.rest kept.rest);
    }
