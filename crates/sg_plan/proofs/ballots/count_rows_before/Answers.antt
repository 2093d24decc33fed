use Rattle.std.proofs.Common.{arith}
use Rattle.sg_lists.proofs.Bools.{cond_le}
use Rattle.sg_plan.proofs.BallotLists.{rows_step}
use Rattle.sg_plan.proofs.ballots.count_rows_before.Goals as goal
use Rattle.sg_plan.specs.Ballots.{style_has}

pub loop-at-preserved : goal.loop-at-preserved
loop-at-preserved c =
    let has = style_has c.args.plan.now c.args.race in
    let step = rows_step has c.args.plan.now.runs c.loop-at.at c.get-run.result.now c.loop-at.rows c.loop-at.left _ c.get-run.ensures.rest c.loop-at.invariant.rest in
    record {
      few = omega (arith, cond_le (has c.get-run.result.now.style) c.min-count.result);
      rest = rw (c.rows_of_run-rows.ensures, c.min-count.ensures) step;
    }
