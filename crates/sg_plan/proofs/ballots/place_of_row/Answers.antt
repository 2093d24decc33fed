use Rattle.std.proofs.Common.{◌<◌, if◌then◌else◌, arith}
use Rattle.sg_lists.proofs.Bools.{cond_le}
use Rattle.sg_plan.proofs.BallotLists.{counts_within, in_run, pass_run, rows_of_run}
use Rattle.sg_plan.proofs.ballots.place_of_row.Goals as goal
use Rattle.sg_plan.specs.Ballots.{style_has}

pub overflow_add-result : goal.overflow_add-result
overflow_add-result c =
    let run = c.get-run.result.now in
    let within = counts_within c.args.plan.now.runs c.loop-at.at run c.get-run.ensures.rest in
    omega (arith, within, cond_le (style_has c.args.plan.now c.args.race run.style) run.count, c.rows_of_run-rows.ensures, c.loop-at.invariant.ballots)

pub overflow_add-passed : goal.overflow_add-passed
overflow_add-passed c =
    let within = counts_within c.args.plan.now.runs c.loop-at.at c.get-run.result.now c.get-run.ensures.rest in
    omega (arith, within, c.loop-at.invariant.ballots)

pub returns-then-left-rows : goal.returns-then-left-rows
returns-then-left-rows c =
    let run = c.get-run.result.now in
    let has = style_has c.args.plan.now c.args.race in
    let below : c.loop-at.left < (if has run.style then run.count else 0) = rw (← c.rows_of_run-rows.ensures) c.if-left-rows.true in
    let found = in_run has c.args.plan.now.runs c.loop-at.at run c.loop-at.left c.args.row c.get-run.ensures.rest below c.loop-at.invariant.rows in
    let within = counts_within c.args.plan.now.runs c.loop-at.at run c.get-run.ensures.rest in
    let inside = (rows_of_run (has run.style) run.count c.loop-at.left below).1 in
    rw c.loop-at.invariant.ballots (record { within = omega (arith, within, inside); has = found.has; row = found.before })

pub loop-at-preserved : goal.loop-at-preserved
loop-at-preserved c =
    let has = style_has c.args.plan.now c.args.race in
    let above = rw c.rows_of_run-rows.ensures at c.if-left-rows.false in
    rw c.rows_of_run-rows.ensures
    (pass_run has c.args.plan.now.runs c.loop-at.at c.get-run.result.now c.loop-at.passed c.loop-at.left c.args.row
    c.get-run.ensures.front c.get-run.ensures.rest above c.loop-at.invariant)
