use Rattle.std.proofs.Common.{◌-◌, sym, ◌∙◌, arith}
use Rattle.sg_plan.proofs.IndexLists.{few_before, row_in_run-false, row_in_run-true, run_tells}
use Rattle.sg_plan.specs.Ballots.{ballot_styles, style_has}
use Rattle.sg_plan.proofs.index_reads.row_of.Goals as goal

pub overflow_sub-result : goal.overflow_sub-result
overflow_sub-result c = omega (arith, c.start_of-start.ensures, c.number_of-number.ensures.from)

pub overflow_add-result : goal.overflow_add-result
overflow_add-result c =
    let runs = c.args.plan.now.runs in
    let has = style_has c.args.plan.now c.args.race in
    let run = c.get-run.result.now in
    let number = c.number_of-number.result in
    let place = c.args.ballot - 1 in
    let tells = run_tells runs place number run c.get-run.ensures.front c.get-run.ensures.rest c.number_of-number.ensures in
    let row = row_in_run-true has runs place number run c.get-run.ensures.rest tells (sym c.style_carries.ensures ∙ c.if-style_carries.true) in
    omega (arith, row, c.count_of-before.ensures, c.start_of-start.ensures, few_before has place (ballot_styles runs))

pub returns-then-style_carries : goal.returns-then-style_carries
returns-then-style_carries c =
    let runs = c.args.plan.now.runs in
    let has = style_has c.args.plan.now c.args.race in
    let run = c.get-run.result.now in
    let number = c.number_of-number.result in
    let place = c.args.ballot - 1 in
    let tells = run_tells runs place number run c.get-run.ensures.front c.get-run.ensures.rest c.number_of-number.ensures in
    let row = row_in_run-true has runs place number run c.get-run.ensures.rest tells (sym c.style_carries.ensures ∙ c.if-style_carries.true) in
    omega (arith, row, c.count_of-before.ensures, c.start_of-start.ensures)

pub returns-else-style_carries : goal.returns-else-style_carries
returns-else-style_carries c =
    let runs = c.args.plan.now.runs in
    let has = style_has c.args.plan.now c.args.race in
    let run = c.get-run.result.now in
    let number = c.number_of-number.result in
    let place = c.args.ballot - 1 in
    let tells = run_tells runs place number run c.get-run.ensures.front c.get-run.ensures.rest c.number_of-number.ensures in
    c.count_of-before.ensures ∙ sym (row_in_run-false has runs place number run c.get-run.ensures.rest tells (sym c.style_carries.ensures ∙ c.if-style_carries.false))
