-- What is left to show of `take_line`.
use Rattle.std.proofs.Common.{sym, ◌∙◌}
use Rattle.sg_forms.specs.Said.{said}
use Rattle.sg_keeper.proofs.PlanSteps.{takes_none, takes_other, takes_plan}
use Rattle.sg_keeper.proofs.setup_reading.take_line.Goals as goal

pub returns-in_default-clause-line : goal.returns-in_default-clause-line
returns-in_default-clause-line c = takes_none c.args.expect.now c.args.bytes.now (sym c.in_default.ensures.exact)

pub returns-then-not-is_of_plan-clause-line : goal.returns-then-not-is_of_plan-clause-line
returns-then-not-is_of_plan-clause-line c =
    takes_other c.args.expect.now c.args.bytes.now (said c.in-Some.line) (sym c.in-Some.ensures.exact) (sym c.is_of_plan.ensures ∙ c.if-not-is_of_plan.true)

pub returns-clause-line : goal.returns-clause-line
returns-clause-line c =
    takes_plan c.args.expect.now c.plan_step.new.self c.args.bytes.now (said c.in-Some.line) (sym c.in-Some.ensures.exact) (sym c.is_of_plan.ensures ∙ c.if-not-is_of_plan.false)
    c.in_ok-plan_step.ensures.ok
