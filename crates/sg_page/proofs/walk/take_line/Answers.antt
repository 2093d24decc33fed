-- What the steps before give.
use Rattle.std.proofs.Common.{ap, sym, ◌∙◌}
use Rattle.sg_forms.specs.Reading.{line_of}
use Rattle.sg_forms.specs.Said.{said}
use Rattle.sg_plan.specs.declared.plan.Plan.{Plan}
use Rattle.sg_page.proofs.Picking.{found_behind, found_no_line, found_nowhere, found_of_plan}
use Rattle.sg_page.proofs.walk.take_line.Goals as goal

pub returns-in_default : goal.returns-in_default
returns-in_default c =
    found_no_line c.args.wanted c.args.expect.now c.args.bytes.now (ap (λ (p : Plan). line_of p.version c.args.bytes.now) (sym c.plan.ensures.is) ∙ sym c.in_default.ensures.exact)

pub returns-then-is_of_plan : goal.returns-then-is_of_plan
returns-then-is_of_plan c =
    found_of_plan c.args.wanted c.args.expect.now c.plan_step.new.self c.args.bytes.now (said c.in-Some.line) c.wants_plan.result
    (ap (λ (p : Plan). line_of p.version c.args.bytes.now) (sym c.plan.ensures.is) ∙ sym c.in-Some.ensures.exact) (sym c.is_of_plan.ensures ∙ c.if-is_of_plan.true) c.in_ok-plan_step.ensures.ok
    c.wants_plan.ensures

pub returns-in_default-stand : goal.returns-in_default-stand
returns-in_default-stand c =
    found_nowhere c.args.wanted c.args.expect.now c.args.bytes.now (said c.in-Some.line)
    (ap (λ (p : Plan). line_of p.version c.args.bytes.now) (sym c.plan.ensures.is) ∙ sym c.in-Some.ensures.exact) (sym c.in_default-stand.ensures.taken)

pub returns : goal.returns
returns c =
    found_behind c.args.wanted c.args.expect.now c.go_on.new.self c.args.bytes.now (said c.in-Some.line) c.in-Some-stand.standing c.wants.result
    (ap (λ (p : Plan). line_of p.version c.args.bytes.now) (sym c.plan.ensures.is) ∙ sym c.in-Some.ensures.exact) (sym c.in-Some-stand.ensures.taken) c.go_on.ensures c.wants.ensures
