-- What the steps before give.
use Rattle.std.proofs.Common.{sym, ap, ◌∙◌}
use Rattle.sg_forms.specs.Reading.{line_of}
use Rattle.sg_forms.specs.Said.{said}
use Rattle.sg_plan.specs.declared.plan.Plan.{Plan}
use Rattle.sg_record.proofs.GatherLaw.{plan_line-gathers}
use Rattle.sg_record.proofs.read.Reading.take.Goals as goal
use Rattle.sg_record.specs.inside.Growing.{so_far}

pub returns-then-is_of_plan : goal.returns-then-is_of_plan
returns-then-is_of_plan c =
    plan_line-gathers (so_far c.args.self.now) c.args.bytes.now (said c.in-Some.line) c.plan_step.new.self
    (ap (λ (p : Plan). line_of p.version c.args.bytes.now) (sym c.plan.ensures.is) ∙ sym c.in-Some.ensures.exact) (sym c.is_of_plan.ensures ∙ c.if-is_of_plan.true) c.in_ok-plan_step.ensures.ok
