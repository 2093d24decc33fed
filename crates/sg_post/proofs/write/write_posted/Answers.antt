-- The pen is one of the plan's version, and its lines are the text.
use Rattle.std.proofs.Common.{ap, ◌∙◌}
use Rattle.sg_plan.proofs.LimitLaws.{keeps_limits, passes_tests}
use Rattle.sg_plan.specs.declared.plan.Plan.{Plan}
use Rattle.sg_post.proofs.write.write_posted.Goals as goal

pub sealing-requires : goal.sealing-requires
sealing-requires g c = (keeps_limits c.plan.result.now (passes_tests c.plan.result.now (rw c.plan.ensures.plan c.plan.ensures.limits))).version

pub put_story-requires-clause-version : goal.put_story-requires-clause-version
put_story-requires-clause-version g c = c.in-Ok.ensures.0 ∙ ap (λ (p : Plan). p.version) c.plan.ensures.plan
