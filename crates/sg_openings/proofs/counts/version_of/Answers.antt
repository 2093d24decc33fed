-- A plan that keeps its limits is of a version.
use Rattle.sg_plan.proofs.LimitLaws.{keeps_limits, passes_tests}
use Rattle.sg_openings.proofs.counts.version_of.Goals as goal

pub returns-clause-known : goal.returns-clause-known
returns-clause-known c = (keeps_limits c.args.tables.now.plan (passes_tests c.args.tables.now.plan c.plan.ensures.limits)).version
