-- The sums are bound by the altered rows.
use Rattle.sg_recount.proofs.Bounding.{sums_bound}
use Rattle.sg_recount.proofs.findings.recount.Goals as goal

pub returns-clause-bound : goal.returns-clause-bound
returns-clause-bound c = sums_bound c.args.parts.now c.in_ok-findings.findings c.posted.ensures.parts c.in_ok-findings.ensures
