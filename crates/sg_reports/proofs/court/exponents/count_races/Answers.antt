-- There are few races.
use Rattle.std.proofs.Common.{length, ap, arith}
use Rattle.sg_plan.proofs.PlanLaws.{bounds}
use Rattle.sg_record.specs.declared.record.Record.{Record}
use Rattle.sg_parts.proofs.Accepting.{good_plan}
use Rattle.sg_reports.proofs.court.exponents.count_races.Goals as goal

pub overflow_cast-result : goal.overflow_cast-result
overflow_cast-result c =
    let posted = c.args.parts.now.posted in
    omega (arith, (bounds posted.plan (good_plan posted c.posted.ensures.parts.accepted)).few_races, c.len.ensures, ap (λ (r : Record). length r.plan.races) c.posted.ensures.posted)
