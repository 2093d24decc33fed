-- The fault is settled.
use Rattle.std.proofs.Common.{subst}
use Rattle.sg_reports.specs.court.inside.Hearing.{IsSettled}
use Rattle.sg_reports.specs.declared.court.hearing.Taken.{Taken}
use Rattle.sg_reports.proofs.court.hearing.Hearing.end_settled.Goals as goal

pub returns-in-Fault : goal.returns-in-Fault
returns-in-Fault c = λ lines more settled. subst (λ (t : Taken). IsSettled t lines) c.in-Fault.is settled more
