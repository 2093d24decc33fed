-- What is found of all parts, or their fault.
use Rattle.std.proofs.Common.{subst, sym}
use Rattle.sg_parts.specs.Faults.{HasFault}
use Rattle.sg_parts.specs.declared.parts.RecountFault.{RecountFault}
use Rattle.sg_reports.proofs.court.hearing.end_parts.Goals as goal

pub returns-in_ok-found-in-Ok : goal.returns-in_ok-found-in-Ok
returns-in_ok-found-in-Ok c = λ lines read. record { given = c.in-Ok.parts; is_given = c.in-Ok.ensures.parts lines read; is_found = c.in_ok-found-in-Ok.ensures }

pub returns-in_ok-fault-in-Err : goal.returns-in_ok-fault-in-Err
returns-in_ok-fault-in-Err c = λ lines read. (
  c.in_ok-fault-in-Err.ensures.0,
  subst (λ (f : RecountFault). HasFault lines f) (sym c.in_ok-fault-in-Err.ensures.1) (c.in-Err.ensures.fault lines read),
)
