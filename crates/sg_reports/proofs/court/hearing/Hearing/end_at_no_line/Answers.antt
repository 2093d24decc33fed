-- The fault of all parts.
use Rattle.std.proofs.Common.{List, ℕ, subst, sym}
use Rattle.std.specs.Prelude.{IfOk}
use Rattle.sg_parts.specs.Reads.{HasRead}
use Rattle.sg_parts.specs.declared.reading.PartsReading.{PartsReading}
use Rattle.sg_reports.specs.court.inside.Answering.{EndsAtNoLine}
use Rattle.sg_reports.specs.court.inside.Hearing.{Stands}
use Rattle.sg_reports.specs.declared.court.hearing.Taken.{Taken}
use Rattle.sg_reports.proofs.court.hearing.Hearing.end_at_no_line.Goals as goal

pub returns-in-Parts : goal.returns-in-Parts
returns-in-Parts c =
    subst (λ (t : Taken). IfOk c.parts_fault.result (λ fault. (lines : List (List ℕ)) → Stands t lines → EndsAtNoLine lines fault)) (sym c.in-Parts.is)
    (subst (λ (p : PartsReading). IfOk c.parts_fault.result (λ fault. (lines : List (List ℕ)) → HasRead p lines → EndsAtNoLine lines fault)) c.in-Parts.parts-is c.parts_fault.ensures)
