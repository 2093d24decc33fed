-- How an audit ends.
use Rattle.std.proofs.Common.{ℕ, List, refl, sym, subst}
use Rattle.std.specs.Prelude.{IfSome, Option}
use Rattle.sg_outside.specs.Streams.{Seen}
use Rattle.sg_outside.specs.TextLines.{lines_of}
use Rattle.sg_outside.specs.declared.outcome.Outcome.{Outcome}
use Rattle.sg_outside.specs.declared.outcome.Outcome.TheVariants as outcome
use Rattle.sg_check.proofs.Accepted.{yes_is_sound}
use Rattle.sg_check.specs.Verdict.{AreFine, IsVerdict}
use Rattle.sg_check.specs.declared.judged.Judged.{Judged}
use Rattle.sg_check.specs.declared.judged.Judged.TheVariants.{Yes, No}
use Rattle.sg_driver.proofs.Cut.{some_then}
use Rattle.sg_driver.proofs.Telling.{ends_due}
use Rattle.sg_driver.specs.Says.{Ends, HasRead, IsDue, Says}
use Rattle.sg_driver.specs.Taken.{TookLines, TookUnended}
use Rattle.sg_report.specs.Report.{report_of}
use Rattle.sg_fronts.proofs.Promised.{sound_is_promised}
use Rattle.sg_reports.specs.audit.Audit.{AuditDue, AuditSays}
use Rattle.sg_reports.specs.inside.Judging.{AreOfPlan, audit, verdict_outcome}
use Rattle.sg_reports.proofs.Auditing.Judging.{fine_front, of_plan_front, took_lines-as, took_unended-as, verdict_says}
use Rattle.sg_reports.proofs.Auditing.Reading.{no-read}

-- a verdict is due
verdict_due : (verdict : Judged) (before now : Option (List ℕ)) → IfSome before (λ bytes. IsVerdict (lines_of bytes) verdict) → HasRead audit verdict before now
    → AuditDue (verdict_outcome verdict) (report_of verdict) before now
verdict_due (Yes totals) before now judged read = record {
  totals = totals;
  judged = verdict_says before (Yes totals) judged;
  promised = some_then before judged (λ bytes is. sound_is_promised (lines_of bytes) totals (yes_is_sound (lines_of bytes) totals is));
  read = read.ended (λ denied. denied);
  text_is = refl;
}
verdict_due (No line broken) before now judged read =
    record { line = line; broken = broken; judged = verdict_says before (No line broken) judged; read = no-read before now line broken judged read.took; text_is = refl }

audit_due : (outcome : Outcome) (text : List ℕ) (before now : Option (List ℕ)) → IsDue audit outcome text before now → AuditDue outcome text before now
audit_due outcome text before now due =
    subst (λ (o : Outcome). AuditDue o text before now) (sym due.outcome_is)
    (subst (λ (t : List ℕ). AuditDue (verdict_outcome due.answer) t before now) (sym due.text_is) (verdict_due due.answer before now due.answers due.read))

-- what was taken is said by records
by_records : (outcome : Outcome) (input input' out out' : Seen) → Ends AuditDue (TookUnended AreFine) (TookLines AreOfPlan) outcome input input' out out' → AuditSays outcome input input' out out'
by_records outcome.ReadFailed input input' out out' said =
    record { cause = said.cause; taken = took_unended-as input.bytes input'.bytes fine_front said.taken; written = said.written }
by_records outcome.NoMemory input input' out out' said = record { taken = took_lines-as input.bytes input'.bytes of_plan_front said.taken; written = said.written }
by_records outcome.Done input input' out out' said = said
by_records outcome.No input input' out out' said = said
by_records outcome.Refused input input' out out' said = said
by_records outcome.WriteFailed input input' out out' said = said
by_records _ input input' out out' said = said

pub audit_said : (how : Outcome) (input input' out out' : Seen) → Says audit how input input' out out' → AuditSays how input input' out out'
audit_said how input input' out out' says =
    by_records how input input' out out' (ends_due (IsDue audit) AuditDue (TookUnended AreFine) (TookLines AreOfPlan) audit_due how input input' out out' says)
