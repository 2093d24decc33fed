-- How an audit ends.
use Rattle.std.specs.Prelude.{◌≡◌, ℕ, List, Option, IfSome}
use Rattle.std.specs.Io.KnownBytes.{IsAtEnd}
use Rattle.sg_outside.specs.Streams.{Seen}
use Rattle.sg_outside.specs.TextLines.{lines_of}
use Rattle.sg_outside.specs.declared.outcome.Outcome.{Outcome}
use Rattle.sg_outside.specs.declared.outcome.Outcome.TheVariants as outcome
use Rattle.sg_check.specs.declared.judged.Judged.{Judged}
use Rattle.sg_check.specs.declared.judged.Judged.TheVariants.{Yes, No}
use Rattle.sg_check.specs.declared.judged.Kind.{Kind}
use Rattle.sg_check.specs.declared.judged.Total.{Total}
use Rattle.sg_driver.specs.Says.{Ends, Owing}
use Rattle.sg_driver.specs.Taken.{TookLines, TookUnended, TookUpTo}
use Rattle.sg_report.specs.Report.{report_of}
use Rattle.sg_fronts.specs.ByRecords.{IsGoodFront, IsPlanFront, Says}
use Rattle.sg_fronts.specs.Promised.{IsPromised}

-- where the source tells its bytes, the verdict says what holds of their lines
abbrev pub Judges : Option (List ℕ) → Judged → Type 0
Judges known judged = IfSome known (λ bytes. Says judged (lines_of bytes))

-- WHAT IS DUE

-- the verdict on the input's bytes is yes, and what it promises holds of the totals in the report, which is the text: the bound on
-- altered rows, over every printing and every completion; the input was read to its end
pub record AnswersYes (text : List ℕ) (before now : Option (List ℕ)) : Type 0 where
  pub totals : List Total
  pub judged : Judges before (Yes totals)
  pub promised : IfSome before (λ bytes. IsPromised (lines_of bytes) totals)
  pub read : IsAtEnd now
  pub text_is : text ≡ report_of (Yes totals)

-- the verdict is no, and the text is its report; fewer than 16,384 bytes behind the line that it names were taken
pub record AnswersNo (text : List ℕ) (before now : Option (List ℕ)) : Type 0 where
  pub line : ℕ
  pub broken : Kind
  pub judged : Judges before (No line broken)
  pub read : TookUpTo line before now
  pub text_is : text ≡ report_of (No line broken)

abbrev pub AuditDue : Owing
AuditDue outcome.Done text before now = AnswersYes text before now
AuditDue outcome.No text before now = AnswersNo text before now
AuditDue _ text before now = ⊥

-- how an audit ended: what is due was written; a read failed, behind lines with which a record begins, none of them bad; a write
-- failed; or memory was wanted, behind such lines of its plan; there is no other end
abbrev pub AuditSays : Outcome → Seen → Seen → Seen → Seen → Type 0
AuditSays = Ends AuditDue (TookUnended IsGoodFront) (TookLines IsPlanFront)
