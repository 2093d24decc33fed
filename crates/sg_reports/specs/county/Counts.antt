-- How the command ends (this project's command line).
use Rattle.std.specs.Prelude.{◌≡◌, ℕ, List, Option, IfSome}
use Rattle.std.specs.Io.KnownBytes.{IsAtEnd}
use Rattle.sg_outside.specs.Streams.{Seen}
use Rattle.sg_outside.specs.TextLines.{lines_of}
use Rattle.sg_outside.specs.declared.outcome.Outcome.{Outcome}
use Rattle.sg_outside.specs.declared.outcome.Outcome.TheVariants as outcome
use Rattle.sg_check.specs.declared.judged.Total.{Total}
use Rattle.sg_county.specs.Bound.{AreSeen, AreSumsBound, Seen as PartSeen}
use Rattle.sg_county.specs.County.{IsCounty, parts_of}
use Rattle.sg_county.specs.Tally.{IsUnsettled}
use Rattle.sg_county.specs.declared.verdict.CountyVerdict.{CountyVerdict}
use Rattle.sg_county.specs.declared.verdict.CountyVerdict.TheVariants.{Yes, Parts}
use Rattle.sg_driver.specs.Says.{Ends, Owing}
use Rattle.sg_driver.specs.Taken.{TookLines, TookOneMore, TookUnended}
use Rattle.sg_reports.specs.county.Report.{report_of}

-- where the source tells its bytes, this is the answer on their lines
abbrev pub Answers : Option (List ℕ) → CountyVerdict → Type 0
Answers known answer = IfSome known (λ bytes. IsCounty (lines_of bytes) answer)

-- where the source tells its bytes, each sum differs from the sum of the parts' counts by at most the sum of the altered rows
-- of its race, whatever was printed for the parts and opens the rest of them
abbrev pub AreBound : Option (List ℕ) → List Total → Type 0
AreBound known totals = IfSome known (λ bytes. (all : List PartSeen) → AreSeen (parts_of (lines_of bytes)) all → AreSumsBound totals all)

-- a part is bad, has other races than the first, or the seal of another
abbrev pub IsBad : CountyVerdict → Type 0
IsBad (Yes totals) = ⊥
IsBad Parts = ⊥
IsBad answer = Unit {0}

-- WHAT IS DUE

-- the answer on the input's bytes is yes, and what it promises holds of the sums in the report, which is the text; the input was
-- read to its end
pub record AnswersYes (text : List ℕ) (before now : Option (List ℕ)) : Type 0 where
  pub totals : List Total
  pub answers : Answers before (Yes totals)
  pub bound : AreBound before totals
  pub read : IsAtEnd now
  pub text_is : text ≡ report_of (Yes totals)

-- such is the answer on the input's bytes, and the text is its report; at most one line, or as many bytes, were taken behind lines
-- that settle nothing
pub record AnswersSo (Such : CountyVerdict → Type 0) (text : List ℕ) (before now : Option (List ℕ)) : Type 0 where
  pub answer : CountyVerdict
  pub such : Such answer
  pub answers : Answers before answer
  pub read : TookOneMore IsUnsettled before now
  pub text_is : text ≡ report_of answer

-- a part is bad; or there are more parts than may stand
abbrev pub CountyDue : Owing
CountyDue outcome.Done text before now = AnswersYes text before now
CountyDue outcome.No text before now = AnswersSo IsBad text before now
CountyDue outcome.Refused text before now = AnswersSo (λ answer. answer ≡ Parts) text before now
CountyDue _ text before now = ⊥

-- how the command ended: what is due was written; a read failed, behind lines that settle nothing; a write failed; or memory was
-- wanted, behind lines that settle nothing; there is no other end
abbrev pub CountySays : Outcome → Seen → Seen → Seen → Seen → Type 0
CountySays = Ends CountyDue (TookUnended IsUnsettled) (TookLines IsUnsettled)
