-- How the command ends.
use Rattle.std.proofs.Common.{ℕ, List, Some, None, refl, sym, subst}
use Rattle.std.specs.Prelude.{Option}
use Rattle.sg_outside.specs.Streams.{Seen}
use Rattle.sg_outside.specs.TextLines.{lines_of}
use Rattle.sg_outside.specs.declared.outcome.Outcome.{Outcome}
use Rattle.sg_check.specs.declared.judged.Total.{Total}
use Rattle.sg_county.proofs.Bounding.{sums_bound}
use Rattle.sg_county.specs.Tally.{IsUnsettled}
use Rattle.sg_county.specs.declared.verdict.CountyVerdict.{CountyVerdict}
use Rattle.sg_county.specs.declared.verdict.CountyVerdict.TheVariants.{Yes, No, Differs, Repeats, Parts}
use Rattle.sg_driver.proofs.Telling.{ends_due}
use Rattle.sg_driver.specs.Says.{HasRead, IsDue, Says}
use Rattle.sg_driver.specs.Taken.{TookLines, TookUnended}
use Rattle.sg_reports.specs.county.Counts.{Answers, AreBound, CountyDue, CountySays}
use Rattle.sg_reports.specs.county.Report.{report_of}
use Rattle.sg_reports.specs.inside.Judging.{county, county_outcome}

-- the sums of a yes are bound
told_bound : (known : Option (List ℕ)) (totals : List Total) → Answers known (Yes totals) → AreBound known totals
told_bound None totals answers = tt
told_bound (Some bytes) totals answers = λ all are. sums_bound (lines_of bytes) totals all answers are

-- an answer is due
answer_due : (answer : CountyVerdict) (before now : Option (List ℕ)) → Answers before answer → HasRead county answer before now → CountyDue (county_outcome answer) (report_of answer) before now
answer_due (Yes totals) before now answers read =
    record { totals = totals; answers = answers; bound = told_bound before totals answers; read = read.ended (λ refused. refused); text_is = refl }
answer_due Parts before now answers read = record { answer = Parts; such = refl; answers = answers; read = read.took; text_is = refl }
answer_due (No part line broken) before now answers read = record { answer = No part line broken; such = tt; answers = answers; read = read.took; text_is = refl }
answer_due (Differs part) before now answers read = record { answer = Differs part; such = tt; answers = answers; read = read.took; text_is = refl }
answer_due (Repeats part other) before now answers read = record { answer = Repeats part other; such = tt; answers = answers; read = read.took; text_is = refl }

county_due : (outcome : Outcome) (text : List ℕ) (before now : Option (List ℕ)) → IsDue county outcome text before now → CountyDue outcome text before now
county_due outcome text before now due =
    subst (λ (o : Outcome). CountyDue o text before now) (sym due.outcome_is)
    (subst (λ (t : List ℕ). CountyDue (county_outcome due.answer) t before now) (sym due.text_is) (answer_due due.answer before now due.answers due.read))

pub county_said : (how : Outcome) (input input' out out' : Seen) → Says county how input input' out out' → CountySays how input input' out out'
county_said = ends_due (IsDue county) CountyDue (TookUnended IsUnsettled) (TookLines IsUnsettled) county_due
