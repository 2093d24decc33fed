-- What the judges of the lines of an input answer, and how that ends the command.
use Rattle.std.specs.Prelude.{◌≡◌, ℕ, false, List}
use Rattle.sg_outside.specs.declared.outcome.Outcome.{Outcome}
use Rattle.sg_outside.specs.declared.outcome.Outcome.TheVariants as outcome
use Rattle.sg_check.specs.Verdict.{AreFine, IsNo, IsVerdict}
use Rattle.sg_check.specs.declared.judged.Judged.{Judged}
use Rattle.sg_check.specs.declared.judged.Judged.TheVariants as judged
use Rattle.sg_county.specs.County.{IsCounty}
use Rattle.sg_county.specs.Tally.{IsRefusal, IsUnsettled}
use Rattle.sg_county.specs.declared.verdict.CountyVerdict.{CountyVerdict}
use Rattle.sg_county.specs.declared.verdict.CountyVerdict.TheVariants.{Yes, No, Differs, Repeats, Parts}
use Rattle.sg_driver.specs.Judging.{Judging}
use Rattle.sg_judge.specs.Pass.{is_behind_plan}
use Rattle.sg_report.specs.Report.{report_of as verdict_report}
use Rattle.sg_reports.specs.county.Report.{report_of as county_report}

-- fine lines, none of which stands behind the plan
abbrev pub AreOfPlan : List (List ℕ) → Type 0
AreOfPlan lines = AreFine lines × (is_behind_plan lines ≡ false)

-- `audit`: the verdict on the lines. Some of them may settle a no, whatever follows, and fine lines settle nothing. Memory may be
-- wanted behind fine lines of the plan.
abbrev pub verdict_outcome : Judged → Outcome
verdict_outcome (judged.Yes totals) = outcome.Done
verdict_outcome (judged.No line broken) = outcome.No

abbrev pub audit : Judging Judged
audit = record { IsAnswer = IsVerdict; Refuses = IsNo; Unsettled = AreFine; Wants = AreOfPlan; outcome = verdict_outcome; report = verdict_report }

-- `county`: the answer on the lines. Some of them may settle any but yes, whatever follows. Memory may be wanted behind lines that
-- settle nothing.
abbrev pub county_outcome : CountyVerdict → Outcome
county_outcome (Yes totals) = outcome.Done
county_outcome (No part line broken) = outcome.No
county_outcome (Differs part) = outcome.No
county_outcome (Repeats part other) = outcome.No
county_outcome Parts = outcome.Refused

abbrev pub county : Judging CountyVerdict
county = record { IsAnswer = IsCounty; Refuses = IsRefusal; Unsettled = IsUnsettled; Wants = IsUnsettled; outcome = county_outcome; report = county_report }
