-- How the commands end that report on what they read (this project's command line).
use Rattle.std.specs.Option.{option_and_then}
use Rattle.std.specs.Prelude.{◌≡◌, ℕ, List, Option, Some, None}
use Rattle.sg_outside.specs.Faults.{Rose}
use Rattle.sg_outside.specs.Outcomes.{TellsNoFailure, status_of}
use Rattle.sg_outside.specs.Streams.{Seen}
use Rattle.sg_outside.specs.declared.outcome.Outcome.{Outcome}
use Rattle.sg_reports.specs.audit.Audit.{AuditSays}
use Rattle.sg_reports.specs.court.Says.{OddsSays, RecountSays}
use Rattle.sg_reports.specs.county.Counts.{CountySays}
use Rattle.sg_words.specs.Command.{command_in}
use Rattle.sg_words.specs.declared.command.Command.{Command}
use Rattle.sg_words.specs.declared.command.Command.TheVariants as command
use Rattle.sg_reports.specs.declared.report.Report.{Report}
use Rattle.sg_reports.specs.declared.report.Report.TheVariants.{Audit, Recount, Odds, County}

-- the report that a command is
abbrev pub report_of : Command → Option Report
report_of command.Audit = Some Audit
report_of command.Recount = Some Recount
report_of command.Odds = Some Odds
report_of command.County = Some County
report_of _ = None

-- the report that the words ask for: none where they are no such command's
abbrev pub report_in : List (List ℕ) → Option Report
report_in words = option_and_then report_of (command_in words)

-- how a report ended: of the input before and after, and of the output
abbrev pub ReportSays : Report → Outcome → Seen → Seen → Seen → Seen → Type 0
ReportSays Audit = AuditSays
ReportSays Recount = RecountSays
ReportSays Odds = OddsSays
ReportSays County = CountySays

-- where no count of faults rose, the outcome tells no failure
abbrev pub IsReported : Outcome → Seen → Seen → Seen → Seen → Type 0
IsReported outcome input input' out out' = ¬ Rose input.faults input'.faults → ¬ Rose out.faults out'.faults → TellsNoFailure outcome

-- what the status says: that of the outcome, and how the report ended with it
pub record Reported (report : Report) (status : ℕ) (input input' out out' : Seen) : Type 0 where
  pub outcome : Outcome
  pub status_is : status ≡ status_of outcome
  pub says : ReportSays report outcome input input' out out'
  pub complete : IsReported outcome input input' out out'
