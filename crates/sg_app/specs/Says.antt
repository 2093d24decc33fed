-- How each command ends (this project's command line).
use Rattle.std.specs.Prelude.{◌≡◌, ℕ, false}
use Rattle.sg_outside.specs.Outcomes.{TellsNoFailure, status_of}
use Rattle.sg_outside.specs.declared.outcome.Outcome.{Outcome}
use Rattle.sg_keeper.specs.declared.rows.Rows.{Rows}
use Rattle.sg_clerk.specs.Outside.{Outside, input_at, output_at}
use Rattle.sg_clerk.specs.Asked.{DoSays}
use Rattle.sg_clerk.specs.Begun.{InitSays}
use Rattle.sg_clerk.specs.Sheet.{sheet_of}
use Rattle.sg_clerk.specs.Shown.{ShowSays, posted_of}
use Rattle.sg_handed.specs.Handed.{OpeningsSays}
use Rattle.sg_clerk.specs.scans.ScansAsked.{ScansSay}
use Rattle.sg_clerk.specs.calls.Says.{ServeSays}
use Rattle.sg_reports.specs.Reports.{ReportSays}
use Rattle.sg_reports.specs.declared.report.Report.TheVariants as report
use Rattle.sg_sample.specs.Summary.{SampleSays}
use Rattle.sg_app.specs.Touches.{NothingFailed, changes_rows}
use Rattle.sg_words.specs.declared.command.Command.{Command}
use Rattle.sg_words.specs.declared.command.Command.TheVariants as command

-- how a command ended: what was read, what the rows are, and what was written
abbrev pub CommandSays : Command → Outcome → (tells : Type 0) → Rows → Rows → Outside → Outside → Type 0
CommandSays command.Audit how tells rows rows' before now = ReportSays report.Audit how (input_at before) (input_at now) (output_at before) (output_at now)
CommandSays command.Init how tells rows rows' before now =
    InitSays how (input_at before) (input_at now) tells rows rows' before.keep_faults now.keep_faults (output_at before) (output_at now)
CommandSays command.Sheet how tells rows rows' before now =
    ShowSays sheet_of how tells rows before.keep_faults now.keep_faults (output_at before) (output_at now)
CommandSays command.Do how tells rows rows' before now = DoSays how tells rows rows' before now
CommandSays command.Scans how tells rows rows' before now = ScansSay how tells rows rows' before now
CommandSays (command.Serve asked) how tells rows rows' before now =
    ServeSays how asked.port asked.count tells rows rows' before now
CommandSays command.Record how tells rows rows' before now =
    ShowSays posted_of how tells rows before.keep_faults now.keep_faults (output_at before) (output_at now)
CommandSays command.Openings how tells rows rows' before now =
    OpeningsSays how tells rows before.keep_faults now.keep_faults (output_at before) (output_at now)
CommandSays (command.Sample asked) how tells rows rows' before now = SampleSays asked how (output_at before) (output_at now)
CommandSays command.Recount how tells rows rows' before now = ReportSays report.Recount how (input_at before) (input_at now) (output_at before) (output_at now)
CommandSays command.Odds how tells rows rows' before now = ReportSays report.Odds how (input_at before) (input_at now) (output_at before) (output_at now)
CommandSays command.County how tells rows rows' before now = ReportSays report.County how (input_at before) (input_at now) (output_at before) (output_at now)

-- how a command ended, by its status: where no count of faults rose, it tells no failure, so all the work was done, but for
-- want of memory; and what changes no rows leaves them as they are
pub record Ended (asked : Command) (status : ℕ) (tells : Type 0) (rows rows' : Rows) (before now : Outside) : Type 0 where
  pub outcome : Outcome
  pub status_is : status ≡ status_of outcome
  pub says : CommandSays asked outcome tells rows rows' before now
  pub complete : NothingFailed asked before now → TellsNoFailure outcome
  pub same : changes_rows asked ≡ false → tells → rows' ≡ rows
