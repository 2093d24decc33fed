-- Where nothing failed, each report is written; and how it ends where memory for the words was wanted.
use Rattle.std.proofs.Common.{◌≡◌, inl, inr, refl, None, arith}
use Rattle.std.specs.Prelude.{◌⊎◌}
use Rattle.sg_outside.specs.Outcomes.{status_of}
use Rattle.sg_outside.specs.Streams.{Seen}
use Rattle.sg_outside.specs.declared.outcome.Outcome.{Outcome}
use Rattle.sg_outside.specs.declared.outcome.Outcome.TheVariants as outcome
use Rattle.sg_county.specs.Tally.{IsUnsettled}
use Rattle.sg_driver.proofs.Starting.{took_nothing}
use Rattle.sg_fronts.specs.ByRecords.{IsPlanFront}
use Rattle.sg_words.specs.declared.command.Command.{Command}
use Rattle.sg_words.specs.declared.command.Command.TheVariants as command
use Rattle.sg_reports.proofs.Auditing.Judging.{none_of_plan}
use Rattle.sg_reports.proofs.Counties.Judging.{none_unsettled}
use Rattle.sg_reports.proofs.Courts.Taking.{none_unsettled as none_heard}
use Rattle.sg_reports.specs.Reports.{IsReported, ReportSays, report_of}
use Rattle.sg_reports.specs.court.Heard.{IsUnsettled as IsUnheard}
use Rattle.sg_reports.specs.declared.report.Report.{Report}
use Rattle.sg_reports.specs.declared.report.Report.TheVariants.{Audit, Recount, Odds, County}

-- no other command is a report
pub no_report : (asked : Command) → (asked ≡ command.Audit → ⊥) → (asked ≡ command.Recount → ⊥) → (asked ≡ command.Odds → ⊥) → (asked ≡ command.County → ⊥) → None ≡ report_of asked
no_report command.Audit audit recount odds county = absurd (audit refl)
no_report command.Recount audit recount odds county = absurd (recount refl)
no_report command.Odds audit recount odds county = absurd (odds refl)
no_report command.County audit recount odds county = absurd (county refl)
no_report _ audit recount odds county = refl

pub is_reported : (report : Report) (how : Outcome) (input input' out out' : Seen) → ReportSays report how input input' out out' → IsReported how input input' out out'
is_reported Audit outcome.ReadFailed input input' out out' says reads writes = absurd (reads says.cause)
is_reported Audit outcome.WriteFailed input input' out out' says reads writes = absurd (writes says.cause)
is_reported _ outcome.ReadFailed input input' out out' says reads writes = absurd (reads says.cause)
is_reported _ outcome.WriteFailed input input' out out' says reads writes = absurd (writes says.cause)
is_reported _ outcome.KeeperFailed input input' out out' says reads writes = absurd says
is_reported _ outcome.LinksFailed input input' out out' says reads writes = absurd says
is_reported _ _ input input' out out' says reads writes = tt

-- where memory was wanted, and nothing was done
pub memory_reports : (report : Report) (input out : Seen) → ReportSays report outcome.NoMemory input input out out
memory_reports Audit input out = record { taken = took_nothing IsPlanFront input.bytes none_of_plan; written = refl }
memory_reports Recount input out = record { taken = took_nothing IsUnheard input.bytes none_heard; written = refl }
memory_reports Odds input out = record { taken = took_nothing IsUnheard input.bytes none_heard; written = refl }
memory_reports County input out = record { taken = took_nothing IsUnsettled input.bytes none_unsettled; written = refl }

-- STATUSES

-- these are a failed read's, and that of want of memory
pub quiet_statuses : (how : Outcome) → (status_of how ≡ 3) ⊎ (status_of how ≡ 9) → (how ≡ outcome.ReadFailed) ⊎ (how ≡ outcome.NoMemory)
quiet_statuses outcome.ReadFailed quiet = inl refl
quiet_statuses outcome.NoMemory quiet = inr refl
quiet_statuses _ (inl three) = absurd (omega (arith, three))
quiet_statuses _ (inr nine) = absurd (omega (arith, nine))

-- no outcome has that of words that are no command's
pub no_bad_words : (how : Outcome) → status_of how ≡ 2 → ⊥
no_bad_words outcome.Done two = omega (arith, two)
no_bad_words _ two = omega (arith, two)
