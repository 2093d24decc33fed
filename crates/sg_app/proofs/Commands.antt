-- What holds of each command, case by case.
use Rattle.std.proofs.Common.{◌≡◌, ◌+◌, false, inl, inr, refl, sym, subst}
use Rattle.sg_outside.specs.Outcomes.{TellsNoFailure}
use Rattle.sg_outside.specs.declared.outcome.Outcome.{Outcome}
use Rattle.sg_outside.specs.declared.outcome.Outcome.TheVariants as outcome
use Rattle.sg_plan.specs.Limits.{longest_election}
use Rattle.sg_keeper.specs.declared.rows.Rows.{Rows}
use Rattle.sg_clerk.specs.Outside.{Outside, input_at, output_at}
use Rattle.sg_clerk.specs.Begun.{InitEnds}
use Rattle.sg_clerk.specs.Laws.{KeepsPosted}
use Rattle.sg_clerk.proofs.Beginning.{took_nothing}
use Rattle.sg_clerk.proofs.Grown.{do_grows, init_grows, same_grows}
use Rattle.sg_clerk.proofs.ScanFiles.Keeping.{scans_grow}
use Rattle.sg_clerk.proofs.Connections.Keeping.{serve_grows}
use Rattle.sg_reports.specs.declared.report.Report.TheVariants as report
use Rattle.sg_reports.proofs.Reporting.{is_reported, memory_reports}
use Rattle.sg_app.specs.Says.{CommandSays}
use Rattle.sg_app.specs.Touches.{NothingFailed, changes_rows}
use Rattle.sg_app.proofs.Completing.{closed_well, talk_well, well}
use Rattle.sg_words.specs.declared.command.Command.{Command}
use Rattle.sg_words.specs.declared.command.Command.TheVariants as command

-- where nothing failed, the outcome tells no failure; the last line is of what shows the rows
pub says_complete : (asked : Command) (how : Outcome) (tells : Type 0) (rows rows' : Rows) (before now : Outside) → CommandSays asked how tells rows rows' before now
    → NothingFailed asked before now → TellsNoFailure how
says_complete command.Audit how tells rows rows' before now says none =
    is_reported report.Audit how (input_at before) (input_at now) (output_at before) (output_at now) says (none.reads refl) none.writes
says_complete command.Recount how tells rows rows' before now says none =
    is_reported report.Recount how (input_at before) (input_at now) (output_at before) (output_at now) says (none.reads refl) none.writes
says_complete command.Odds how tells rows rows' before now says none =
    is_reported report.Odds how (input_at before) (input_at now) (output_at before) (output_at now) says (none.reads refl) none.writes
says_complete command.County how tells rows rows' before now says none =
    is_reported report.County how (input_at before) (input_at now) (output_at before) (output_at now) says (none.reads refl) none.writes
says_complete command.Init how tells rows rows' before now says none =
    well (λ result. InitEnds result (input_at before) (input_at now) tells rows rows' before.keep_faults now.keep_faults (output_at before) (output_at now)) how
    (λ s. none.reads refl s.cause) (λ s. none.writes s.cause) (λ s. none.keeps refl s.cause) (λ s. s) says.says
says_complete command.Do how tells rows rows' before now (inl talks) none =
    subst TellsNoFailure (sym talks.result_is)
    (talk_well talks.how before.read_faults now.read_faults before.write_faults now.write_faults talks.does.ends.cause (none.reads refl) none.writes)
says_complete command.Do how tells rows rows' before now (inr closed) none =
    closed_well how tells rows before.keep_faults now.keep_faults (output_at before) (output_at now) closed.says (none.keeps refl) none.writes
says_complete command.Scans how tells rows rows' before now (inl talks) none =
    subst TellsNoFailure (sym talks.result_is)
    (talk_well talks.how before.read_faults now.read_faults before.write_faults now.write_faults talks.does.ends.cause (none.reads refl) none.writes)
says_complete command.Scans how tells rows rows' before now (inr closed) none =
    closed_well how tells rows before.keep_faults now.keep_faults (output_at before) (output_at now) closed.says (none.keeps refl) none.writes
says_complete (command.Serve asked) how tells rows rows' before now (inl served) none =
    subst TellsNoFailure (sym served.result_is)
    (talk_well served.how before.link_faults now.link_faults before.write_faults now.write_faults served.does.ends.cause (none.links refl) none.writes)
says_complete (command.Serve asked) how tells rows rows' before now (inr (inl shut)) none = absurd (none.links refl shut.1.cause)
says_complete (command.Serve asked) how tells rows rows' before now (inr (inr closed)) none =
    closed_well how tells rows before.keep_faults now.keep_faults (output_at before) (output_at now) closed.says (none.keeps refl) none.writes
says_complete (command.Sample asked) how tells rows rows' before now says none =
    well (λ result. CommandSays (command.Sample asked) result tells rows rows' before now) how (λ s. s) (λ s. none.writes s.cause) (λ s. s) (λ s. s) says
says_complete asked how tells rows rows' before now says none =
    well (λ result. CommandSays asked result tells rows rows' before now) how (λ s. s) (λ s. none.writes s.cause) (λ s. none.keeps refl s.cause) (λ s. s) says

-- what `record` writes of told rows only grows; the last line is of what changes no rows
pub command_grows : (asked : Command) (how : Outcome) (tells : Type 0) (rows rows' : Rows) (before now : Outside) → CommandSays asked how tells rows rows' before now
    → (changes_rows asked ≡ false → tells → rows' ≡ rows) → tells → KeepsPosted rows rows'
command_grows command.Init how tells rows rows' before now says same told =
    init_grows how (input_at before) (input_at now) tells rows rows' before.keep_faults now.keep_faults (output_at before) (output_at now) says told
command_grows command.Do how tells rows rows' before now says same told = do_grows how tells rows rows' before now says told
command_grows command.Scans how tells rows rows' before now says same told = scans_grow how tells rows rows' before now says told
command_grows (command.Serve asked) how tells rows rows' before now says same told = serve_grows how asked.port asked.count tells rows rows' before now says told
command_grows _ how tells rows rows' before now says same told = same_grows rows rows' (same refl told)

-- where memory was wanted, and nothing was done; the last line is of what shows the rows
pub memory_says : (asked : Command) (tells : Type 0) (rows : Rows) (now : Outside) → CommandSays asked outcome.NoMemory tells rows rows now now
memory_says command.Audit tells rows now = memory_reports report.Audit (input_at now) (output_at now)
memory_says command.Recount tells rows now = memory_reports report.Recount (input_at now) (output_at now)
memory_says command.Odds tells rows now = memory_reports report.Odds (input_at now) (output_at now)
memory_says command.County tells rows now = memory_reports report.County (input_at now) (output_at now)
memory_says command.Init tells rows now = record { took = took_nothing (longest_election + 1) now.left; says = record { same = λ _. refl; quiet = refl } }
memory_says command.Do tells rows now = inr (record { unasked = (refl, refl); same = λ _. refl; says = refl })
memory_says command.Scans tells rows now = inr (record { unasked = (refl, refl); same = λ _. refl; says = refl })
memory_says (command.Serve asked) tells rows now = inr (inr (record { unasked = (refl, refl); same = λ _. refl; says = refl }))
memory_says (command.Sample asked) tells rows now = refl
memory_says _ tells rows now = inl refl
