-- A talk over a scanner's file keeps what was accepted and posted.
use Rattle.std.proofs.Common.{List, inl, inr}
use Rattle.sg_outside.specs.declared.outcome.Outcome.{Outcome}
use Rattle.sg_keeper.specs.declared.rows.Rows.{Rows}
use Rattle.sg_keeper.specs.declared.setup.Setup.{Setup}
use Rattle.sg_talk.specs.declared.answered.Answered.{Answered}
use Rattle.sg_histories.specs.Histories.{Entry}
use Rattle.sg_histories.specs.Lawful.{Lawful}
use Rattle.sg_scans.specs.declared.fields.ScanLine.{ScanLine}
use Rattle.sg_scans.specs.declared.fields.ScanLine.TheVariants as line
use Rattle.sg_talk.proofs.Growing.{IsLater, same_later, turn_later}
use Rattle.sg_clerk.specs.Outside.{Outside}
use Rattle.sg_clerk.specs.Laws.{KeepsPosted}
use Rattle.sg_clerk.proofs.Grown.{same_grows, talks_grow}
use Rattle.sg_clerk.proofs.Keeping.{turns_keep}
use Rattle.sg_clerk.specs.scans.DoesScans.{AnswersLine, ScanTalk, ScansEnd, by_scans, stores_of}
use Rattle.sg_clerk.specs.scans.Laws.{ScansKeepRecord}
use Rattle.sg_clerk.specs.scans.ScansAsked.{ScansSay}

line_later : (setup : Setup) (read : ScanLine) (answer : Answered) (before after : List Entry) → Lawful setup before → AnswersLine setup read answer before after → IsLater setup before after
line_later setup (line.Good asked) answer before after lawful answers = turn_later setup before asked answers.0 after lawful answers.2
line_later setup line.Shape answer before after lawful answers = same_later setup before after lawful answers.1

pub scans_keep_record : ScansKeepRecord
scans_keep_record setup = turns_keep by_scans setup (λ one. line_later setup one.line one.answer)

-- `scans`
pub scans_grow : (result : Outcome) (tells : Type 0) (rows rows' : Rows) (before now : Outside) → ScansSay result tells rows rows' before now → tells → KeepsPosted rows rows'
scans_grow result tells rows rows' before now (inl talks) told =
    talks_grow ScanTalk stores_of (ScansEnd before now) result tells rows rows' before.keep_faults now.keep_faults scans_keep_record talks told
scans_grow result tells rows rows' before now (inr closed) told = same_grows rows rows' (closed.same told)
