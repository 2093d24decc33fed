-- A run of `scans`: an office's talk over the records of a scanner's file (this project's rules for the office).
use Rattle.std.specs.Prelude.{◌≡◌, ℕ, ◌+◌, List, map}
use Rattle.sg_outside.specs.Streams.{Seen}
use Rattle.sg_acts.specs.declared.replies.Reply.{Reply}
use Rattle.sg_keeper.specs.declared.rows.Rows.{Rows}
use Rattle.sg_keeper.specs.declared.setup.Setup.{Setup}
use Rattle.sg_talk.specs.declared.answered.Answered.{Answered}
use Rattle.sg_talk.specs.declared.answered.Answered.TheVariants as answered
use Rattle.sg_talk.specs.Answers.{IsWritable}
use Rattle.sg_talk.specs.Talk.{store_in}
use Rattle.sg_histories.specs.Histories.{Entry}
use Rattle.sg_talk.specs.Turns.{AskTurn}
use Rattle.sg_scans.specs.declared.fields.ScanLine.{ScanLine}
use Rattle.sg_scans.specs.declared.fields.ScanLine.TheVariants as line
use Rattle.sg_clerk.specs.Outside.{Outside, input_at, output_at}
use Rattle.sg_clerk.specs.Asking.{Exchanging, TalkBy, stores_by}
use Rattle.sg_clerk.specs.Ends.{HasFailed, answer_line}
use Rattle.sg_clerk.specs.Taken.{TookAtMost}
use Rattle.sg_clerk.specs.Talks.{Talked}
use Rattle.sg_clerk.specs.declared.ended.Ending.{Ending}
use Rattle.sg_clerk.specs.scans.ScansEnds.{ScansEndSo, longest_file}

-- a record of a scanner's file, and what is answered to it
pub record Handed : Type 0 where
  pub line : ScanLine
  pub answer : Answered

-- a scan is answered by a turn of the talk; a record of another shape is told so, and changes nothing
abbrev pub AnswersLine : Setup → ScanLine → Answered → List Entry → List Entry → Type 0
AnswersLine setup (line.Good asked) answer before after = (said : Reply) × (answer ≡ answered.Reply said) × AskTurn setup before asked said after
AnswersLine setup line.Shape answer before after = (answer ≡ answered.Shape) × (after ≡ before)

-- so is what passes between a scanner's file and the office
abbrev pub by_scans : Exchanging Handed Answered
by_scans = record {
  Turn = λ setup one before after. AnswersLine setup one.line one.answer before after;
  store = λ one. store_in one.answer;
  reply = λ one. one.answer;
  IsWritable = IsWritable;
  line = answer_line;
}

-- the records are answered one after another
abbrev pub ScanTalk : Setup → List Handed → List Entry → List Entry → Type 0
ScanTalk = TalkBy by_scans

-- the records that came in
abbrev pub scans_in : List Handed → List ScanLine
scans_in handed = map (λ (one : Handed). one.line) handed

-- the lines that are written for the answers
abbrev pub replies_in : ℕ → List Handed → List (List ℕ)
replies_in version handed = map (λ (one : Handed). answer_line version one.answer) handed

-- how many answers say that the keeper failed
abbrev pub stores_of : List Handed → ℕ
stores_of = stores_by by_scans

-- How the run ended: some first records of the input were answered. However it ended, of the input at most as many bytes were
-- taken as a scanner's file has, and one more.
pub record EndsScans (input input' out out' : Seen) (how : Ending) (setup : Setup) (handed : List Handed) : Type 0 where
  pub took : TookAtMost (longest_file + 1) input.bytes input'.bytes
  pub cause : HasFailed how input.faults input'.faults out.faults out'.faults
  pub ends : ScansEndSo how (scans_in handed) (replies_in setup.plan.version handed) input.bytes input'.bytes out.bytes out'.bytes

abbrev pub ScansEnd : Outside → Outside → Ending → Setup → List Handed → Type 0
ScansEnd before now = EndsScans (input_at before) (input_at now) (output_at before) (output_at now)

-- A run of `scans` from a history on: a talk over the records of a scanner's file, and how it ended.
abbrev pub DoesScans : Ending → Setup → List Entry → (tells : Type 0) → Rows → Rows → Outside → Outside → Type 0
DoesScans how setup history tells rows rows' before now = Talked ScanTalk stores_of (ScansEnd before now how) setup history tells rows rows' before.keep_faults now.keep_faults
