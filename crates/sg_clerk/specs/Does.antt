-- A run of `do`: an office's talk over the lines of the input (this project's rules for the office).
use Rattle.std.specs.Prelude.{ℕ, ◌≤◌, List, length, map}
use Rattle.sg_plan.specs.Limits.{most_asks}
use Rattle.sg_outside.specs.Streams.{Seen}
use Rattle.sg_keeper.specs.declared.rows.Rows.{Rows}
use Rattle.sg_keeper.specs.declared.setup.Setup.{Setup}
use Rattle.sg_talk.specs.Talk.{Exchange, Talk, stores_in}
use Rattle.sg_histories.specs.Histories.{Entry}
use Rattle.sg_talk.specs.Turns.{AskTurn}
use Rattle.sg_clerk.specs.Outside.{Outside, input_at, output_at}
use Rattle.sg_clerk.specs.Ends.{HasFailed, answer_line}
use Rattle.sg_clerk.specs.Lines.{AreFirstLines, EndsSo}
use Rattle.sg_clerk.specs.Taken.{TookLines}
use Rattle.sg_clerk.specs.Talks.{Talked}
use Rattle.sg_clerk.specs.declared.ended.Ending.{Ending}

-- the lines that came in, each with its line feed, which to JSON is white space
abbrev pub lines_in : List Exchange → List (List ℕ)
lines_in exchanges = map (λ (e : Exchange). e.bytes) exchanges

-- the lines that are written for the answers
abbrev pub texts_in : ℕ → List Exchange → List (List ℕ)
texts_in version exchanges = map (λ (e : Exchange). answer_line version e.answer) exchanges

-- the talk of an office of this setup over lines
abbrev pub LineTalk : Setup → List Exchange → List Entry → List Entry → Type 0
LineTalk setup exchanges history next = Talk (AskTurn setup) setup.plan.version exchanges history next

-- How the run ended: its lines are the first of the input, at most so many. However it ended, of the input these lines were
-- taken, and behind them at most as many bytes as one more may have.
pub record EndsLines (input input' out out' : Seen) (how : Ending) (setup : Setup) (exchanges : List Exchange) : Type 0 where
  pub lines : AreFirstLines input.bytes (lines_in exchanges)
  pub few : length exchanges ≤ most_asks
  pub took : TookLines (lines_in exchanges) input.bytes input'.bytes
  pub cause : HasFailed how input.faults input'.faults out.faults out'.faults
  pub ends : EndsSo how (lines_in exchanges) (texts_in setup.plan.version exchanges) input.bytes input'.bytes out.bytes out'.bytes

abbrev pub LinesEnd : Outside → Outside → Ending → Setup → List Exchange → Type 0
LinesEnd before now = EndsLines (input_at before) (input_at now) (output_at before) (output_at now)

-- A run of `do` from a history on: a talk over lines, and how it ended.
abbrev pub Does : Ending → Setup → List Entry → (tells : Type 0) → Rows → Rows → Outside → Outside → Type 0
Does how setup history tells rows rows' before now = Talked LineTalk stores_in (LinesEnd before now how) setup history tells rows rows' before.keep_faults now.keep_faults
