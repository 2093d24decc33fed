-- The lines of an input, as what asks an office.
use Rattle.std.specs.Prelude.{◌≡◌, ℕ, ◌+◌, ◌≤◌, ◌⊎◌, true, false, List, [], ◌∷◌, ◌++◌, length, Result, MatchResult}
use Rattle.std.specs.List.{concat}
use Rattle.std.specs.Io.KnownBytes.{Consumes}
use Rattle.sg_plan.specs.Limits.{longest_ask, most_asks}
use Rattle.sg_outside.specs.Cutting.{Cutting, to_come}
use Rattle.sg_outside.specs.Faults.{Rose}
use Rattle.sg_outside.specs.Streams.{Seen}
use Rattle.sg_outside.specs.TextLines.{AreLines}
use Rattle.sg_talk.specs.declared.answered.Answered.{Answered}
use Rattle.sg_talk.specs.Answers.{IsWritable}
use Rattle.sg_talk.specs.Talk.{Answers, Exchange, store_in}
use Rattle.sg_talk.specs.Turns.{AskTurn}
use Rattle.sg_clerk.specs.Asking.{Exchanging}
use Rattle.sg_clerk.specs.Does.{lines_in}
use Rattle.sg_clerk.specs.Ends.{answer_line}
use Rattle.sg_clerk.specs.Lines.{AreAllLines, AreFirstLines, AreLinesTaken, IsRefused}
use Rattle.sg_clerk.specs.Taken.{AreShort, TookLines}
use Rattle.sg_clerk.specs.declared.asker.Stop.{Stop}
use Rattle.sg_clerk.specs.declared.asker.Stop.TheVariants as stop

-- a line gets its answer
abbrev pub by_lines : Exchanging Exchange Answered
by_lines = record {
  Turn = λ setup exchange before after. Answers (AskTurn setup) setup.plan.version exchange.bytes exchange.answer before after;
  store = λ exchange. store_in exchange.answer;
  reply = λ exchange. exchange.answer;
  IsWritable = IsWritable;
  line = answer_line;
}

-- The lines of these exchanges came of the input, and no others; where the cutter is over, they are all. So many more may come.
pub record LinesCame (cutter : Cutting) (room : ℕ) (before now : Seen) (exchanges : List Exchange) : Type 0 where
  pub short : AreShort (lines_in exchanges)
  pub taken : Consumes before.bytes (to_come cutter now.bytes) (concat (lines_in exchanges))
  pub held : length cutter.ahead ≤ longest_ask
  pub counted : length exchanges + room ≡ most_asks
  pub later : before.faults ≤ now.faults
  pub are : ((cutter.is_over ≡ false) × AreLines (lines_in exchanges))
      ⊎ ((cutter.is_over ≡ true) × AreAllLines before.bytes now.bytes (lines_in exchanges))

-- why no more comes
abbrev pub IsStopped : Stop → Seen → Seen → List (List ℕ) → Type 0
IsStopped stop.Done before now lines = AreAllLines before.bytes now.bytes lines
IsStopped stop.ReadFault before now lines = Rose before.faults now.faults × AreLinesTaken before.bytes now.bytes lines
IsStopped stop.LinkFault before now lines = ⊥
IsStopped (stop.Unfit why) before now lines = IsRefused why before.bytes lines
IsStopped stop.NoMemory before now lines = Unit {0}

-- no more lines come than those of these exchanges
pub record LinesOver (why : Stop) (before now : Seen) (exchanges : List Exchange) : Type 0 where
  pub lines : AreFirstLines before.bytes (lines_in exchanges)
  pub few : length exchanges ≤ most_asks
  pub took : TookLines (lines_in exchanges) before.bytes now.bytes
  pub stops : IsStopped why before now (lines_in exchanges)

-- one more line came, whatever it is answered, unless memory is wanted for that
pub record CutsOne (more : Cutting) (room : ℕ) (before now : Seen) (exchanges : List Exchange) : Type 0 where
  pub came : (answer : Answered) → LinesCame more room before now (exchanges ++ record { bytes = more.text; answer = answer } ∷ [])
  pub lost : LinesOver stop.NoMemory before now exchanges

-- one more line came, or no more does
abbrev pub CutsNext : Result Unit Stop → Cutting → Cutting → Seen → Seen → Type 0
CutsNext found cutter more now then = (before : Seen) (room : ℕ) (exchanges : List Exchange) → LinesCame cutter (room + 1) before now exchanges
    → MatchResult found (λ _. CutsOne more room before then exchanges) (λ why. LinesOver why before then exchanges)

-- as many came as may be answered, and no more does
abbrev pub EndsBehind : Stop → Cutting → Seen → Seen → Type 0
EndsBehind why cutter now then = (before : Seen) (exchanges : List Exchange) → LinesCame cutter 0 before now exchanges → LinesOver why before then exchanges
