-- What an office does with the bytes that came in: a line, or the body of a request.
use Rattle.std.specs.Prelude.{◌≡◌, ℕ, ◌+◌, ◌-◌, ◌^◌, ◌<◌, ◌≤◌, List}
use Rattle.sg_acts.specs.declared.asks.Ask.{Ask}
use Rattle.sg_acts.specs.declared.asks.Ask.TheVariants as ask
use Rattle.sg_acts.specs.declared.asks.Look.{Look}
use Rattle.sg_acts.specs.declared.replies.Reply.{Reply}
use Rattle.sg_keeper.specs.declared.rows.Rows.{Rows}
use Rattle.sg_keeper.specs.declared.setup.Setup.{Setup}
use Rattle.sg_talk.specs.declared.answered.Answered.{Answered}
use Rattle.sg_talk.specs.declared.answered.Answered.TheVariants as answered
use Rattle.sg_talk.specs.Talk.{Answers, store_in}
use Rattle.sg_histories.specs.declared.kept.Kept.{Kept}
use Rattle.sg_histories.specs.Histories.{Entry}
use Rattle.sg_histories.specs.KeptRows.{rows_of}
use Rattle.sg_histories.specs.Lawful.{Turn}
use Rattle.sg_histories.specs.Standing.{IsAsk, StandsFor}

-- a turn of the talk, by an ask that can come
abbrev pub AskTurn : Setup → List Entry → Ask → Reply → List Entry → Type 0
AskTurn setup before asked answer after = IsAsk setup asked × Turn setup before asked answer after

-- Bytes that came in after this history are answered so: by a turn of the talk where they are an ask. The office then stands
-- for the next history, and the kept rows follow where they are told.
pub record HasAnswered (setup : Setup) (office : Kept) (tells : Type 0) (rows after : Rows) (bytes : List ℕ) (answer : Answered) (history : List Entry) : Type 0 where
  pub next : List Entry
  pub answers : Answers (AskTurn setup) setup.plan.version bytes answer history next
  pub stands : StandsFor office next
  pub kept : tells → (text : List ℕ) → rows ≡ rows_of setup text history → after ≡ rows_of setup text next

-- An office was asked this after this history, and replies so, by a turn of the talk. The office then stands for the next
-- history, and the kept rows follow where they are told.
pub record HasReplied (setup : Setup) (office : Kept) (tells : Type 0) (rows after : Rows) (asked : Ask) (answer : Answered) (history : List Entry) : Type 0 where
  pub next : List Entry
  pub said : Reply
  pub is : answer ≡ answered.Reply said
  pub turn : AskTurn setup history asked said next
  pub stands : StandsFor office next
  pub kept : tells → (text : List ℕ) → rows ≡ rows_of setup text history → after ≡ rows_of setup text next

-- it was asked for a look
abbrev pub HasShown : Setup → Kept → (tells : Type 0) → Rows → Rows → Look → Answered → List Entry → Type 0
HasShown setup office tells rows after seen answer history = HasReplied setup office tells rows after (ask.See seen) answer history

-- where the answer says that the keeper failed, its count of faults rose, unless that stands at its last value
abbrev pub CountsStore : ℕ → ℕ → Answered → Type 0
CountsStore before now answer = now < 2 ^ 64 - 1 → before + store_in answer ≤ now
