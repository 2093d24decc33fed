-- What a connection got, and what the office was asked for by it (this project's rules for connections).
use Rattle.std.specs.Prelude.{◌≡◌, ◌⊎◌, ℕ, ◌+◌, ◌-◌, ◌^◌, ◌<◌, ◌≤◌, Bool, true, false, List, [], ◌++◌, Option, None, Some, option_map}
use Rattle.sg_links.specs.Board.{Board, Come, finishes, gets, on_current, takes}
use Rattle.sg_acts.specs.declared.asks.Ask.TheVariants as ask
use Rattle.sg_acts.specs.declared.replies.Reply.{Reply}
use Rattle.sg_keeper.specs.declared.rows.Rows.{Rows}
use Rattle.sg_keeper.specs.declared.setup.Setup.{Setup}
use Rattle.sg_talk.specs.Answers.{answer_status, text_of_answer}
use Rattle.sg_talk.specs.Talk.{Answers, store_in}
use Rattle.sg_talk.specs.declared.answered.Answered.{Answered}
use Rattle.sg_talk.specs.declared.answered.Answered.TheVariants as answered
use Rattle.sg_histories.specs.Histories.{Entry}
use Rattle.sg_histories.specs.KeptRows.{rows_of}
use Rattle.sg_histories.specs.Standing.{StandsFor}
use Rattle.sg_histories.specs.declared.kept.Kept.{Kept}
use Rattle.sg_talk.specs.Turns.{AskTurn}
use Rattle.sg_http.specs.declared.refusal.Refusal.{Refusal}
use Rattle.sg_http.specs.declared.refusal.Verb.{Verb}
use Rattle.sg_http.specs.declared.serving.Served.{Served}
use Rattle.sg_http.specs.declared.serving.Served.TheVariants as served
use Rattle.sg_http.specs.Leads.{IsUnheard, Lead, LeadTo, TakesFew}
use Rattle.sg_http.specs.Leads.Lead.{Posts, Refused, Sees}
use Rattle.sg_http.specs.Replies.{allowed_by, answer_text, memory_text, refused_status, refused_text}

-- THE OFFICE

-- what the office said to what the bytes lead to, by a turn of its talk; nothing, where it was not asked or memory was
-- wanted before
abbrev pub IsSaid : Setup → Lead → Option Answered → List Entry → List Entry → Type 0
IsSaid setup lead None before after = after ≡ before
IsSaid setup (Refused fault) (Some answer) before after = ⊥
IsSaid setup (Posts body) (Some answer) before after = Answers (AskTurn setup) setup.plan.version body answer before after
IsSaid setup (Sees look) (Some answer) before after =
    (said : Reply) × (answer ≡ answered.Reply said) × AskTurn setup before (ask.See look) said after

-- whether that says that the keeper failed: one or none
abbrev pub stored : Option Answered → ℕ
stored None = 0
stored (Some answer) = store_in answer

-- THE ANSWER

-- an answer before it is put together; `allow` is the route's method, where another was asked for
pub record Due : Type 0 where
  pub status : ℕ
  pub allow : Option Verb
  pub body : List ℕ

abbrev pub text_of : Due → List ℕ
text_of due = answer_text due.status due.allow due.body

abbrev pub refusal_due : Refusal → Due
refusal_due fault = record { status = refused_status fault; allow = allowed_by fault; body = refused_text fault }

abbrev pub said_due : ℕ → Answered → Due
said_due version answer = record { status = answer_status answer; allow = None; body = text_of_answer version answer }

abbrev pub memory_due : Due
memory_due = record { status = 500; allow = None; body = memory_text }

-- the answer that is due to what the bytes lead to; none, where the office said nothing to an ask or a look
abbrev pub due_of : ℕ → Lead → Option Answered → Option Due
due_of version (Refused fault) said = Some (refusal_due fault)
due_of version (Posts body) said = option_map (said_due version) said
due_of version (Sees look) said = option_map (said_due version) said

-- the answer that is sent: the due one, or in its place the one for want of memory
abbrev pub IsSent : Option Due → Due → Type 0
IsSent due answer = (due ≡ Some answer) ⊎ (answer ≡ memory_due)

-- the one answer was sent whole, and its status is told; or a front of it, where a write failed
abbrev pub SendsOne : Served → Option Due → List ℕ → Type 0
SendsOne (served.Answered status) due sent = (answer : Due) × IsSent due answer × (status ≡ answer.status) × (sent ≡ text_of answer)
SendsOne served.WriteFailed due sent = (answer : Due) × (rest : List ℕ) × IsSent due answer × (text_of answer ≡ sent ++ rest)
SendsOne other due sent = ⊥

-- A CONNECTION

-- the bytes taken, and the end where that was read, lead to an answer, and that was sent
pub record IsAnswered (how : Served) (setup : Setup) (taken : List ℕ) (is_ended : Bool) (sent : List ℕ) (said : Option Answered) (before after : List Entry) : Type 0 where
  pub lead : Lead
  pub leads : LeadTo taken is_ended lead
  pub says : IsSaid setup lead said before after
  pub sends : SendsOne how (due_of setup.plan.version lead said) sent

-- nothing was sent, and nothing asked for
pub record IsUnanswered (sent : List ℕ) (said : Option Answered) (before after : List Entry) : Type 0 where
  pub unsent : sent ≡ []
  pub unsaid : said ≡ None
  pub same : after ≡ before

-- how a connection ended of which these bytes were taken, and to which these were sent: it was answered; a write failed, in
-- the answer; a read failed, before the bytes taken lead to an answer; or it was gone, without a byte
abbrev pub Ends : Served → Setup → List ℕ → Bool → List ℕ → Option Answered → List Entry → List Entry → Type 0
Ends (served.Answered status) setup taken is_ended sent said before after = IsAnswered (served.Answered status) setup taken is_ended sent said before after
Ends served.WriteFailed setup taken is_ended sent said before after = IsAnswered served.WriteFailed setup taken is_ended sent said before after
Ends served.ReadFailed setup taken is_ended sent said before after = IsUnheard taken × (is_ended ≡ false) × IsUnanswered sent said before after
Ends served.Gone setup taken is_ended sent said before after = (taken ≡ []) × (is_ended ≡ true) × IsUnanswered sent said before after

-- The current connection was served after this history and is finished: what was taken of it, never more than a head and its
-- body, and sent on it, and what the office said. The office then stands for the next history, and the kept rows follow where they are told; where the office
-- said that the keeper failed, the keeper's count of faults rose, unless that stands at its last value.
pub record Serves (how : Served) (setup : Setup) (office : Kept) (history : List Entry) (tells : Type 0) (rows after : Rows) (old new : Option Board) (faults later : ℕ) : Type 0 where
  pub taken : List ℕ
  pub is_ended : Bool
  pub sent : List ℕ
  pub said : Option Answered
  pub next : List Entry
  pub came : Come old taken is_ended
  pub few : TakesFew taken
  pub board : new ≡ option_map (λ b. finishes (on_current (gets sent) (on_current (takes taken is_ended) b))) old
  pub ends : Ends how setup taken is_ended sent said history next
  pub stands : StandsFor office next
  pub kept : tells → (text : List ℕ) → rows ≡ rows_of setup text history → after ≡ rows_of setup text next
  pub stores : later < 2 ^ 64 - 1 → faults + stored said ≤ later
