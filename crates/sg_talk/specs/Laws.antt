-- The laws of answers, of the exchanges of a talk, and of what a talk keeps.
use Rattle.std.specs.Prelude.{◌≡◌, ℕ, ◌+◌, List, [], ◌∷◌, ◌++◌, codes, Some, ◌≤◌, count_by, Ok, Contains}
use Rattle.serde_json.specs.Find.{get}
use Rattle.sg_asks.specs.Replies.{whole}
use Rattle.sg_talk.specs.declared.answered.Answered.{Answered}
use Rattle.sg_talk.specs.Answers.{answer_status, answer_value}
use Rattle.sg_talk.specs.Talk.{Exchange, store_in, stores_in, Talk}
use Rattle.sg_acts.specs.declared.asks.Act.{Act}
use Rattle.sg_acts.specs.declared.asks.Ask.TheVariants as ask
use Rattle.sg_acts.specs.declared.asks.Stamp.{Stamp}
use Rattle.sg_acts.specs.declared.replies.Body.{Body}
use Rattle.sg_acts.specs.declared.replies.Reply.TheVariants as reply
use Rattle.sg_keeper.specs.declared.setup.Setup.{Setup}
use Rattle.sg_asks.specs.Asks.{asked}
use Rattle.sg_talk.specs.declared.answered.Answered.TheVariants as answered
use Rattle.sg_desks.specs.ActTexts.{act_text}
use Rattle.sg_histories.specs.Histories.{Entry, act_of_stamp, is_stamped}
use Rattle.sg_histories.specs.KeptRows.{rows_of}
use Rattle.sg_histories.specs.Lawful.{Lawful}
use Rattle.sg_histories.specs.Standing.{text_at}
use Rattle.sg_talk.specs.Turns.{AskTurn}

-- the text of an answer tells its status number
abbrev pub StatusesAreTold : Type 0
StatusesAreTold = (version : ℕ) (answer : Answered) → get (codes "status") (answer_value version answer) ≡ Some (whole (answer_status answer))

-- the answers that say that the keeper failed are counted one exchange after another
abbrev pub StoresAreCounted : Type 0
StoresAreCounted = (exchanges : List Exchange) (exchange : Exchange) → stores_in (exchanges ++ exchange ∷ []) ≡ stores_in exchanges + store_in exchange.answer

-- each act that was answered `Done` in the talk has its text at its station's number in the rows at the end
abbrev pub KeepsDone : Setup → List Exchange → List Entry → Type 0
KeepsDone setup exchanges next = (exchange : Exchange) (stamp : Stamp) (done : Act) (said : Body) (text : List ℕ) → Contains exchanges exchange
    → exchange.answer ≡ answered.Reply (reply.Done said) → asked setup.plan.version exchange.bytes ≡ Ok (ask.Do stamp done)
    → text_at stamp.station stamp.number (rows_of setup text next).dones ≡ Some (act_text setup.plan.version done)

-- the next history is the history with further entries, or with none: of its entries none is gone, changed or moved, and
-- the newest stand first
abbrev pub GrowsTo : List Entry → List Entry → Type 0
GrowsTo history next = (more : List Entry) × (next ≡ more ++ history)

-- What a talk from one history to the next keeps: the history grows to the next, which is lawful, and each station's number
-- stands in it at most once; acts that were done are in the rows; and what stood in the history still stands.
pub record TalkKeeps (setup : Setup) (exchanges : List Exchange) (history next : List Entry) : Type 0 where
  pub lawful : Lawful setup next
  pub grows : GrowsTo history next
  pub once : (station number : ℕ) → count_by (is_stamped station number) next ≤ 1
  pub done : KeepsDone setup exchanges next
  pub stays : (station number : ℕ) (done : Act) → act_of_stamp history station number ≡ Some done → act_of_stamp next station number ≡ Some done

-- each talk that begins at a lawful history does
abbrev pub TalksKeep : Type 0
TalksKeep = (setup : Setup) (exchanges : List Exchange) (history next : List Entry) → Lawful setup history
    → Talk (AskTurn setup) setup.plan.version exchanges history next → TalkKeeps setup exchanges history next
