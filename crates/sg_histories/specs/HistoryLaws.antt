-- The laws of histories (this project's rules for the office).
use Rattle.std.specs.Prelude.{◌≡◌, ℕ, ◌≤◌, true, List, [], ◌∷◌, ◌++◌, count_by, Some, None, All}
use Rattle.sg_plan.specs.Limits.{fault_of}
use Rattle.sg_acts.specs.declared.asks.Act.{Act}
use Rattle.sg_acts.specs.declared.asks.Ask.{Ask}
use Rattle.sg_acts.specs.declared.asks.Ask.TheVariants as ask
use Rattle.sg_acts.specs.declared.asks.Stamp.{Stamp}
use Rattle.sg_acts.specs.declared.replies.Body.{Body}
use Rattle.sg_acts.specs.declared.replies.Reply.{Reply}
use Rattle.sg_acts.specs.declared.replies.Reply.TheVariants as reply
use Rattle.sg_keeper.specs.declared.setup.Setup.{Setup}
use Rattle.sg_desks.specs.ActTexts.{IsAct, act_text}
use Rattle.sg_post.specs.Fits.{story_fits}
use Rattle.sg_histories.specs.Answers.{answer_of, body_of, entry_of, knows_secret_of, next_history}
use Rattle.sg_histories.specs.Histories.{Entry, act_of_stamp, is_stamped}
use Rattle.sg_histories.specs.KeptRows.{rows_of}
use Rattle.sg_histories.specs.Lawful.{Lawful, Turn}
use Rattle.sg_histories.specs.Standing.{IsAsk, text_at}
use Rattle.sg_histories.specs.Stories.{story_of}

-- STORIES

-- the story of each lawful history may be posted
abbrev pub StoriesFit : Type 0
StoriesFit = (setup : Setup) (history : List Entry) → Lawful setup history → story_fits setup.plan (story_of setup history) ≡ true

-- ASKS

-- the history behind these asks, the newest first
abbrev pub history_after : Setup → List Ask → List Entry
history_after setup [] = []
history_after setup (asked ∷ asks) = next_history setup (history_after setup asks) asked

-- asks that can come make a lawful history
abbrev pub AsksMakeLawful : Type 0
AsksMakeLawful = (setup : Setup) (asks : List Ask) → All (IsAsk setup) asks → Lawful setup (history_after setup asks)

-- and each lawful history is made so
abbrev pub LawfulComesFromAsks : Type 0
LawfulComesFromAsks = (setup : Setup) (history : List Entry) → Lawful setup history → (asks : List Ask) × All (IsAsk setup) asks × (history ≡ history_after setup asks)

-- STAMPS

-- a station's number stands at most once in a lawful history
abbrev pub StampsStandOnce : Type 0
StampsStandOnce = (setup : Setup) (history : List Entry) → Lawful setup history → (station number : ℕ) → count_by (is_stamped station number) history ≤ 1

-- REPEATS

-- an act that comes again from its station with its number is answered as at first, and changes nothing, whatever was
-- accepted since
abbrev pub RepeatsAreAnswered : Type 0
RepeatsAreAnswered = (setup : Setup) (later history : List Entry) (stamp : Stamp) (asked : Act) → Lawful setup (later ++ entry_of stamp asked ∷ history)
    → knows_secret_of setup.secrets stamp ≡ true
    → (answer_of setup (later ++ entry_of stamp asked ∷ history) (ask.Do stamp asked) ≡ reply.Done (body_of setup history asked))
    × (next_history setup (later ++ entry_of stamp asked ∷ history) (ask.Do stamp asked) ≡ later ++ entry_of stamp asked ∷ history)

-- TURNS

-- a turn of an ask that can come leads from a lawful history to a lawful one
abbrev pub TurnsStayLawful : Type 0
TurnsStayLawful = (setup : Setup) (history : List Entry) (asked : Ask) (answer : Reply) (next : List Entry) → IsAsk setup asked → Lawful setup history
    → Turn setup history asked answer next → Lawful setup next

-- an act that is answered `Done` stands at its number in the next history
abbrev pub DoneActsStand : Type 0
DoneActsStand = (setup : Setup) (history : List Entry) (stamp : Stamp) (asked : Act) (said : Body) (next : List Entry) → fault_of setup.plan ≡ None → Lawful setup history
    → IsAct setup.plan.version asked → Turn setup history (ask.Do stamp asked) (reply.Done said) next
    → act_of_stamp next stamp.station stamp.number ≡ Some asked

-- and its text stands there in the rows
abbrev pub DoneActsAreKept : Type 0
DoneActsAreKept = (setup : Setup) (history : List Entry) (stamp : Stamp) (asked : Act) (said : Body) (next : List Entry) (text : List ℕ) → Lawful setup history
    → Turn setup history (ask.Do stamp asked) (reply.Done said) next
    → text_at stamp.station stamp.number (rows_of setup text next).dones ≡ Some (act_text setup.plan.version asked)

-- and there it stays: each act stands behind a turn where it stood before
abbrev pub ActsStay : Type 0
ActsStay = (setup : Setup) (history : List Entry) (asked : Ask) (answer : Reply) (next : List Entry) → Turn setup history asked answer next
    → (station number : ℕ) (done : Act) → act_of_stamp history station number ≡ Some done → act_of_stamp next station number ≡ Some done
