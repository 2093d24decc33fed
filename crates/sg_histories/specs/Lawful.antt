-- The histories that an office can have, and a turn of its talk (this project's rules for the office).
use Rattle.std.specs.Prelude.{◌≡◌, ◌<◌, ◌^◌, true, List, [], ◌∷◌, length}
use Rattle.sg_plan.specs.declared.plan.Draw.TheVariants as draw
use Rattle.sg_lines.specs.Words.{IsBytes}
use Rattle.sg_acts.specs.declared.asks.Act.{Act}
use Rattle.sg_acts.specs.declared.asks.Act.TheVariants as act
use Rattle.sg_acts.specs.declared.asks.Ask.{Ask}
use Rattle.sg_acts.specs.declared.asks.Ask.TheVariants as ask
use Rattle.sg_acts.specs.declared.asks.Stamp.{Stamp}
use Rattle.sg_acts.specs.declared.replies.Reply.{Reply}
use Rattle.sg_acts.specs.declared.replies.Reply.TheVariants as reply
use Rattle.sg_keeper.specs.declared.setup.Setup.{Setup}
use Rattle.sg_desks.specs.ActTexts.{HasCodes}
use Rattle.sg_histories.specs.Answers.{accepts, answer_of, entry_of, next_history}
use Rattle.sg_histories.specs.Histories.{Entry}

-- the bytes of a draw are bytes, and the marks of a scan can be counted by a u32
abbrev pub IsCounted : Act → Type 0
IsCounted (act.Scan ballot marks) = length marks < 2 ^ 32
IsCounted (act.Draw (draw.Public bytes)) = IsBytes bytes
IsCounted other = Unit {0}

-- an act that can be asked for under a setup: its codes are codes of the plan's version
pub record IsAskable (setup : Setup) (asked : Act) : Type 0 where
  pub codes : HasCodes setup.plan.version asked
  pub counted : IsCounted asked

-- an act that a station asked for under this number, which was new and was accepted
pub record IsAccepted (setup : Setup) (history : List Entry) (entry : Entry) : Type 0 where
  pub stamp : Stamp
  pub is : entry ≡ entry_of stamp entry.act
  pub number : entry.number < 2 ^ 32
  pub act_is : IsAskable setup entry.act
  pub accepted : accepts setup history stamp entry.act ≡ true

-- each entry was accepted after those before it
abbrev pub Lawful : Setup → List Entry → Type 0
Lawful setup [] = Unit {0}
Lawful setup (entry ∷ history) = IsAccepted setup history entry × Lawful setup history

-- the ask is an act that is new and accepted
abbrev pub IsNewAct : Setup → List Entry → Ask → Type 0
IsNewAct setup history (ask.Do stamp asked) = accepts setup history stamp asked ≡ true
IsNewAct setup history (ask.See look) = ⊥

-- a turn of the talk: the answer, or want of memory, or a keeper that failed to keep a new act. A refusal
-- of the last two kinds leaves the history as it was.
pub data Turn (setup : Setup) (history : List Entry) (asked : Ask) (answer : Reply) (next : List Entry) : Type 0 where
  Answered : answer ≡ answer_of setup history asked → next ≡ next_history setup history asked → Turn setup history asked answer next
  NoMemory : answer ≡ reply.Memory → next ≡ history → Turn setup history asked answer next
  NotStored : answer ≡ reply.Store → next ≡ history → IsNewAct setup history asked → Turn setup history asked answer next
