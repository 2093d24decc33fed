-- A turn of an office's talk, and so a talk, only adds entries.
use Rattle.std.proofs.Common.{◌≡◌, Bool, true, false, List, [], ◌∷◌, ◌++◌, refl, ap, sym, ◌∙◌, append_assoc, subst, if◌then◌else◌}
use Rattle.sg_acts.specs.declared.asks.Ask.{Ask}
use Rattle.sg_acts.specs.declared.asks.Ask.TheVariants as ask
use Rattle.sg_acts.specs.declared.replies.Reply.{Reply}
use Rattle.sg_keeper.specs.declared.setup.Setup.{Setup}
use Rattle.sg_histories.specs.Answers.{accepts, entry_of, next_history}
use Rattle.sg_histories.specs.Histories.{Entry}
use Rattle.sg_histories.specs.Lawful.{Answered, Lawful, NoMemory, NotStored, Turn}
use Rattle.sg_histories.proofs.Talks.{turns_stay_lawful}
use Rattle.sg_talk.specs.Laws.{GrowsTo}
use Rattle.sg_talk.specs.Turns.{AskTurn}

-- an ask adds its entry, or none
next_grows : (setup : Setup) (history : List Entry) (asked : Ask) → GrowsTo history (next_history setup history asked)
unfolding next_history
next_grows setup history (ask.See look) = ([], refl)
next_grows setup history (ask.Do stamp asked) = by_test (accepts setup history stamp asked)
  where
    by_test : (t : Bool) → GrowsTo history (if t then entry_of stamp asked ∷ history else history)
    by_test true = (entry_of stamp asked ∷ [], refl)
    by_test false = ([], refl)

pub turn_grows : (setup : Setup) (history : List Entry) (asked : Ask) (answer : Reply) (next : List Entry) → Turn setup history asked answer next → GrowsTo history next
turn_grows setup history asked answer next (Answered said after) = let grown = next_grows setup history asked in (grown.0, after ∙ grown.1)
turn_grows setup history asked answer next (NoMemory said after) = ([], after)
turn_grows setup history asked answer next (NotStored said after new) = ([], after)

-- from a lawful history a later one is lawful, and grew from it
pub record IsLater (setup : Setup) (history next : List Entry) : Type 0 where
  pub lawful : Lawful setup next
  pub grows : GrowsTo history next

-- a turn of an ask that can come leads to a later one
pub turn_later : (setup : Setup) (history : List Entry) (asked : Ask) (answer : Reply) (next : List Entry) → Lawful setup history → AskTurn setup history asked answer next → IsLater setup history next
turn_later setup history asked answer next lawful turn =
    record { lawful = turns_stay_lawful setup history asked answer next turn.0 lawful turn.1; grows = turn_grows setup history asked answer next turn.1 }

-- the same history is one
pub same_later : (setup : Setup) (history next : List Entry) → Lawful setup history → next ≡ history → IsLater setup history next
same_later setup history next lawful same = record { lawful = subst (Lawful setup) (sym same) lawful; grows = ([], same) }

-- what grew grows on
pub grows_on : (history middle next : List Entry) → GrowsTo history middle → GrowsTo middle next → GrowsTo history next
grows_on history middle next first second = (second.0 ++ first.0, second.1 ∙ (ap (λ (entries : List Entry). second.0 ++ entries) first.1 ∙ sym (append_assoc second.0 first.0 history)))

-- and so from the first to the last
pub later_on : (setup : Setup) (history middle next : List Entry) → IsLater setup history middle → IsLater setup middle next → IsLater setup history next
later_on setup history middle next first second = record { lawful = second.lawful; grows = grows_on history middle next first.grows second.grows }
