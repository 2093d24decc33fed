-- Lawful histories are those that come from the empty one by asks that can come.
use Rattle.std.proofs.Common.{◌≡◌, ◌<◌, ◌^◌, Bool, true, false, List, [], ◌∷◌, refl, ap, sym, ◌∙◌, subst, if◌then◌else◌}
use Rattle.std.proofs.lemmas.List.Elements.{All-cons, All-head, All-nil, All-tail}
use Rattle.sg_acts.specs.declared.asks.Act.{Act}
use Rattle.sg_acts.specs.declared.asks.Ask.{Ask}
use Rattle.sg_acts.specs.declared.asks.Ask.TheVariants as ask
use Rattle.sg_acts.specs.declared.asks.Stamp.{Stamp}
use Rattle.sg_keeper.specs.declared.setup.Setup.{Setup}
use Rattle.sg_histories.specs.Answers.{accepts, entry_of, next_history}
use Rattle.sg_histories.specs.Histories.{Entry}
use Rattle.sg_histories.specs.HistoryLaws.{AsksMakeLawful, LawfulComesFromAsks, TurnsStayLawful, history_after}
use Rattle.sg_histories.specs.Lawful.{Answered, Lawful, NoMemory, NotStored}
use Rattle.sg_histories.specs.Standing.{IsAsk}

-- the next history of a lawful one is lawful
pub next_lawful : (setup : Setup) (history : List Entry) (asked : Ask) → IsAsk setup asked → Lawful setup history → Lawful setup (next_history setup history asked)
unfolding next_history
next_lawful setup history (ask.See seen) is lawful = lawful
next_lawful setup history (ask.Do stamp asked) is lawful = by_test (accepts setup history stamp asked) refl
  where
    by_test : (t : Bool) → accepts setup history stamp asked ≡ t → Lawful setup (if t then entry_of stamp asked ∷ history else history)
    by_test true e = (record { stamp = stamp; is = refl; number = is.0; act_is = is.1; accepted = e }, lawful)
    by_test false e = lawful

pub asks_make_lawful : AsksMakeLawful
asks_make_lawful setup [] all = tt
asks_make_lawful setup (asked ∷ asks) all =
    next_lawful setup (history_after setup asks) asked (All-head (IsAsk setup) asked asks all) (asks_make_lawful setup asks (All-tail (IsAsk setup) asked asks all))

-- the ask of an accepted entry makes it
accepted_next : (setup : Setup) (history : List Entry) (stamp : Stamp) (asked : Act) → accepts setup history stamp asked ≡ true → next_history setup history (ask.Do stamp asked) ≡ entry_of stamp asked ∷ history
unfolding next_history
accepted_next setup history stamp asked e = rw e refl

pub lawful_comes : LawfulComesFromAsks
lawful_comes setup [] lawful = ([], All-nil (IsAsk setup), refl)
lawful_comes setup (entry ∷ history) lawful =
    let before = lawful_comes setup history lawful.1 in
    let is = lawful.0 in
    let asked : Ask = ask.Do is.stamp entry.act in
    let number : is.stamp.number < 2 ^ 32 = subst (λ (e : Entry). e.number < 2 ^ 32) is.is is.number in
    let here : next_history setup (history_after setup before.0) asked ≡ entry ∷ history
    = ap (λ (h : List Entry). next_history setup h asked) (sym before.2) ∙ (accepted_next setup history is.stamp entry.act is.accepted ∙ ap (λ (e : Entry). e ∷ history) (sym is.is)) in
    (asked ∷ before.0, All-cons (IsAsk setup) asked before.0 (number, is.act_is) before.1, sym here)

pub turns_stay_lawful : TurnsStayLawful
turns_stay_lawful setup history asked answer next is lawful (Answered said after) = subst (Lawful setup) (sym after) (next_lawful setup history asked is lawful)
turns_stay_lawful setup history asked answer next is lawful (NoMemory said after) = subst (Lawful setup) (sym after) lawful
turns_stay_lawful setup history asked answer next is lawful (NotStored said after new) = subst (Lawful setup) (sym after) lawful
