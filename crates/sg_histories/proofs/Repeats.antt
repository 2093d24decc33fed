-- An act that comes again is answered as at first.
use Rattle.std.proofs.Common.{◌≡◌, Bool, true, false, cond, List, [], ◌∷◌, ◌++◌, Option, Some, None, refl, ◌∙◌}
use Rattle.std.proofs.lemmas.Slice.Eq.{bytes_eq-Decides}
use Rattle.sg_lists.proofs.Options.{cond_none}
use Rattle.sg_acts.specs.declared.asks.Act.{Act}
use Rattle.sg_acts.specs.declared.asks.Stamp.{Stamp}
use Rattle.sg_acts.specs.declared.replies.Reply.{Reply}
use Rattle.sg_acts.specs.declared.replies.Reply.TheVariants as reply
use Rattle.sg_keeper.specs.declared.setup.Setup.{Setup}
use Rattle.sg_desks.specs.ActTexts.{act_text}
use Rattle.sg_histories.specs.Answers.{answer_of, body_of, entry_of, next_history, repeat_of, same_act}
use Rattle.sg_histories.specs.Histories.{Entry, act_of_stamp, is_stamped}
use Rattle.sg_histories.specs.HistoryLaws.{RepeatsAreAnswered}
use Rattle.sg_histories.specs.Lawful.{Lawful}
use Rattle.sg_histories.proofs.Accepted.{next_early}
use Rattle.sg_histories.proofs.DoneActs.{found_self, stamped_self}
use Rattle.sg_histories.proofs.Stamps.{entry_new}

-- an entry's number is there, whatever stands before it
stands_in : (later history : List Entry) (stamp : Stamp) (asked : Act) → act_of_stamp (later ++ entry_of stamp asked ∷ history) stamp.station stamp.number ≡ None → ⊥
stands_in [] history stamp asked none = clash (act_of_stamp (entry_of stamp asked ∷ history) stamp.station stamp.number) (found_self history stamp asked) none
  where
    clash : (o : Option Act) → o ≡ Some asked → o ≡ None → ⊥
    clash o some e = cc
stands_in (entry ∷ later) history stamp asked none =
    stands_in later history stamp asked (cond_none (is_stamped stamp.station stamp.number entry) entry.act (act_of_stamp (later ++ entry_of stamp asked ∷ history) stamp.station stamp.number) none).1

-- the entry's own act is found at its number
repeat_here : (setup : Setup) (history : List Entry) (stamp : Stamp) (asked : Act) → repeat_of setup (entry_of stamp asked ∷ history) stamp asked ≡ Some (reply.Done (body_of setup history asked))
repeat_here setup history stamp asked =
    let same : same_act setup asked asked ≡ true = (bytes_eq-Decides (act_text setup.plan.version asked) (act_text setup.plan.version asked)).1 refl in
    rw (stamped_self stamp asked, same) refl

repeat_later : (setup : Setup) (later history : List Entry) (stamp : Stamp) (asked : Act) → Lawful setup (later ++ entry_of stamp asked ∷ history)
    → repeat_of setup (later ++ entry_of stamp asked ∷ history) stamp asked ≡ Some (reply.Done (body_of setup history asked))
repeat_later setup [] history stamp asked lawful = repeat_here setup history stamp asked
repeat_later setup (entry ∷ later) history stamp asked lawful = by_test _ (is_stamped stamp.station stamp.number entry) refl (repeat_later setup later history stamp asked lawful.1)
  where
    whole : List Entry
    whole = later ++ entry_of stamp asked ∷ history

    by_test : (o : Option Reply) (t : Bool) → is_stamped stamp.station stamp.number entry ≡ t → repeat_of setup whole stamp asked ≡ Some (reply.Done (body_of setup history asked))
        → cond t o (repeat_of setup whole stamp asked) ≡ Some (reply.Done (body_of setup history asked))
    by_test o true is ih = absurd (stands_in later history stamp asked (entry_new setup entry whole lawful stamp.station stamp.number is).1)
    by_test o false is ih = ih

pub repeats_are_answered : RepeatsAreAnswered
unfolding answer_of next_history
repeats_are_answered setup later history stamp asked lawful secret =
    let again = repeat_later setup later history stamp asked lawful in
    (rw (secret, again) refl, next_early setup (later ++ entry_of stamp asked ∷ history) stamp asked ∙ (rw (secret, again) refl))
