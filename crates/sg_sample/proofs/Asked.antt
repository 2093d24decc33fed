-- What the office answers to an act that is new and accepted: that it is done, but for want of memory and a keeper that fails.
use Rattle.std.proofs.Common.{◌≡◌, ℕ, true, List, Option, unwrap_or, subst, ap, ◌∙◌, arith}
use Rattle.sg_outside.specs.Faults.{Rose}
use Rattle.sg_acts.specs.declared.asks.Act.{Act}
use Rattle.sg_acts.specs.declared.asks.Ask.{Ask}
use Rattle.sg_acts.specs.declared.asks.Ask.TheVariants as ask
use Rattle.sg_acts.specs.declared.asks.Stamp.{Stamp}
use Rattle.sg_acts.specs.declared.replies.Body.{Body}
use Rattle.sg_acts.specs.declared.replies.Reply.{Reply}
use Rattle.sg_acts.specs.declared.replies.Reply.TheVariants as reply
use Rattle.sg_keeper.specs.declared.rows.Rows.{Rows}
use Rattle.sg_keeper.specs.declared.setup.Setup.{Setup}
use Rattle.sg_histories.specs.Answers.{accepts, answer_of, body_of, next_history}
use Rattle.sg_histories.specs.Histories.{Entry}
use Rattle.sg_histories.specs.Lawful.{Turn}
use Rattle.sg_histories.specs.Lawful.Turn.{Answered, NoMemory, NotStored}
use Rattle.sg_histories.specs.Standing.{StandsFor, Turned}
use Rattle.sg_histories.specs.declared.kept.Kept.{Kept}
use Rattle.sg_histories.proofs.Accepted.{none_early}
use Rattle.sg_sample.specs.inside.Voting.{GoesOn, stamp_of}

-- behind a turn that is done the history is the next one
done_next : (setup : Setup) (history : List Entry) (asked : Ask) (said : Body) (next : List Entry) → Turn setup history asked (reply.Done said) next → next ≡ next_history setup history asked
done_next setup history asked said next (Answered says goes) = goes
done_next setup history asked said next (NoMemory wants stays) = cc
done_next setup history asked said next (NotStored fails stays new) = cc

pub done_stands : (old new : Kept) (tells : Type 0) (rows after : Rows) (asked : Ask) (said : Body) (history : List Entry)
    → Turned old new tells rows after asked (reply.Done said) history → StandsFor new (next_history old.setup history asked)
done_stands old new tells rows after asked said history turned =
    subst (StandsFor new) (done_next old.setup history asked said turned.next turned.turn) turned.stands

-- no count rises that stays 0
pub no_store : Rose 0 0 → ⊥
no_store h = omega (arith, h)

-- a new act is answered so
pub answered_done : (setup : Setup) (history : List Entry) (stamp : Stamp) (done : Act) → accepts setup history stamp done ≡ true
    → answer_of setup history (ask.Do stamp done) ≡ reply.Done (body_of setup history done)
unfolding answer_of
answered_done setup history stamp done accepted =
    ap (λ (o : Option Reply). unwrap_or o (reply.Done (body_of setup history done))) (none_early setup history stamp done accepted)

never : (setup : Setup) (history : List Entry) (stamp : Stamp) (done : Act) (answer : Reply) (next : List Entry) → accepts setup history stamp done ≡ true
    → ((said : Body) → answer ≡ reply.Done said → ⊥) → (answer ≡ reply.Memory → ⊥) → (answer ≡ reply.Store → ⊥) → Turn setup history (ask.Do stamp done) answer next → ⊥
never setup history stamp done answer next accepted not_done not_memory not_store (Answered says goes) =
    not_done (body_of setup history done) (says ∙ answered_done setup history stamp done accepted)
never setup history stamp done answer next accepted not_done not_memory not_store (NoMemory wants stays) = not_memory wants
never setup history stamp done answer next accepted not_done not_memory not_store (NotStored fails stays new) = not_store fails

-- and in no other way
pub no_other : (old new : Kept) (tells : Type 0) (rows after : Rows) (stamp : Stamp) (done : Act) (answer : Reply) (history : List Entry) → accepts old.setup history stamp done ≡ true
    → ((said : Body) → answer ≡ reply.Done said → ⊥) → (answer ≡ reply.Memory → ⊥) → (answer ≡ reply.Store → ⊥)
    → Turned old new tells rows after (ask.Do stamp done) answer history → ⊥
no_other old new tells rows after stamp done answer history accepted not_done not_memory not_store turned =
    never old.setup history stamp done answer turned.next accepted not_done not_memory not_store turned.turn

-- an act that is done
pub done_goes : (old new : Kept) (tells : Type 0) (rows after : Rows) (stamp : Stamp) (number : ℕ) (done : Act) (said : Body) → stamp ≡ stamp_of number → new.setup ≡ old.setup
    → ((history : List Entry) → StandsFor old history → Turned old new tells rows after (ask.Do stamp done) (reply.Done said) history) → GoesOn old new number done
done_goes old new tells rows after stamp number done said is setup turns = record {
  setup_is = setup;
  stands = λ history stands.
      subst (λ (s : Stamp). StandsFor new (next_history old.setup history (ask.Do s done))) is (done_stands old new tells rows after (ask.Do stamp done) said history (turns history stands));
}
