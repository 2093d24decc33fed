-- What an accepted act tells of the history before it.
use Rattle.std.proofs.Common.{◌≡◌, ℕ, ◌==◌, Bool, true, false, ◌&&◌, not, cond, List, [], ◌∷◌, Option, Some, None, is_none, refl, sym, ap, ◌∙◌}
use Rattle.std.proofs.lemmas.Bool.{not-true}
use Rattle.sg_lists.proofs.Options.{is_none-true}
use Rattle.sg_plan.specs.declared.plan.Fate.{Fate}
use Rattle.sg_plan.specs.declared.plan.Fate.TheVariants as fate
use Rattle.sg_plan.specs.declared.plan.Plan.{Plan}
use Rattle.sg_acts.specs.declared.asks.Act.{Act}
use Rattle.sg_acts.specs.declared.asks.Ask.TheVariants as ask
use Rattle.sg_acts.specs.declared.asks.Stamp.{Stamp}
use Rattle.sg_acts.specs.declared.replies.FateWord.{FateWord}
use Rattle.sg_acts.specs.declared.replies.Phase.{Phase}
use Rattle.sg_acts.specs.declared.replies.Reply.{Reply}
use Rattle.sg_acts.specs.declared.replies.Reply.TheVariants as reply
use Rattle.sg_keeper.specs.declared.setup.Setup.{Setup}
use Rattle.sg_histories.specs.Answers.{accepts, early_refusal, early_reply, entry_of, is_ballot, is_cast_word, is_unused, is_voting, knows_secret_of, next_history, refusal_of, repeat_of, unless, void_refusal}
use Rattle.sg_plan.specs.Limits.{first_of}
use Rattle.sg_histories.specs.Histories.{Entry, act_of_stamp, fate_word, is_stamped}

pub first_none : (o : Option Reply) (os : List (Option Reply)) → first_of (o ∷ os) ≡ None → (o ≡ None) × (first_of os ≡ None)
first_none None os e = (refl, e)
first_none (Some x) os e = cc

pub unless_none : (b : Bool) (r : Reply) → unless b r ≡ None → b ≡ true
unless_none true r e = refl
unless_none false r e = cc

-- no act has the number of a stamp just where none is repeated
unstamped : (setup : Setup) (history : List Entry) (stamp : Stamp) (asked : Act) → is_none (act_of_stamp history stamp.station stamp.number) ≡ is_none (repeat_of setup history stamp asked)
unstamped setup [] stamp asked = refl
unstamped setup (entry ∷ history) stamp asked = by_test _ (is_stamped stamp.station stamp.number entry) (unstamped setup history stamp asked)
  where
    by_test : (r : Reply) (b : Bool) → is_none (act_of_stamp history stamp.station stamp.number) ≡ is_none (repeat_of setup history stamp asked)
        → is_none (cond b (Some entry.act) (act_of_stamp history stamp.station stamp.number)) ≡ is_none (cond b (Some r) (repeat_of setup history stamp asked))
    by_test r true ih = refl
    by_test r false ih = ih

-- so an act is accepted just where nothing is replied early
pub accepts_is : (setup : Setup) (history : List Entry) (stamp : Stamp) (asked : Act) → accepts setup history stamp asked ≡ is_none (early_reply setup history stamp asked)
accepts_is setup history stamp asked =
    ap (λ (b : Bool). knows_secret_of setup.secrets stamp && (b && is_none (refusal_of setup history stamp.station asked))) (unstamped setup history stamp asked)
    ∙ by_parts (knows_secret_of setup.secrets stamp) (repeat_of setup history stamp asked) (refusal_of setup history stamp.station asked)
  where
    by_parts : (secret : Bool) (again refusal : Option Reply) → (secret && (is_none again && is_none refusal)) ≡ is_none (first_of (unless secret reply.Secret ∷ again ∷ refusal ∷ []))
    by_parts true None None = refl
    by_parts true None (Some said) = refl
    by_parts true (Some said) refusal = refl
    by_parts false again refusal = refl

-- and the history goes on by it
pub next_early : (setup : Setup) (history : List Entry) (stamp : Stamp) (asked : Act)
    → next_history setup history (ask.Do stamp asked) ≡ cond (is_none (early_reply setup history stamp asked)) (entry_of stamp asked ∷ history) history
unfolding next_history
next_early setup history stamp asked = ap (λ (b : Bool). cond b (entry_of stamp asked ∷ history) history) (accepts_is setup history stamp asked)

-- then there is no such reply
pub none_early : (setup : Setup) (history : List Entry) (stamp : Stamp) (asked : Act) → accepts setup history stamp asked ≡ true → early_reply setup history stamp asked ≡ None
none_early setup history stamp asked accepted = is_none-true (early_reply setup history stamp asked) (sym (accepts_is setup history stamp asked) ∙ accepted)

-- a new act that is accepted
pub record Passed (setup : Setup) (history : List Entry) (stamp : Stamp) (asked : Act) : Type 0 where
  pub secret : knows_secret_of setup.secrets stamp ≡ true
  pub new : repeat_of setup history stamp asked ≡ None
  pub refusal : refusal_of setup history stamp.station asked ≡ None

pub passed : (setup : Setup) (history : List Entry) (stamp : Stamp) (asked : Act) → accepts setup history stamp asked ≡ true → Passed setup history stamp asked
passed setup history stamp asked e =
    let one = first_none _ _ (none_early setup history stamp asked e) in
    let two = first_none _ _ one.1 in
    let three = first_none _ _ two.1 in
    record { secret = unless_none _ _ one.0; new = two.0; refusal = three.0 }

-- an accepted act on a ballot without a fate
pub record Early (plan : Plan) (now : Phase) (told : FateWord) (ballot : ℕ) : Type 0 where
  pub voting : is_voting now ≡ true
  pub ballot_is : is_ballot plan ballot ≡ true
  pub unused : is_unused told ≡ true

pub early : (plan : Plan) (now : Phase) (told : FateWord) (ballot : ℕ) → early_refusal plan now told ballot ≡ None → Early plan now told ballot
early plan now told ballot e =
    let one = first_none (unless (is_voting now) (reply.Phase now)) _ e in
    let two = first_none (unless (is_ballot plan ballot) reply.Ballot) _ one.1 in
    let three = first_none (unless (is_unused told) (reply.Fate told)) _ two.1 in
    record { voting = unless_none _ _ one.0; ballot_is = unless_none _ _ two.0; unused = unless_none _ _ three.0 }

-- an accepted void
pub record Voids (plan : Plan) (now : Phase) (told : FateWord) (scanner station ballot : ℕ) : Type 0 where
  pub voting : is_voting now ≡ true
  pub ballot_is : is_ballot plan ballot ≡ true
  pub cast : is_cast_word told ≡ true
  pub other : (station == scanner) ≡ false

pub voids : (plan : Plan) (now : Phase) (told : FateWord) (scanner station ballot : ℕ) → void_refusal plan now told scanner station ballot ≡ None → Voids plan now told scanner station ballot
voids plan now told scanner station ballot e =
    let one = first_none (unless (is_voting now) (reply.Phase now)) _ e in
    let two = first_none (unless (is_ballot plan ballot) reply.Ballot) _ one.1 in
    let three = first_none (unless (is_cast_word told) (reply.Fate told)) _ two.1 in
    let four = first_none (unless (not (station == scanner)) (reply.Station scanner)) _ three.1 in
    record { voting = unless_none _ _ one.0; ballot_is = unless_none _ _ two.0; cast = unless_none _ _ three.0; other = not-true (station == scanner) (unless_none _ _ four.0) }

pub unused_is : (told : Fate) → is_unused (fate_word told) ≡ true → told ≡ fate.Unused
unused_is fate.Unused e = refl
unused_is (fate.Cast marks) e = cc
unused_is fate.Spoiled e = cc
unused_is (fate.Audited paper) e = cc
unused_is fate.Voided e = cc
