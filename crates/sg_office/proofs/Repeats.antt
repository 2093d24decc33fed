-- An act that comes again is answered by the row that was kept of it.
use Rattle.std.proofs.Common.{◌≡◌, ℕ, Bool, true, false, cond, List, [], ◌∷◌, bytes_eq, Option, Some, None, refl, ap, sym, ◌∙◌, subst}
use Rattle.std.specs.Option.{option_map}
use Rattle.std.proofs.lemmas.Slice.Eq.{bytes_eq-Decides}
use Rattle.sg_desks.specs.ActTexts.{HasNumbers, act_text}
use Rattle.sg_acts.specs.declared.asks.Act.{Act}
use Rattle.sg_acts.specs.declared.asks.Act.TheVariants as act
use Rattle.sg_acts.specs.declared.asks.Stamp.{Stamp}
use Rattle.sg_acts.specs.declared.replies.Body.{Body}
use Rattle.sg_acts.specs.declared.replies.Body.TheVariants as body
use Rattle.sg_plan.specs.Ballots.{ballot_row}
use Rattle.sg_tables.specs.Posts.{right_word}
use Rattle.sg_acts.specs.declared.replies.Phase.{Phase}
use Rattle.sg_acts.specs.declared.replies.Phase.TheVariants as phase
use Rattle.sg_acts.specs.declared.replies.Reply.{Reply}
use Rattle.sg_acts.specs.declared.replies.Reply.TheVariants as reply
use Rattle.sg_keeper.specs.declared.setup.Setup.{Setup}
use Rattle.sg_histories.specs.Answers.{body_of, body_with, is_closed, is_drawn, is_voting, refusal_of, repeat_of, same_act, unless}
use Rattle.sg_histories.specs.Histories.{Entry, act_of_stamp, fate_after, fate_of, fate_word, is_stamped, phase_of, phase_word, scanner_of, stage_after, stage_of}
use Rattle.sg_histories.specs.Lawful.{IsAccepted, IsAskable, Lawful}
use Rattle.sg_desks.specs.Laws.{TextsDiffer}
use Rattle.sg_plan.specs.Limits.{fault_of}
use Rattle.sg_office.specs.inside.Now.{FitsBody, fate_at}
use Rattle.sg_histories.specs.declared.kept.Kept.{Kept}
use Rattle.sg_histories.specs.Standing.{StandsFor, text_at}
use Rattle.sg_histories.proofs.Accepted.{early, first_none, passed, unless_none, voids}
use Rattle.sg_histories.proofs.Stamps.{rows_tell}
use Rattle.sg_office.proofs.Fits.{accepted_fits, accepted_numbers}
use Rattle.sg_office.proofs.NowTold.{body_told}

bytes_other : (xs ys : List ℕ) → (xs ≡ ys → ⊥) → bytes_eq xs ys ≡ false
bytes_other xs ys h = by_test (bytes_eq xs ys) refl
  where
    by_test : (b : Bool) → bytes_eq xs ys ≡ b → b ≡ false
    by_test true k = absurd (h ((bytes_eq-Decides xs ys).0 k))
    by_test false k = refl

-- PHASES

drawn_only : (now : Phase) → is_drawn now ≡ true → now ≡ phase.Drawn
drawn_only phase.Voting e = cc
drawn_only phase.Closed e = cc
drawn_only phase.Drawn e = refl

no_vote : (now : Phase) → now ≡ phase.Drawn → is_voting now ≡ true → ⊥
no_vote phase.Voting d e = cc
no_vote phase.Closed d e = cc
no_vote phase.Drawn d e = cc

no_close : (now : Phase) → now ≡ phase.Drawn → is_closed now ≡ true → ⊥
no_close phase.Voting d e = cc
no_close phase.Closed d e = cc
no_close phase.Drawn d e = cc

-- after the draw nothing but claims is accepted: fates and the phase stay
pub record Stays (history : List Entry) (done : Act) : Type 0 where
  pub drawn : phase_word (stage_after done (stage_of history)) ≡ phase.Drawn
  pub fates : (ballot : ℕ) → fate_after ballot done (fate_of history ballot) ≡ fate_of history ballot

stays : (setup : Setup) (history : List Entry) (station : ℕ) (done : Act) → phase_of history ≡ phase.Drawn → refusal_of setup history station done ≡ None → Stays history done
stays setup history station (act.Scan ballot marks) d e = absurd (no_vote _ d (early setup.plan (phase_of history) (fate_word (fate_of history ballot)) ballot (first_none _ _ e).0).voting)
stays setup history station (act.Spoil ballot) d e = absurd (no_vote _ d (early setup.plan (phase_of history) (fate_word (fate_of history ballot)) ballot e).voting)
stays setup history station (act.Audit ballot paper) d e = absurd (no_vote _ d (early setup.plan (phase_of history) (fate_word (fate_of history ballot)) ballot (first_none _ _ e).0).voting)
stays setup history station act.Close d e = absurd (no_vote _ d (unless_none _ _ (first_none (unless (is_voting (phase_of history)) (reply.Phase (phase_of history))) _ e).0))
stays setup history station (act.Draw drawn) d e = absurd (no_close _ d (unless_none _ _ (first_none (unless (is_closed (phase_of history)) (reply.Phase (phase_of history))) _ e).0))
stays setup history station (act.Claim ballot race code) d e = record { drawn = d; fates = λ b. refl }
stays setup history station (act.Void ballot) d e = absurd (no_vote _ d (voids setup.plan (phase_of history) (fate_word (fate_of history ballot)) (scanner_of history ballot) station ballot e).voting)

pub entry_stays : (setup : Setup) (history : List Entry) (entry : Entry) → IsAccepted setup history entry → phase_of history ≡ phase.Drawn → Stays history entry.act
entry_stays setup history entry accepted d = stays setup history accepted.stamp.station entry.act d (passed setup history accepted.stamp entry.act accepted.accepted).refusal

-- a claim was accepted after the draw
claim_drawn : (setup : Setup) (history : List Entry) (station : ℕ) (ballot race code : ℕ) → refusal_of setup history station (act.Claim ballot race code) ≡ None → phase_of history ≡ phase.Drawn
claim_drawn setup history station ballot race code e = drawn_only (phase_of history) (unless_none _ _ (first_none (unless (is_drawn (phase_of history)) (reply.Phase (phase_of history))) _ e).0)

entry_drawn : (setup : Setup) (history : List Entry) (entry : Entry) (ballot race code : ℕ) → IsAccepted setup history entry → entry.act ≡ act.Claim ballot race code → phase_of (entry ∷ history) ≡ phase.Drawn
entry_drawn setup history entry ballot race code accepted is =
    let free = (passed setup history accepted.stamp entry.act accepted.accepted).refusal in
    let P : Act → Type 0 = λ a. refusal_of setup history accepted.stamp.station a ≡ None in
    let before : phase_of history ≡ phase.Drawn = claim_drawn setup history accepted.stamp.station ballot race code (subst P is free) in
    (entry_stays setup history entry accepted before).drawn

-- a claim that was accepted stands in a drawn history
pub kept_claim : (setup : Setup) (history : List Entry) (station number ballot race code : ℕ) → Lawful setup history
    → act_of_stamp history station number ≡ Some (act.Claim ballot race code) → phase_of history ≡ phase.Drawn
kept_claim setup [] station number ballot race code lawful e = cc
kept_claim setup (entry ∷ history) station number ballot race code lawful e = by_test (is_stamped station number entry) e (λ k. kept_claim setup history station number ballot race code lawful.1 k)
  where
    by_test : (b : Bool) → cond b (Some entry.act) (act_of_stamp history station number) ≡ Some (act.Claim ballot race code)
        → (act_of_stamp history station number ≡ Some (act.Claim ballot race code) → phase_of history ≡ phase.Drawn)
        → phase_of (entry ∷ history) ≡ phase.Drawn
    by_test true k ih = entry_drawn setup history entry ballot race code lawful.0 (cc)
    by_test false k ih = (entry_stays setup history entry lawful.0 (ih k)).drawn

-- BODIES

-- an act's body after it is the one before it
own_body : (setup : Setup) (history : List Entry) (station number : ℕ) (done : Act) → body_of setup history done ≡ body_of setup (record { station = station; number = number; act = done } ∷ history) done
own_body setup history station number (act.Scan ballot marks) = refl
own_body setup history station number (act.Spoil ballot) = refl
own_body setup history station number (act.Audit ballot paper) = refl
own_body setup history station number act.Close = refl
own_body setup history station number (act.Draw drawn) = refl
own_body setup history station number (act.Claim ballot race code) = refl
own_body setup history station number (act.Void ballot) = refl

-- the body of an act that was kept stays as other acts are accepted
later_body : (setup : Setup) (history : List Entry) (entry : Entry) (station number : ℕ) (done : Act) → Lawful setup (entry ∷ history)
    → act_of_stamp history station number ≡ Some done → body_of setup history done ≡ body_of setup (entry ∷ history) done
later_body setup history entry station number (act.Scan ballot marks) lawful e = refl
later_body setup history entry station number (act.Spoil ballot) lawful e = refl
later_body setup history entry station number (act.Audit ballot paper) lawful e = refl
later_body setup history entry station number act.Close lawful e = refl
later_body setup history entry station number (act.Draw drawn) lawful e = refl
later_body setup history entry station number (act.Claim ballot race code) lawful e =
    let d : phase_of history ≡ phase.Drawn = kept_claim setup history station number ballot race code lawful.1 e in
    ap (λ f. body.Claimed (right_word setup.plan setup.seed.0 race (ballot_row setup.plan race ballot) f code)) (sym ((entry_stays setup history entry lawful.0 d).fates ballot))
later_body setup history entry station number (act.Void ballot) lawful e = refl

-- the reply where this act was kept
abbrev pub kept_reply : Setup → List Entry → Act → Act → Reply
kept_reply setup history asked kept = cond (same_act setup kept asked) (reply.Done (body_of setup history kept)) (reply.Ref (act_text setup.plan.version kept))

-- a repeat's reply is told by the kept act and the history as it is now
pub repeats : (setup : Setup) (history : List Entry) (stamp : Stamp) (asked : Act) → Lawful setup history
    → repeat_of setup history stamp asked ≡ option_map (kept_reply setup history asked) (act_of_stamp history stamp.station stamp.number)
repeats setup [] stamp asked lawful = refl
repeats setup (entry ∷ history) stamp asked lawful = by_test (is_stamped stamp.station stamp.number entry) (repeats setup history stamp asked lawful.1)
  where
    by_kept : (o : Option Act) → act_of_stamp history stamp.station stamp.number ≡ o → option_map (kept_reply setup history asked) o ≡ option_map (kept_reply setup (entry ∷ history) asked) o
    by_kept None e = refl
    by_kept (Some kept) e = ap (λ b. Some (cond (same_act setup kept asked) (reply.Done b) (reply.Ref (act_text setup.plan.version kept)))) (later_body setup history entry stamp.station stamp.number kept lawful e)

    by_test : (b : Bool) → repeat_of setup history stamp asked ≡ option_map (kept_reply setup history asked) (act_of_stamp history stamp.station stamp.number)
        → cond b (Some (cond (same_act setup entry.act asked) (reply.Done (body_of setup history entry.act)) (reply.Ref (act_text setup.plan.version entry.act)))) (repeat_of setup history stamp asked)
        ≡ option_map (kept_reply setup (entry ∷ history) asked) (cond b (Some entry.act) (act_of_stamp history stamp.station stamp.number))
    by_test true ih = ap (λ b. Some (cond (same_act setup entry.act asked) (reply.Done b) (reply.Ref (act_text setup.plan.version entry.act)))) (own_body setup history entry.station entry.number entry.act)
    by_test false ih = ih ∙ by_kept (act_of_stamp history stamp.station stamp.number) refl

-- KEPT ACTS

-- an act that was kept can be asked for
pub kept_act : (setup : Setup) (history : List Entry) (station number : ℕ) (kept : Act) → Lawful setup history → act_of_stamp history station number ≡ Some kept → IsAskable setup kept
kept_act setup [] station number kept lawful e = cc
kept_act setup (entry ∷ history) station number kept lawful e = by_test (is_stamped station number entry) e (kept_act setup history station number kept lawful.1)
  where
    by_test : (b : Bool) → cond b (Some entry.act) (act_of_stamp history station number) ≡ Some kept
        → (act_of_stamp history station number ≡ Some kept → IsAskable setup kept) → IsAskable setup kept
    by_test true k ih = let is : entry.act ≡ kept = (cc) in subst (IsAskable setup) is lawful.0.act_is
    by_test false k ih = ih k

-- a claim that was kept is on a race of a ballot
pub kept_fits : (setup : Setup) (history : List Entry) (station number : ℕ) (kept : Act) → Lawful setup history → act_of_stamp history station number ≡ Some kept → FitsBody setup.plan kept
kept_fits setup [] station number kept lawful e = cc
kept_fits setup (entry ∷ history) station number kept lawful e = by_test (is_stamped station number entry) e (kept_fits setup history station number kept lawful.1)
  where
    by_test : (b : Bool) → cond b (Some entry.act) (act_of_stamp history station number) ≡ Some kept
        → (act_of_stamp history station number ≡ Some kept → FitsBody setup.plan kept) → FitsBody setup.plan kept
    by_test true k ih = let is : entry.act ≡ kept = (cc) in subst (FitsBody setup.plan) is (accepted_fits setup history lawful.0.stamp entry.act lawful.0.accepted)
    by_test false k ih = ih k

-- an act that was kept has numbers in their ranges
pub kept_numbers : (setup : Setup) (history : List Entry) (station number : ℕ) (kept : Act) → fault_of setup.plan ≡ None → Lawful setup history
    → act_of_stamp history station number ≡ Some kept → HasNumbers kept
kept_numbers setup [] station number kept limits lawful e = cc
kept_numbers setup (entry ∷ history) station number kept limits lawful e = by_test (is_stamped station number entry) e (kept_numbers setup history station number kept limits lawful.1)
  where
    by_test : (b : Bool) → cond b (Some entry.act) (act_of_stamp history station number) ≡ Some kept
        → (act_of_stamp history station number ≡ Some kept → HasNumbers kept) → HasNumbers kept
    by_test true k ih =
        let is : entry.act ≡ kept = (cc) in
        subst HasNumbers is (accepted_numbers setup history lawful.0.stamp entry.act limits lawful.0.act_is lawful.0.accepted)
    by_test false k ih = ih k

-- an act that was kept is the one that has its text
pub kept_one : (setup : Setup) (history : List Entry) (station number : ℕ) (old asked : Act) → TextsDiffer → fault_of setup.plan ≡ None → HasNumbers asked → IsAskable setup asked
    → Lawful setup history → act_of_stamp history station number ≡ Some old → act_text setup.plan.version old ≡ act_text setup.plan.version asked → old ≡ asked
kept_one setup history station number old asked differ limits numbers is lawful e same =
    differ setup.plan.version old asked
    (record { numbers = kept_numbers setup history station number old limits lawful e; codes = (kept_act setup history station number old lawful e).codes })
    (record { numbers = numbers; codes = is.codes }) same

-- the reply where a text was kept under the stamp
abbrev pub text_reply : Kept → Act → List ℕ → Reply
text_reply kept asked text = cond (bytes_eq text (act_text kept.setup.plan.version asked)) (reply.Done (body_with kept.setup (fate_at kept.slots) asked)) (reply.Ref text)

-- a repeat's reply, from what is kept
pub repeat_told : (kept : Kept) (history : List Entry) (stamp : Stamp) (asked : Act) → TextsDiffer → fault_of kept.setup.plan ≡ None → HasNumbers asked → IsAskable kept.setup asked → StandsFor kept history
    → repeat_of kept.setup history stamp asked ≡ option_map (text_reply kept asked) (text_at stamp.station stamp.number kept.dones)
repeat_told kept history stamp asked differ limits numbers is stands =
    repeats kept.setup history stamp asked stands.lawful
    ∙ by_kept (act_of_stamp history stamp.station stamp.number) refl
    ∙ ap (option_map (text_reply kept asked)) (sym (ap (text_at stamp.station stamp.number) (stands.dones []) ∙ rows_tell kept.setup [] history stands.lawful stamp.station stamp.number))
  where
    by_same : (old : Act) → act_of_stamp history stamp.station stamp.number ≡ Some old → (b : Bool) → bytes_eq (act_text kept.setup.plan.version old) (act_text kept.setup.plan.version asked) ≡ b
        → cond b (reply.Done (body_of kept.setup history old)) (reply.Ref (act_text kept.setup.plan.version old)) ≡ cond b (reply.Done (body_with kept.setup (fate_at kept.slots) asked)) (reply.Ref (act_text kept.setup.plan.version old))
    by_same old e false k = refl
    by_same old e true k =
        let one : old ≡ asked = kept_one kept.setup history stamp.station stamp.number old asked differ limits numbers is stands.lawful e ((bytes_eq-Decides (act_text kept.setup.plan.version old) (act_text kept.setup.plan.version asked)).0 k) in
        let fits : FitsBody kept.setup.plan asked = subst (FitsBody kept.setup.plan) one (kept_fits kept.setup history stamp.station stamp.number old stands.lawful e) in
        ap (λ a. reply.Done (body_of kept.setup history a)) one ∙ ap (λ b. reply.Done b) (sym (body_told kept history asked stands fits))

    by_kept : (o : Option Act) → act_of_stamp history stamp.station stamp.number ≡ o
        → option_map (kept_reply kept.setup history asked) o ≡ option_map (text_reply kept asked) (option_map (act_text kept.setup.plan.version) o)
    by_kept None e = refl
    by_kept (Some old) e = ap (λ r. Some r) (by_same old e (bytes_eq (act_text kept.setup.plan.version old) (act_text kept.setup.plan.version asked)) refl)

-- the reply where the text under the stamp is the act's own
pub repeat_same : (kept : Kept) (history : List Entry) (stamp : Stamp) (asked : Act) (text : List ℕ) (said : Body) → TextsDiffer → fault_of kept.setup.plan ≡ None → HasNumbers asked → IsAskable kept.setup asked
    → StandsFor kept history → text_at stamp.station stamp.number kept.dones ≡ Some text → text ≡ act_text kept.setup.plan.version asked → said ≡ body_with kept.setup (fate_at kept.slots) asked
    → Some (reply.Done said) ≡ repeat_of kept.setup history stamp asked
repeat_same kept history stamp asked text said differ limits numbers is stands found same says =
    let test : bytes_eq text (act_text kept.setup.plan.version asked) ≡ true = (bytes_eq-Decides text (act_text kept.setup.plan.version asked)).1 same in
    sym (repeat_told kept history stamp asked differ limits numbers is stands ∙ ap (option_map (text_reply kept asked)) found
    ∙ ap (λ b. Some (cond b (reply.Done (body_with kept.setup (fate_at kept.slots) asked)) (reply.Ref text))) test ∙ ap (λ b. Some (reply.Done b)) (sym says))

-- and where it is another one
pub repeat_other : (kept : Kept) (history : List Entry) (stamp : Stamp) (asked : Act) (text copy : List ℕ) → TextsDiffer → fault_of kept.setup.plan ≡ None → HasNumbers asked → IsAskable kept.setup asked
    → StandsFor kept history → text_at stamp.station stamp.number kept.dones ≡ Some text → (text ≡ act_text kept.setup.plan.version asked → ⊥) → copy ≡ text
    → Some (reply.Ref copy) ≡ repeat_of kept.setup history stamp asked
repeat_other kept history stamp asked text copy differ limits numbers is stands found other same =
    let test : bytes_eq text (act_text kept.setup.plan.version asked) ≡ false = bytes_other text (act_text kept.setup.plan.version asked) other in
    sym (repeat_told kept history stamp asked differ limits numbers is stands ∙ ap (option_map (text_reply kept asked)) found
    ∙ ap (λ b. Some (cond b (reply.Done (body_with kept.setup (fate_at kept.slots) asked)) (reply.Ref text))) test ∙ ap (λ t. Some (reply.Ref t)) (sym same))

-- a claim that comes again is on a race of a ballot
pub repeat_fits : (kept : Kept) (history : List Entry) (stamp : Stamp) (asked : Act) (text : List ℕ) → TextsDiffer → fault_of kept.setup.plan ≡ None → HasNumbers asked → IsAskable kept.setup asked → StandsFor kept history
    → text_at stamp.station stamp.number kept.dones ≡ Some text → text ≡ act_text kept.setup.plan.version asked → FitsBody kept.setup.plan asked
repeat_fits kept history stamp asked text differ limits numbers is stands found same =
    by_kept (act_of_stamp history stamp.station stamp.number) refl
    (sym (rows_tell kept.setup [] history stands.lawful stamp.station stamp.number) ∙ (sym (ap (text_at stamp.station stamp.number) (stands.dones [])) ∙ found))
  where
    by_kept : (o : Option Act) → act_of_stamp history stamp.station stamp.number ≡ o → option_map (act_text kept.setup.plan.version) o ≡ Some text → FitsBody kept.setup.plan asked
    by_kept None e k = cc
    by_kept (Some old) e k =
        let texts_are : act_text kept.setup.plan.version old ≡ text = (cc) in
        let one : old ≡ asked = kept_one kept.setup history stamp.station stamp.number old asked differ limits numbers is stands.lawful e (texts_are ∙ same) in
        subst (FitsBody kept.setup.plan) one (kept_fits kept.setup history stamp.station stamp.number old stands.lawful e)
