-- An act that is answered `Done` stands in the next history, and so in its rows.
use Rattle.std.proofs.Common.{◌≡◌, ℕ, ◌==◌, nat_lt, Bool, true, false, not, cond, List, [], ◌∷◌, length, Option, Some, None, refl, ap, sym, ◌∙◌, subst, if◌then◌else◌}
use Rattle.std.specs.Option.{option_map}
use Rattle.std.proofs.lemmas.Bool.{and_from, and_parts, eq-eqb, eqb-true}
use Rattle.std.proofs.lemmas.Slice.Eq.{bytes_eq-Decides}
use Rattle.sg_plan.specs.Ballots.{ballot_has, candidates_of, races_of_ballot}
use Rattle.sg_plan.specs.Fates.{has_mark}
use Rattle.sg_plan.specs.Limits.{fault_of, first_bad, first_of}
use Rattle.sg_plan.specs.declared.plan.Plan.{Plan}
use Rattle.sg_acts.specs.declared.asks.Act.{Act}
use Rattle.sg_acts.specs.declared.asks.Act.TheVariants as act
use Rattle.sg_acts.specs.declared.asks.Ask.{Ask}
use Rattle.sg_acts.specs.declared.asks.Ask.TheVariants as ask
use Rattle.sg_acts.specs.declared.asks.Stamp.{Stamp}
use Rattle.sg_acts.specs.declared.replies.Body.{Body}
use Rattle.sg_acts.specs.declared.replies.FateWord.{FateWord}
use Rattle.sg_acts.specs.declared.replies.Phase.{Phase}
use Rattle.sg_acts.specs.declared.replies.Reply.{Reply}
use Rattle.sg_acts.specs.declared.replies.Reply.TheVariants as reply
use Rattle.sg_keeper.specs.declared.setup.Setup.{Setup}
use Rattle.sg_desks.specs.ActTexts.{IsAct, act_text}
use Rattle.sg_desks.proofs.ActsRead.{texts_differ}
use Rattle.sg_histories.specs.Answers.{accepts, answer_of, body_of, early_refusal, entry_of, fits_races, is_ballot, is_cast_word, is_closed, is_done, is_drawn, is_unused, is_voting, knows_secret_of, next_history, refusal_of, repeat_of, same_act, unless}
use Rattle.sg_record.specs.Formed.{is_draw}
use Rattle.sg_histories.specs.Histories.{Entry, act_of_stamp, claims_of, fate_of, fate_word, is_stamped, phase_of, scanner_of}
use Rattle.sg_histories.specs.HistoryLaws.{ActsStay, DoneActsAreKept, DoneActsStand}
use Rattle.sg_histories.specs.KeptRows.{done_row, rows_of}
use Rattle.sg_histories.specs.Lawful.{Answered, Lawful, NoMemory, NotStored, Turn}
use Rattle.sg_histories.specs.Standing.{text_at}
use Rattle.sg_histories.proofs.Accepted.{next_early, passed}
use Rattle.sg_histories.proofs.Fitting.{fits_new}
use Rattle.sg_histories.proofs.OutDones.{same_done}
use Rattle.sg_histories.proofs.ReadingActs.{numbers_fit}
use Rattle.sg_histories.proofs.Stamps.{new_number, put_here, rows_tell}

-- REFUSALS ARE NOT DONE

-- no reply, or one that is not done
abbrev pub Refuses : Option Reply → Type 0
Refuses None = Unit {0}
Refuses (Some said) = is_done said ≡ false

unless_refuses : (test : Bool) (said : Reply) → is_done said ≡ false → Refuses (unless test said)
unless_refuses true said e = tt
unless_refuses false said e = e

first_refuses : (o : Option Reply) (os : List (Option Reply)) → Refuses o → Refuses (first_of os) → Refuses (first_of (o ∷ os))
first_refuses None os e rest = rest
first_refuses (Some said) os e rest = e

at_refuses : (form : ℕ → Reply) (o : Option ℕ) → ((n : ℕ) → is_done (form n) ≡ false) → Refuses (option_map form o)
at_refuses form None e = tt
at_refuses form (Some n) e = e n

early_refuses : (plan : Plan) (now : Phase) (told : FateWord) (ballot : ℕ) → Refuses (early_refusal plan now told ballot)
early_refuses plan now told ballot =
    first_refuses (unless (is_voting now) (reply.Phase now)) _ (unless_refuses (is_voting now) (reply.Phase now) refl)
    (first_refuses (unless (is_ballot plan ballot) reply.Ballot) _ (unless_refuses (is_ballot plan ballot) reply.Ballot refl)
    (first_refuses (unless (is_unused told) (reply.Fate told)) [] (unless_refuses (is_unused told) (reply.Fate told) refl) tt))

refusal_refuses : (setup : Setup) (history : List Entry) (station : ℕ) (asked : Act) → Refuses (refusal_of setup history station asked)
refusal_refuses setup history station (act.Scan ballot marks) =
    first_refuses (early_refusal setup.plan (phase_of history) (fate_word (fate_of history ballot)) ballot) _ (early_refuses setup.plan (phase_of history) (fate_word (fate_of history ballot)) ballot)
    (first_refuses (option_map reply.Race (first_bad (λ earlier mark. ballot_has setup.plan ballot mark.race) [] marks)) _ (at_refuses reply.Race (first_bad (λ earlier mark. ballot_has setup.plan ballot mark.race) [] marks) (λ n. refl))
    (first_refuses (option_map reply.Candidate (first_bad (λ earlier mark. nat_lt mark.candidate (candidates_of setup.plan mark.race)) [] marks)) _ (at_refuses reply.Candidate (first_bad (λ earlier mark. nat_lt mark.candidate (candidates_of setup.plan mark.race)) [] marks) (λ n. refl))
    (first_refuses (option_map reply.Twice (first_bad (λ earlier mark. not (has_mark earlier mark.race mark.candidate)) [] marks)) [] (at_refuses reply.Twice (first_bad (λ earlier mark. not (has_mark earlier mark.race mark.candidate)) [] marks) (λ n. refl)) tt)))
refusal_refuses setup history station (act.Spoil ballot) = early_refuses setup.plan (phase_of history) (fate_word (fate_of history ballot)) ballot
refusal_refuses setup history station (act.Audit ballot paper) =
    first_refuses (early_refusal setup.plan (phase_of history) (fate_word (fate_of history ballot)) ballot) _ (early_refuses setup.plan (phase_of history) (fate_word (fate_of history ballot)) ballot)
    (first_refuses (unless (fits_races setup.plan (races_of_ballot setup.plan ballot) paper) reply.Paper) [] (unless_refuses (fits_races setup.plan (races_of_ballot setup.plan ballot) paper) reply.Paper refl) tt)
refusal_refuses setup history station act.Close =
    first_refuses (unless (is_voting (phase_of history)) (reply.Phase (phase_of history))) [] (unless_refuses (is_voting (phase_of history)) (reply.Phase (phase_of history)) refl) tt
refusal_refuses setup history station (act.Draw drawn) =
    first_refuses (unless (is_closed (phase_of history)) (reply.Phase (phase_of history))) _ (unless_refuses (is_closed (phase_of history)) (reply.Phase (phase_of history)) refl)
    (first_refuses (unless (is_draw drawn) reply.Draw) [] (unless_refuses (is_draw drawn) reply.Draw refl) tt)
refusal_refuses setup history station (act.Claim ballot race code) =
    first_refuses (unless (is_drawn (phase_of history)) (reply.Phase (phase_of history))) _ (unless_refuses (is_drawn (phase_of history)) (reply.Phase (phase_of history)) refl)
    (first_refuses (unless (is_ballot setup.plan ballot) reply.Ballot) _ (unless_refuses (is_ballot setup.plan ballot) reply.Ballot refl)
    (first_refuses (unless (ballot_has setup.plan ballot race) (reply.Race 0)) _ (unless_refuses (ballot_has setup.plan ballot race) (reply.Race 0) refl)
    (first_refuses (unless (nat_lt (length (claims_of history)) 10000) reply.Full) [] (unless_refuses (nat_lt (length (claims_of history)) 10000) reply.Full refl) tt)))
refusal_refuses setup history station (act.Void ballot) =
    first_refuses (unless (is_voting (phase_of history)) (reply.Phase (phase_of history))) _ (unless_refuses (is_voting (phase_of history)) (reply.Phase (phase_of history)) refl)
    (first_refuses (unless (is_ballot setup.plan ballot) reply.Ballot) _ (unless_refuses (is_ballot setup.plan ballot) reply.Ballot refl)
    (first_refuses (unless (is_cast_word (fate_word (fate_of history ballot))) (reply.Fate (fate_word (fate_of history ballot)))) _ (unless_refuses (is_cast_word (fate_word (fate_of history ballot))) (reply.Fate (fate_word (fate_of history ballot))) refl)
    (first_refuses (unless (not (station == scanner_of history ballot)) (reply.Station (scanner_of history ballot))) [] (unless_refuses (not (station == scanner_of history ballot)) (reply.Station (scanner_of history ballot)) refl) tt)))

-- REPEATS

-- a repeat that is answered `Done` is of an act with the same text
repeat_stands : (setup : Setup) (history : List Entry) (stamp : Stamp) (asked : Act) (said : Body) → repeat_of setup history stamp asked ≡ Some (reply.Done said)
    → (done : Act) × (act_of_stamp history stamp.station stamp.number ≡ Some done) × (act_text setup.plan.version done ≡ act_text setup.plan.version asked)
repeat_stands setup [] stamp asked said e = cc
repeat_stands setup (entry ∷ history) stamp asked said e =
    by_test (is_stamped stamp.station stamp.number entry) (same_act setup entry.act asked) refl e (repeat_stands setup history stamp asked said)
  where
    Found : Option Act → Type 0
    Found o = (done : Act) × (o ≡ Some done) × (act_text setup.plan.version done ≡ act_text setup.plan.version asked)

    by_test : (t same : Bool) → same_act setup entry.act asked ≡ same
        → (if t then Some (if same then reply.Done (body_of setup history entry.act) else reply.Ref (act_text setup.plan.version entry.act)) else repeat_of setup history stamp asked) ≡ Some (reply.Done said)
        → (repeat_of setup history stamp asked ≡ Some (reply.Done said) → Found (act_of_stamp history stamp.station stamp.number))
        → Found (cond t (Some entry.act) (act_of_stamp history stamp.station stamp.number))
    by_test true true is k ih = (entry.act, refl, (bytes_eq-Decides (act_text setup.plan.version entry.act) (act_text setup.plan.version asked)).0 is)
    by_test true false is k ih = cc
    by_test false same is k ih = ih k

-- WHAT IS ANSWERED

-- an act that was answered `Done` was a repeat, or was accepted
pub data Did (setup : Setup) (history : List Entry) (stamp : Stamp) (asked : Act) (said : Body) : Type 0 where
  Repeated : repeat_of setup history stamp asked ≡ Some (reply.Done said) → next_history setup history (ask.Do stamp asked) ≡ history → Did setup history stamp asked said
  Accepted : repeat_of setup history stamp asked ≡ None → next_history setup history (ask.Do stamp asked) ≡ entry_of stamp asked ∷ history → Did setup history stamp asked said

did : (setup : Setup) (history : List Entry) (stamp : Stamp) (asked : Act) (said : Body) → answer_of setup history (ask.Do stamp asked) ≡ reply.Done said → Did setup history stamp asked said
unfolding answer_of next_history
did setup history stamp asked said e =
    by_parts (knows_secret_of setup.secrets stamp) (repeat_of setup history stamp asked) (refusal_of setup history stamp.station asked) refl refl refl (refusal_refuses setup history stamp.station asked)
  where
    by_parts : (secret : Bool) (again refusal : Option Reply) → knows_secret_of setup.secrets stamp ≡ secret → repeat_of setup history stamp asked ≡ again → refusal_of setup history stamp.station asked ≡ refusal
        → Refuses refusal → Did setup history stamp asked said
    by_parts false again refusal s r f not_done = absurd (clash (rw s at e))
      where
        clash : reply.Secret ≡ reply.Done said → ⊥
        clash k = cc
    by_parts true (Some first) refusal s r f not_done = Repeated (r ∙ ap (λ (x : Reply). Some x) (rw (s, r) at e)) (next_early setup history stamp asked ∙ (rw (s, r) refl))
    by_parts true None (Some refused) s r f not_done = absurd (clash refused (rw (s, r, f) at e) not_done)
      where
        clash : (x : Reply) → x ≡ reply.Done said → is_done x ≡ false → ⊥
        clash x k n = (let z : is_done x ≡ true = ap is_done k in cc)
    by_parts true None None s r f not_done = Accepted r (next_early setup history stamp asked ∙ (rw (s, r, f) refl))

-- THE LAWS

pub stamped_self : (stamp : Stamp) (asked : Act) → is_stamped stamp.station stamp.number (entry_of stamp asked) ≡ true
stamped_self stamp asked = and_from (stamp.station == stamp.station) (stamp.number == stamp.number) (eq-eqb stamp.station stamp.station refl) (eq-eqb stamp.number stamp.number refl)

-- the entry's act is found at its own number
pub found_self : (history : List Entry) (stamp : Stamp) (asked : Act) → act_of_stamp (entry_of stamp asked ∷ history) stamp.station stamp.number ≡ Some asked
found_self history stamp asked = ap (λ b. cond b (Some asked) (act_of_stamp history stamp.station stamp.number)) (stamped_self stamp asked)

-- an act of a lawful history is one of the version
stamped_is_act : (setup : Setup) (history : List Entry) (station number : ℕ) (done : Act) → fault_of setup.plan ≡ None → Lawful setup history → act_of_stamp history station number ≡ Some done → IsAct setup.plan.version done
stamped_is_act setup [] station number done kept lawful e = cc
stamped_is_act setup (entry ∷ history) station number done kept lawful e = by_test (is_stamped station number entry) e (stamped_is_act setup history station number done kept lawful.1)
  where
    is_act : IsAct setup.plan.version entry.act
    is_act =
        (let refusal = (passed setup history lawful.0.stamp entry.act lawful.0.accepted).refusal in
        record { numbers = numbers_fit setup.plan entry.act kept lawful.0.act_is.counted (fits_new setup history lawful.0.stamp.station entry.act lawful.0.act_is refusal); codes = lawful.0.act_is.codes })

    same : (a : Act) → Some a ≡ Some done → a ≡ done
    same a k = cc

    by_test : (t : Bool) → cond t (Some entry.act) (act_of_stamp history station number) ≡ Some done → (act_of_stamp history station number ≡ Some done → IsAct setup.plan.version done) → IsAct setup.plan.version done
    by_test true k ih = subst (λ (a : Act). IsAct setup.plan.version a) (same entry.act k) is_act
    by_test false k ih = ih k

stands_next : (setup : Setup) (history : List Entry) (stamp : Stamp) (asked : Act) (said : Body) → fault_of setup.plan ≡ None → Lawful setup history → IsAct setup.plan.version asked
    → Did setup history stamp asked said → act_of_stamp (next_history setup history (ask.Do stamp asked)) stamp.station stamp.number ≡ Some asked
stands_next setup history stamp asked said kept lawful is (Repeated again same) =
    let found = repeat_stands setup history stamp asked said again in
    let one : found.0 ≡ asked = texts_differ setup.plan.version found.0 asked (stamped_is_act setup history stamp.station stamp.number found.0 kept lawful found.1) is found.2 in
    subst (λ (next : List Entry). act_of_stamp next stamp.station stamp.number ≡ Some asked) (sym same) (found.1 ∙ ap (λ (a : Act). Some a) one)
stands_next setup history stamp asked said kept lawful is (Accepted new next) =
    subst (λ (next : List Entry). act_of_stamp next stamp.station stamp.number ≡ Some asked) (sym next) (found_self history stamp asked)

kept_next : (setup : Setup) (history : List Entry) (stamp : Stamp) (asked : Act) (said : Body) (text : List ℕ) → Lawful setup history → Did setup history stamp asked said
    → text_at stamp.station stamp.number (rows_of setup text (next_history setup history (ask.Do stamp asked))).dones ≡ Some (act_text setup.plan.version asked)
kept_next setup history stamp asked said text lawful (Repeated again same) =
    let found = repeat_stands setup history stamp asked said again in
    subst (λ (next : List Entry). text_at stamp.station stamp.number (rows_of setup text next).dones ≡ Some (act_text setup.plan.version asked)) (sym same)
    (rows_tell setup text history lawful stamp.station stamp.number
    ∙ (ap (λ (o : Option Act). option_map (act_text setup.plan.version) o) found.1 ∙ ap (λ (t : List ℕ). Some t) found.2))
kept_next setup history stamp asked said text lawful (Accepted new next) =
    let none : text_at stamp.station stamp.number (rows_of setup text history).dones ≡ None
    = rows_tell setup text history lawful stamp.station stamp.number ∙ ap (λ (o : Option Act). option_map (act_text setup.plan.version) o) (new_number setup history stamp asked new).1 in
    subst (λ (next : List Entry). text_at stamp.station stamp.number (rows_of setup text next).dones ≡ Some (act_text setup.plan.version asked)) (sym next)
    (put_here stamp.station stamp.number (done_row setup.plan.version (entry_of stamp asked)) (rows_of setup text history).dones
    (same_done setup.plan.version stamp.station stamp.number [] (entry_of stamp asked) ∙ stamped_self stamp asked) none)

-- a turn that is answered `Done` gave the answer of its history
answered_done : (setup : Setup) (history : List Entry) (asked : Ask) (said : Body) (next : List Entry) → Turn setup history asked (reply.Done said) next
    → (answer_of setup history asked ≡ reply.Done said) × (next ≡ next_history setup history asked)
answered_done setup history asked said next (Answered is after) = (sym is, after)
answered_done setup history asked said next (NoMemory is after) = cc
answered_done setup history asked said next (NotStored is after new) = cc

pub done_acts_stand : DoneActsStand
done_acts_stand setup history stamp asked said next kept lawful is turn =
    let done = answered_done setup history (ask.Do stamp asked) said next turn in
    subst (λ (h : List Entry). act_of_stamp h stamp.station stamp.number ≡ Some asked) (sym done.1)
    (stands_next setup history stamp asked said kept lawful is (did setup history stamp asked said done.0))

pub done_acts_are_kept : DoneActsAreKept
done_acts_are_kept setup history stamp asked said next text lawful turn =
    let done = answered_done setup history (ask.Do stamp asked) said next turn in
    subst (λ (h : List Entry). text_at stamp.station stamp.number (rows_of setup text h).dones ≡ Some (act_text setup.plan.version asked)) (sym done.1)
    (kept_next setup history stamp asked said text lawful (did setup history stamp asked said done.0))

-- ACTS STAY

-- an act stands in the next history where it stood
stays_next : (setup : Setup) (history : List Entry) (asked : Ask) (station number : ℕ) (done : Act) → act_of_stamp history station number ≡ Some done
    → act_of_stamp (next_history setup history asked) station number ≡ Some done
unfolding next_history
stays_next setup history (ask.See seen) station number done e = e
stays_next setup history (ask.Do stamp asked) station number done e = by_test (accepts setup history stamp asked) refl
  where
    clash : (o : Option Act) → o ≡ None → o ≡ Some done → ⊥
    clash o none some = cc

    by_stamp : (t : Bool) → is_stamped station number (entry_of stamp asked) ≡ t → accepts setup history stamp asked ≡ true → cond t (Some asked) (act_of_stamp history station number) ≡ Some done
    by_stamp true is k =
        (let parts = and_parts (stamp.station == station) (stamp.number == number) is in
        let new = (new_number setup history stamp asked (passed setup history stamp asked k).new).1 in
        let here : act_of_stamp history station number ≡ None
        = subst (λ (s : ℕ). act_of_stamp history s number ≡ None) (eqb-true stamp.station station parts.0)
        (subst (λ (n : ℕ). act_of_stamp history stamp.station n ≡ None) (eqb-true stamp.number number parts.1) new) in
        absurd (clash (act_of_stamp history station number) here e))
    by_stamp false is k = e

    by_test : (t : Bool) → accepts setup history stamp asked ≡ t → act_of_stamp (if t then entry_of stamp asked ∷ history else history) station number ≡ Some done
    by_test true k = by_stamp (is_stamped station number (entry_of stamp asked)) refl k
    by_test false k = e

pub acts_stay : ActsStay
acts_stay setup history asked answer next (Answered is after) station number done e =
    subst (λ (h : List Entry). act_of_stamp h station number ≡ Some done) (sym after) (stays_next setup history asked station number done e)
acts_stay setup history asked answer next (NoMemory is after) station number done e = subst (λ (h : List Entry). act_of_stamp h station number ≡ Some done) (sym after) e
acts_stay setup history asked answer next (NotStored is after new) station number done e = subst (λ (h : List Entry). act_of_stamp h station number ≡ Some done) (sym after) e
