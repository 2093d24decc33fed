-- The answers of the orders before the keeper are never that it failed or that memory was wanting.
use Rattle.std.proofs.Common.{◌≡◌, ℕ, ◌==◌, nat_lt, Bool, true, false, not, cond, List, [], ◌∷◌, length, Option, Some, None, refl, ap, sym, ◌∙◌}
use Rattle.std.specs.Option.{option_map}
use Rattle.sg_plan.specs.Ballots.{ballot_has, candidates_of}
use Rattle.sg_plan.specs.Fates.{has_mark}
use Rattle.sg_plan.specs.Limits.{first_bad, first_of}
use Rattle.sg_plan.specs.declared.plan.Plan.{Plan}
use Rattle.sg_desks.specs.ActTexts.{act_text}
use Rattle.sg_plan.specs.Ballots.{races_of_ballot}
use Rattle.sg_acts.specs.declared.asks.Act.{Act}
use Rattle.sg_acts.specs.declared.asks.Act.TheVariants as act
use Rattle.sg_acts.specs.declared.asks.Stamp.{Stamp}
use Rattle.sg_acts.specs.declared.replies.FateWord.{FateWord}
use Rattle.sg_acts.specs.declared.replies.Phase.{Phase}
use Rattle.sg_acts.specs.declared.replies.Reply.{Reply}
use Rattle.sg_acts.specs.declared.replies.Reply.TheVariants as reply
use Rattle.sg_keeper.specs.declared.setup.Setup.{Setup}
use Rattle.sg_histories.specs.Answers.{body_of, early_refusal, early_reply, fits_races, is_ballot, is_cast_word, is_closed, is_drawn, is_unused, is_voting, knows_secret_of, refusal_of, repeat_of, same_act, unless}
use Rattle.sg_record.specs.Formed.{is_draw}
use Rattle.sg_histories.specs.Histories.{Entry, claims_of, fate_of, fate_word, is_stamped, phase_of, scanner_of}

-- one of the replies of the orders before the keeper
abbrev pub is_early : Reply → Bool
is_early reply.Store = false
is_early reply.Memory = false
is_early other = true

abbrev pub is_clean : Option Reply → Bool
is_clean None = true
is_clean (Some r) = is_early r

clean_first : (o : Option Reply) (os : List (Option Reply)) → is_clean o ≡ true → is_clean (first_of os) ≡ true → is_clean (first_of (o ∷ os)) ≡ true
clean_first None os c cs = cs
clean_first (Some r) os c cs = c

clean_unless : (b : Bool) (r : Reply) → is_early r ≡ true → is_clean (unless b r) ≡ true
clean_unless true r e = refl
clean_unless false r e = e

clean_map : (f : ℕ → Reply) → ((n : ℕ) → is_early (f n) ≡ true) → (o : Option ℕ) → is_clean (option_map f o) ≡ true
clean_map f e None = refl
clean_map f e (Some n) = e n

clean_early : (plan : Plan) (now : Phase) (told : FateWord) (ballot : ℕ) → is_clean (early_refusal plan now told ballot) ≡ true
clean_early plan now told ballot =
    clean_first (unless (is_voting now) (reply.Phase now)) _ (clean_unless (is_voting now) (reply.Phase now) refl)
    (clean_first (unless (is_ballot plan ballot) reply.Ballot) _ (clean_unless (is_ballot plan ballot) reply.Ballot refl)
    (clean_first (unless (is_unused told) (reply.Fate told)) [] (clean_unless (is_unused told) (reply.Fate told) refl) refl))

clean_refusal : (setup : Setup) (history : List Entry) (station : ℕ) (done : Act) → is_clean (refusal_of setup history station done) ≡ true
clean_refusal setup history station (act.Scan ballot marks) =
    clean_first (early_refusal setup.plan (phase_of history) (fate_word (fate_of history ballot)) ballot) _ (clean_early setup.plan (phase_of history) (fate_word (fate_of history ballot)) ballot)
    (clean_first (option_map reply.Race (first_bad (λ earlier mark. ballot_has setup.plan ballot mark.race) [] marks)) _ (clean_map reply.Race (λ n. refl) _)
    (clean_first (option_map reply.Candidate (first_bad (λ earlier mark. nat_lt mark.candidate (candidates_of setup.plan mark.race)) [] marks)) _ (clean_map reply.Candidate (λ n. refl) _)
    (clean_first (option_map reply.Twice (first_bad (λ earlier mark. not (has_mark earlier mark.race mark.candidate)) [] marks)) [] (clean_map reply.Twice (λ n. refl) _) refl)))
clean_refusal setup history station (act.Spoil ballot) = clean_early setup.plan (phase_of history) (fate_word (fate_of history ballot)) ballot
clean_refusal setup history station (act.Audit ballot paper) =
    clean_first (early_refusal setup.plan (phase_of history) (fate_word (fate_of history ballot)) ballot) _ (clean_early setup.plan (phase_of history) (fate_word (fate_of history ballot)) ballot)
    (clean_first (unless (fits_races setup.plan (races_of_ballot setup.plan ballot) paper) reply.Paper) [] (clean_unless _ reply.Paper refl) refl)
clean_refusal setup history station act.Close = clean_first (unless (is_voting (phase_of history)) (reply.Phase (phase_of history))) [] (clean_unless _ (reply.Phase (phase_of history)) refl) refl
clean_refusal setup history station (act.Draw drawn) =
    clean_first (unless (is_closed (phase_of history)) (reply.Phase (phase_of history))) _ (clean_unless _ (reply.Phase (phase_of history)) refl)
    (clean_first (unless (is_draw drawn) reply.Draw) [] (clean_unless _ reply.Draw refl) refl)
clean_refusal setup history station (act.Claim ballot race code) =
    clean_first (unless (is_drawn (phase_of history)) (reply.Phase (phase_of history))) _ (clean_unless _ (reply.Phase (phase_of history)) refl)
    (clean_first (unless (is_ballot setup.plan ballot) reply.Ballot) _ (clean_unless _ reply.Ballot refl)
    (clean_first (unless (ballot_has setup.plan ballot race) (reply.Race 0)) _ (clean_unless _ (reply.Race 0) refl)
    (clean_first (unless (nat_lt (length (claims_of history)) 10000) reply.Full) [] (clean_unless _ reply.Full refl) refl)))
clean_refusal setup history station (act.Void ballot) =
    clean_first (unless (is_voting (phase_of history)) (reply.Phase (phase_of history))) _ (clean_unless _ (reply.Phase (phase_of history)) refl)
    (clean_first (unless (is_ballot setup.plan ballot) reply.Ballot) _ (clean_unless _ reply.Ballot refl)
    (clean_first (unless (is_cast_word (fate_word (fate_of history ballot))) (reply.Fate (fate_word (fate_of history ballot)))) _ (clean_unless _ (reply.Fate (fate_word (fate_of history ballot))) refl)
    (clean_first (unless (not (station == scanner_of history ballot)) (reply.Station (scanner_of history ballot))) [] (clean_unless _ (reply.Station (scanner_of history ballot)) refl) refl)))

clean_repeat : (setup : Setup) (history : List Entry) (stamp : Stamp) (done : Act) → is_clean (repeat_of setup history stamp done) ≡ true
clean_repeat setup [] stamp done = refl
clean_repeat setup (entry ∷ history) stamp done = by_test (is_stamped stamp.station stamp.number entry) (same_act setup entry.act done) (clean_repeat setup history stamp done)
  where
    by_test : (b s : Bool) → is_clean (repeat_of setup history stamp done) ≡ true
        → is_clean (cond b (Some (cond s (reply.Done (body_of setup history entry.act)) (reply.Ref (act_text setup.plan.version entry.act)))) (repeat_of setup history stamp done)) ≡ true
    by_test true true ih = refl
    by_test true false ih = refl
    by_test false s ih = ih

pub clean_reply : (setup : Setup) (history : List Entry) (stamp : Stamp) (done : Act) → is_clean (early_reply setup history stamp done) ≡ true
clean_reply setup history stamp done =
    clean_first (unless (knows_secret_of setup.secrets stamp) reply.Secret) _ (clean_unless _ reply.Secret refl)
    (clean_first (repeat_of setup history stamp done) _ (clean_repeat setup history stamp done)
    (clean_first (refusal_of setup history stamp.station done) [] (clean_refusal setup history stamp.station done) refl))

pub no_store : (answer : Reply) (o : Option Reply) → is_clean o ≡ true → Some answer ≡ o → answer ≡ reply.Store → ⊥
no_store answer None c e s = cc
no_store answer (Some r) c e s =
    let is : r ≡ reply.Store = (cc) in
    let t : false ≡ true = sym (ap is_early is) ∙ c in
    (cc)
