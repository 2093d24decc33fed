-- What the office tells from what it keeps is what its history tells.
use Rattle.std.proofs.Common.{◌≡◌, ℕ, zero, suc, ◌+◌, ◌-◌, ◌<◌, ◌≤◌, ◌==◌, nat_lt, Bool, true, false, not, cond, List, [], ◌∷◌, map, Some, refl, ap, ◌∙◌, arith}
use Rattle.std.specs.List.{filter, range_with_len}
use Rattle.std.specs.Option.{option_map, option_map_or}
use Rattle.std.proofs.lemmas.Bool.Decides.{nat_tests}
use Rattle.sg_plan.specs.Ballots.{ballot_has, ballot_row, ballots_of, candidates_of, races_of_ballot}
use Rattle.sg_plan.specs.Fates.{has_mark}
use Rattle.sg_plan.specs.Limits.{first_bad, first_of}
use Rattle.sg_plan.specs.declared.plan.Fate.{Fate}
use Rattle.sg_plan.specs.declared.plan.Fate.TheVariants as fate
use Rattle.sg_plan.specs.declared.plan.Plan.{Plan}
use Rattle.sg_streams.specs.Numbers.{numbers_below}
use Rattle.sg_tables.specs.Posts.{right_word}
use Rattle.sg_acts.specs.declared.asks.Act.{Act}
use Rattle.sg_acts.specs.declared.asks.Act.TheVariants as act
use Rattle.sg_acts.specs.declared.asks.Look.{Look}
use Rattle.sg_acts.specs.declared.asks.Look.TheVariants as look
use Rattle.sg_acts.specs.declared.replies.Body.TheVariants as body
use Rattle.sg_acts.specs.declared.replies.FateWord.{FateWord}
use Rattle.sg_acts.specs.declared.replies.FateWord.TheVariants as word_of
use Rattle.sg_acts.specs.declared.replies.Phase.{Phase}
use Rattle.sg_acts.specs.declared.replies.Reply.TheVariants as reply
use Rattle.sg_keeper.specs.declared.setup.Setup.{Setup}
use Rattle.sg_histories.specs.declared.kept.Slot.{Slot}
use Rattle.sg_histories.specs.Answers.{body_of, body_with, close_refusal, draw_refusal, early_refusal, fits_races, is_ballot, is_cast_word, is_unused, is_voting, look_reply, receipt_of, refusal_of, unless, void_refusal}
use Rattle.sg_histories.specs.Stories.{is_unused_fate, told_fates, told_of}
use Rattle.sg_post.specs.Marks.{total_of}
use Rattle.sg_post.specs.Posted.{by_candidate}
use Rattle.sg_post.specs.declared.story.Told.{Told}
use Rattle.sg_histories.specs.Histories.{Entry, fate_of, fate_word, phase_of, phase_word, scanner_of}
use Rattle.sg_office.specs.inside.Now.{FitsBody, fate_at, refusal_now, scanner_at, slot_at, word_at}
use Rattle.sg_histories.specs.declared.kept.Kept.{Kept}
use Rattle.sg_histories.specs.Standing.{StandsFor, TellSlots, slot_of}

-- the slot of a ballot of the plan
pub slot_told : (setup : Setup) (slots : List Slot) (history : List Entry) (ballot : ℕ) → TellSlots setup slots history → is_ballot setup.plan ballot ≡ true
    → slot_at slots ballot ≡ Some (slot_of history ballot)
slot_told setup slots history ballot told is =
    let first : 1 ≤ ballot = grind (arith, nat_tests, is) in
    let last : ballot ≤ ballots_of setup.plan = grind (arith, nat_tests, is) in
    let some : (ballot == 0) ≡ false = grind (arith, nat_tests, first) in
    let back : ballot - 1 + 1 ≡ ballot = omega (arith, first) in
    rw some (told (ballot - 1) (omega (arith, first, last)) ∙ ap (λ b. Some (slot_of history b)) back)

-- refusals look at the fate of ballots of the plan alone
early_same : (plan : Plan) (now : Phase) (a b : FateWord) (ballot : ℕ) (t : Bool) → (is_ballot plan ballot) ≡ t → (t ≡ true → a ≡ b) → early_refusal plan now a ballot ≡ early_refusal plan now b ballot
early_same plan now a b ballot true e same = ap (λ w. early_refusal plan now w ballot) (same refl)
early_same plan now a b ballot false e same = rw (e) (by_vote (is_voting now))
  where
    by_vote : (v : Bool) → first_of (unless v (reply.Phase now) ∷ Some reply.Ballot ∷ unless (is_unused a) (reply.Fate a) ∷ []) ≡ first_of (unless v (reply.Phase now) ∷ Some reply.Ballot ∷ unless (is_unused b) (reply.Fate b) ∷ [])
    by_vote true = refl
    by_vote false = refl

void_same : (plan : Plan) (now : Phase) (a b : FateWord) (s s' station ballot : ℕ) (t : Bool) → (is_ballot plan ballot) ≡ t → (t ≡ true → (a ≡ b) × (s ≡ s'))
    → void_refusal plan now a s station ballot ≡ void_refusal plan now b s' station ballot
void_same plan now a b s s' station ballot true e same = rw ((same refl).0, (same refl).1) refl
void_same plan now a b s s' station ballot false e same = rw (e) (by_vote (is_voting now))
  where
    by_vote : (v : Bool) → first_of (unless v (reply.Phase now) ∷ Some reply.Ballot ∷ unless (is_cast_word a) (reply.Fate a) ∷ unless (not (station == s)) (reply.Station s) ∷ [])
        ≡ first_of (unless v (reply.Phase now) ∷ Some reply.Ballot ∷ unless (is_cast_word b) (reply.Fate b) ∷ unless (not (station == s')) (reply.Station s') ∷ [])
    by_vote true = refl
    by_vote false = refl

-- the refusal from what is kept is that of the history
pub refusal_told : (kept : Kept) (history : List Entry) (station : ℕ) (done : Act) → StandsFor kept history → refusal_now kept station done ≡ refusal_of kept.setup history station done
refusal_told kept history station done stands = by_act done
  where
    now : phase_word kept.stage ≡ phase_of history
    now = ap phase_word stands.stage

    word : (ballot : ℕ) → is_ballot kept.setup.plan ballot ≡ true → word_at kept.slots ballot ≡ fate_word (fate_of history ballot)
    word ballot is = ap (λ o. option_map_or (λ (s : Slot). fate_word s.fate) o word_of.Unused) (slot_told kept.setup kept.slots history ballot stands.slots is)

    scanner : (ballot : ℕ) → is_ballot kept.setup.plan ballot ≡ true → scanner_at kept.slots ballot ≡ scanner_of history ballot
    scanner ballot is = ap (λ o. option_map_or (λ (s : Slot). s.station) o 0) (slot_told kept.setup kept.slots history ballot stands.slots is)

    early_told : (ballot : ℕ) → early_refusal kept.setup.plan (phase_word kept.stage) (word_at kept.slots ballot) ballot ≡ early_refusal kept.setup.plan (phase_of history) (fate_word (fate_of history ballot)) ballot
    early_told ballot = rw now (early_same kept.setup.plan (phase_of history) (word_at kept.slots ballot) (fate_word (fate_of history ballot)) ballot (is_ballot kept.setup.plan ballot) refl (word ballot))

    by_act : (a : Act) → refusal_now kept station a ≡ refusal_of kept.setup history station a
    by_act (act.Scan ballot marks) = ap (λ o. first_of (o
        ∷ option_map reply.Race (first_bad (λ earlier mark. ballot_has kept.setup.plan ballot mark.race) [] marks)
        ∷ option_map reply.Candidate (first_bad (λ earlier mark. nat_lt mark.candidate (candidates_of kept.setup.plan mark.race)) [] marks)
        ∷ option_map reply.Twice (first_bad (λ earlier mark. not (has_mark earlier mark.race mark.candidate)) [] marks)
        ∷ [])) (early_told ballot)
    by_act (act.Spoil ballot) = early_told ballot
    by_act (act.Audit ballot paper) = ap (λ o. first_of (o ∷ unless (fits_races kept.setup.plan (races_of_ballot kept.setup.plan ballot) paper) reply.Paper ∷ [])) (early_told ballot)
    by_act act.Close = ap close_refusal now
    by_act (act.Draw drawn) = ap (λ n. draw_refusal n drawn) now
    by_act (act.Claim ballot race code) = rw (now, stands.claims) refl
    by_act (act.Void ballot) = rw now (void_same kept.setup.plan (phase_of history) (word_at kept.slots ballot) (fate_word (fate_of history ballot)) (scanner_at kept.slots ballot) (scanner_of history ballot) station ballot (is_ballot kept.setup.plan ballot) refl (λ is. (word ballot is, scanner ballot is)))

-- FATES

pub fate_told : (kept : Kept) (history : List Entry) (ballot : ℕ) → StandsFor kept history → is_ballot kept.setup.plan ballot ≡ true → fate_at kept.slots ballot ≡ fate_of history ballot
fate_told kept history ballot stands is = ap (λ o. option_map_or (λ (s : Slot). s.fate) o fate.Unused) (slot_told kept.setup kept.slots history ballot stands.slots is)

pub scanner_told : (kept : Kept) (history : List Entry) (ballot : ℕ) → StandsFor kept history → is_ballot kept.setup.plan ballot ≡ true → scanner_at kept.slots ballot ≡ scanner_of history ballot
scanner_told kept history ballot stands is = ap (λ o. option_map_or (λ (s : Slot). s.station) o 0) (slot_told kept.setup kept.slots history ballot stands.slots is)

-- the body from what is kept is that of the history
pub body_told : (kept : Kept) (history : List Entry) (done : Act) → StandsFor kept history → FitsBody kept.setup.plan done → body_with kept.setup (fate_at kept.slots) done ≡ body_of kept.setup history done
body_told kept history (act.Scan ballot marks) stands fits = refl
body_told kept history (act.Spoil ballot) stands fits = refl
body_told kept history (act.Audit ballot paper) stands fits = refl
body_told kept history act.Close stands fits = refl
body_told kept history (act.Draw drawn) stands fits = refl
body_told kept history (act.Claim ballot race code) stands fits = ap (λ f. body.Claimed (right_word kept.setup.plan kept.setup.seed.0 race (ballot_row kept.setup.plan race ballot) f code)) (fate_told kept history ballot stands fits.0)
body_told kept history (act.Void ballot) stands fits = refl

-- LOOKS

map_same : {A : Type 0} (f g : ℕ → A) (first count : ℕ) → ((x : ℕ) → first ≤ x → x < first + count → f x ≡ g x) → map f (range_with_len first count) ≡ map g (range_with_len first count)
map_same f g first zero same = refl
map_same f g first (suc count) same =
    let here : f first ≡ g first = same first (omega arith) (omega arith) in
    rw (here) (ap (λ l. g first ∷ l) (map_same f g (first + 1) count (λ x a b. same x (omega (arith, a)) (omega (arith, b)))))

-- what is told looks at the fates of ballots of the plan alone
pub fates_same : (plan : Plan) (f g : ℕ → Fate) → ((place : ℕ) → place < ballots_of plan → f (place + 1) ≡ g (place + 1)) → told_fates plan f ≡ told_fates plan g
unfolding numbers_below
fates_same plan f g same =
    ap (λ l. filter (λ told. not (is_unused_fate told.fate)) l)
    (map_same (λ place. told_of f (place + 1)) (λ place. told_of g (place + 1)) 0 (ballots_of plan)
    (λ place a b. ap (λ what. told_with place what) (same place (omega (arith, b)))))
  where
    told_with : ℕ → Fate → Told
    told_with place what = record { ballot = place + 1; fate = what }

-- the reply to a look from what is kept is that of the history
pub look_told : (kept : Kept) (history : List Entry) (seen : Look) → StandsFor kept history
    → look_reply kept.setup (phase_word kept.stage) (fate_at kept.slots) seen ≡ look_reply kept.setup (phase_of history) (fate_of history) seen
look_told kept history seen stands = rw (ap phase_word stands.stage) (by_look seen)
  where
    fates : (place : ℕ) → place < ballots_of kept.setup.plan → fate_at kept.slots (place + 1) ≡ fate_of history (place + 1)
    fates place below =
        let last : place + 1 ≤ ballots_of kept.setup.plan = omega (arith, below) in
        let first : 1 ≤ place + 1 = omega arith in
        let is : is_ballot kept.setup.plan (place + 1) ≡ true = grind (arith, nat_tests, first, last) in
        fate_told kept history (place + 1) stands is

    by_ballot : (ballot : ℕ) (b : Bool) → is_ballot kept.setup.plan ballot ≡ b
        → cond b (reply.Done (body.Receipt (receipt_of kept.setup.plan kept.setup.seed.0 ballot (fate_at kept.slots ballot)))) reply.Ballot
        ≡ cond b (reply.Done (body.Receipt (receipt_of kept.setup.plan kept.setup.seed.0 ballot (fate_of history ballot)))) reply.Ballot
    by_ballot ballot true e = ap (λ told. reply.Done (body.Receipt (receipt_of kept.setup.plan kept.setup.seed.0 ballot told))) (fate_told kept history ballot stands e)
    by_ballot ballot false e = refl

    by_look : (l : Look) → look_reply kept.setup (phase_of history) (fate_at kept.slots) l ≡ look_reply kept.setup (phase_of history) (fate_of history) l
    by_look (look.Receipt ballot) = ap (λ r. cond (is_voting (phase_of history)) (reply.Phase (phase_of history)) r) (by_ballot ballot (is_ballot kept.setup.plan ballot) refl)
    by_look look.Totals = ap (λ t. cond (is_voting (phase_of history)) (reply.Phase (phase_of history)) (reply.Done (body.Totals t))) (ap (λ told. by_candidate kept.setup.plan (total_of kept.setup.plan kept.setup.seed.0 told)) (fates_same kept.setup.plan (fate_at kept.slots) (fate_of history) fates))
