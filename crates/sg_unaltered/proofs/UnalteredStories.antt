-- The story of an unaltered history is that of an unaltered run.
use Rattle.std.proofs.Common.{◌≡◌, ℕ, zero, suc, ◌+◌, ◌<◌, ◌≤◌, ◌==◌, nat_le, nat_lt, Bool, true, false, ◌&&◌, not, cond, List, [], ◌∷◌, map, filter, if◌then◌else◌, refl, ap, sym, ◌∙◌, arith, subst}
use Rattle.std.specs.List.{All, list_all, range_with_len}
use Rattle.std.proofs.lemmas.Bool.{and_parts, eqb-true, leb-true}
use Rattle.std.proofs.lemmas.Bool.Decides.{nat_tests}
use Rattle.std.proofs.lemmas.List.Elements.{All-cons, All-head, All-nil, All-tail}
use Rattle.sg_plan.specs.Ballots.{ballot_has, ballot_row, ballots_of}
use Rattle.sg_plan.specs.Codes.{codes_of}
use Rattle.sg_plan.specs.declared.plan.Draw.{Draw}
use Rattle.sg_plan.specs.declared.plan.Draw.TheVariants as draw
use Rattle.sg_plan.specs.declared.plan.Fate.{Fate}
use Rattle.sg_plan.specs.declared.plan.Fate.TheVariants as fate
use Rattle.sg_plan.specs.declared.plan.Plan.{Plan}
use Rattle.sg_plan.specs.declared.plan.Stage.{Stage}
use Rattle.sg_plan.specs.declared.plan.Stage.TheVariants as stage
use Rattle.sg_streams.specs.Numbers.{numbers_below}
use Rattle.sg_tables.specs.Posts.{right_word}
use Rattle.sg_forms.proofs.WordKinds.{bytes_in_list}
use Rattle.sg_acts.specs.declared.asks.Act.{Act}
use Rattle.sg_acts.specs.declared.asks.Act.TheVariants as act
use Rattle.sg_acts.specs.declared.replies.Phase.TheVariants as phase
use Rattle.sg_keeper.specs.declared.setup.Setup.{Setup}
use Rattle.sg_post.specs.declared.story.Told.{Told}
use Rattle.sg_accepted.specs.Unaltered.{IsDrawn, IsRightClaim, IsTrueFate}
use Rattle.sg_accepted.specs.Unaltered as accepted
use Rattle.sg_histories.specs.Answers.{is_ballot}
use Rattle.sg_histories.specs.Histories.{Entry, claims_of, fate_after, fate_of, phase_word, stage_of}
use Rattle.sg_histories.specs.Lawful.{IsCounted}
use Rattle.sg_histories.specs.Stories.{answered, is_unused_fate, told_fates, told_of}
use Rattle.sg_histories.specs.ValidRows.{fits}
use Rattle.sg_histories.specs.declared.kept.Claim.{Claim}
use Rattle.sg_histories.proofs.FittingStories.{stories_fit}
use Rattle.sg_histories.proofs.Out.{drawn_fits}
use Rattle.sg_histories.proofs.OutDones.{claims_fit}
use Rattle.sg_unaltered.specs.UnalteredHistories.{HasTruePaper, UnalteredHistoriesTellSo}

-- PAPERS

-- a true fate of a ballot stays true
true_moves : (setup : Setup) (b ballot : ℕ) (new before : Fate) → IsTrueFate setup.plan setup.seed.0 b new → IsTrueFate setup.plan setup.seed.0 ballot before
    → IsTrueFate setup.plan setup.seed.0 ballot (if b == ballot then new else before)
true_moves setup b ballot new before good old = by_test (b == ballot) refl
  where
    by_test : (t : Bool) → (b == ballot) ≡ t → IsTrueFate setup.plan setup.seed.0 ballot (if t then new else before)
    by_test true k = subst (λ (n : ℕ). IsTrueFate setup.plan setup.seed.0 n new) (eqb-true b ballot k) good
    by_test false k = old

true_after : (setup : Setup) (ballot : ℕ) (done : Act) (before : Fate) → HasTruePaper setup done → IsTrueFate setup.plan setup.seed.0 ballot before → IsTrueFate setup.plan setup.seed.0 ballot (fate_after ballot done before)
true_after setup ballot (act.Scan b marks) before is old = true_moves setup b ballot (fate.Cast marks) before tt old
true_after setup ballot (act.Spoil b) before is old = true_moves setup b ballot fate.Spoiled before tt old
true_after setup ballot (act.Audit b paper) before is old = true_moves setup b ballot (fate.Audited paper) before is old
true_after setup ballot (act.Void b) before is old = true_moves setup b ballot fate.Voided before tt old
true_after setup ballot act.Close before is old = old
true_after setup ballot (act.Draw drawn) before is old = old
true_after setup ballot (act.Claim b race code) before is old = old

true_fates : (setup : Setup) (history : List Entry) → All (λ (entry : Entry). HasTruePaper setup entry.act) history → (ballot : ℕ) → IsTrueFate setup.plan setup.seed.0 ballot (fate_of history ballot)
true_fates setup [] all ballot = tt
true_fates setup (entry ∷ history) all ballot =
    true_after setup ballot entry.act (fate_of history ballot) (All-head (λ (e : Entry). HasTruePaper setup e.act) entry history all)
    (true_fates setup history (All-tail (λ (e : Entry). HasTruePaper setup e.act) entry history all) ballot)

-- the fates told of the ballots behind the first ones
abbrev pub told_in : (ℕ → Fate) → ℕ → ℕ → List Told
told_in fates first count = filter (λ told. not (is_unused_fate told.fate)) (map (λ place. told_of fates (place + 1)) (range_with_len first count))

told_true : (plan : Plan) (seed : List ℕ) (fates : ℕ → Fate) → ((ballot : ℕ) → IsTrueFate plan seed ballot (fates ballot)) → (count first : ℕ) → All (λ (told : Told). IsTrueFate plan seed told.ballot told.fate) (told_in fates first count)
told_true plan seed fates good zero first = All-nil (λ (told : Told). IsTrueFate plan seed told.ballot told.fate)
told_true plan seed fates good (suc count) first = by_test (is_unused_fate (fates (first + 1))) (told_true plan seed fates good count (first + 1))
  where
    AreTrue : List Told → Type 0
    AreTrue list = All (λ (told : Told). IsTrueFate plan seed told.ballot told.fate) list

    by_test : (t : Bool) → AreTrue (told_in fates (first + 1) count) → AreTrue (if not t then told_of fates (first + 1) ∷ told_in fates (first + 1) count else told_in fates (first + 1) count)
    by_test true rest = rest
    by_test false rest = All-cons (λ (told : Told). IsTrueFate plan seed told.ballot told.fate) (told_of fates (first + 1)) (told_in fates (first + 1) count) (good (first + 1)) rest

-- WHAT IS TOLD OF A BALLOT

unused_is : (told : Fate) → is_unused_fate told ≡ true → told ≡ fate.Unused
unused_is fate.Unused e = refl
unused_is (fate.Cast marks) e = cc
unused_is fate.Spoiled e = cc
unused_is (fate.Audited paper) e = cc
unused_is fate.Voided e = cc

-- nothing is told of the first ones
told_before : (fates : ℕ → Fate) (count first ballot : ℕ) → ballot ≤ first → accepted.told_fate (told_in fates first count) ballot ≡ fate.Unused
told_before fates zero first ballot low = refl
told_before fates (suc count) first ballot low = by_test (is_unused_fate (fates (first + 1))) (told_before fates count (first + 1) ballot (omega (arith, low)))
  where
    apart : (first + 1 == ballot) ≡ false
    apart = grind (arith, nat_tests, low)

    by_test : (t : Bool) → accepted.told_fate (told_in fates (first + 1) count) ballot ≡ fate.Unused
        → accepted.told_fate (if not t then told_of fates (first + 1) ∷ told_in fates (first + 1) count else told_in fates (first + 1) count) ballot ≡ fate.Unused
    by_test true rest = rest
    by_test false rest = ap (λ b. cond b (fates (first + 1)) (accepted.told_fate (told_in fates (first + 1) count) ballot)) apart ∙ rest

-- each other ballot's fate is told
told_is : (fates : ℕ → Fate) (count first ballot : ℕ) → first < ballot → ballot ≤ first + count → accepted.told_fate (told_in fates first count) ballot ≡ fates ballot
told_is fates zero first ballot low high = absurd (omega (arith, low, high))
told_is fates (suc count) first ballot low high =
    by_ballot (first + 1 == ballot) refl (λ k. told_is fates count (first + 1) ballot (behind first ballot low k) (omega (arith, high)))
  where
    rest : List Told
    rest = told_in fates (first + 1) count

    behind : (a c : ℕ) → a < c → (a + 1 == c) ≡ false → a + 1 < c
    behind a c l e = grind (arith, nat_tests, l, e)

    is_here : (t : Bool) → (first + 1 == ballot) ≡ true → is_unused_fate (fates (first + 1)) ≡ t
        → accepted.told_fate (if not t then told_of fates (first + 1) ∷ rest else rest) ballot ≡ fates (first + 1)
    is_here true k u = told_before fates count (first + 1) ballot (let s = eqb-true (first + 1) ballot k in omega (arith, s)) ∙ sym (unused_is (fates (first + 1)) u)
    is_here false k u = ap (λ b. cond b (fates (first + 1)) (accepted.told_fate rest ballot)) k

    is_later : (t : Bool) → (first + 1 == ballot) ≡ false → accepted.told_fate rest ballot ≡ fates ballot
        → accepted.told_fate (if not t then told_of fates (first + 1) ∷ rest else rest) ballot ≡ fates ballot
    is_later true k ih = ih
    is_later false k ih = ap (λ b. cond b (fates (first + 1)) (accepted.told_fate rest ballot)) k ∙ ih

    by_ballot : (b : Bool) → (first + 1 == ballot) ≡ b → ((first + 1 == ballot) ≡ false → accepted.told_fate rest ballot ≡ fates ballot)
        → accepted.told_fate (told_in fates first (suc count)) ballot ≡ fates ballot
    by_ballot true k ih = is_here (is_unused_fate (fates (first + 1))) k refl ∙ ap fates (eqb-true (first + 1) ballot k)
    by_ballot false k ih = is_later (is_unused_fate (fates (first + 1))) k (ih k)

told_of_plan : (plan : Plan) (fates : ℕ → Fate) (ballot : ℕ) → is_ballot plan ballot ≡ true → accepted.told_fate (told_fates plan fates) ballot ≡ fates ballot
unfolding numbers_below
told_of_plan plan fates ballot known =
    let parts = and_parts (nat_le 1 ballot) (nat_le ballot (ballots_of plan)) known in
    let first : 1 ≤ ballot = leb-true 1 ballot parts.0 in
    let last : ballot ≤ ballots_of plan = leb-true ballot (ballots_of plan) parts.1 in
    told_is fates (ballots_of plan) 0 ballot first (omega (arith, last))

-- CLAIMS AND THE DRAW

right_claims : (plan : Plan) (seed : List ℕ) (fates : ℕ → Fate) (kept : List Claim) → list_all (λ claim. fits plan (act.Claim claim.ballot claim.race claim.code)) kept ≡ true
    → All (IsRightClaim plan seed (told_fates plan fates)) (map (answered plan seed fates) kept)
right_claims plan seed fates [] all = All-nil (IsRightClaim plan seed (told_fates plan fates))
right_claims plan seed fates (claim ∷ kept) all =
    let parts = and_parts (fits plan (act.Claim claim.ballot claim.race claim.code)) (list_all (λ k. fits plan (act.Claim k.ballot k.race k.code)) kept) all in
    let known = (and_parts (is_ballot plan claim.ballot) (ballot_has plan claim.ballot claim.race && nat_lt claim.code (codes_of plan.version)) parts.0).0 in
    let told : fates claim.ballot ≡ accepted.told_fate (told_fates plan fates) claim.ballot = sym (told_of_plan plan fates claim.ballot known) in
    All-cons (IsRightClaim plan seed (told_fates plan fates)) (answered plan seed fates claim) (map (answered plan seed fates) kept)
    (ap (λ (what : Fate). right_word plan seed claim.race (ballot_row plan claim.race claim.ballot) what claim.code) told)
    (right_claims plan seed fates kept parts.1)

is_drawn_stage : (setup : Setup) (now : Stage) → phase_word now ≡ phase.Drawn → ((drawn : Draw) → now ≡ stage.Drawn drawn → IsCounted (act.Draw drawn)) → IsDrawn now
is_drawn_stage setup stage.Voting e counted = cc
is_drawn_stage setup stage.Closed e counted = cc
is_drawn_stage setup (stage.Drawn draw.Full) e counted = tt
is_drawn_stage setup (stage.Drawn (draw.Public bytes)) e counted = bytes_in_list bytes (counted (draw.Public bytes) refl)

pub unaltered_tell_so : UnalteredHistoriesTellSo
unfolding numbers_below
unaltered_tell_so setup history is = record {
  fits = stories_fit setup history is.lawful;
  drawn = is_drawn_stage setup (stage_of history) is.drawn (λ drawn e. (drawn_fits setup history drawn is.lawful e).0.counted);
  papers = told_true setup.plan setup.seed.0 (fate_of history) (true_fates setup history is.papers) (ballots_of setup.plan) 0;
  words = right_claims setup.plan setup.seed.0 (fate_of history) (claims_of history) (claims_fit setup history is.lawful).fit;
}
