-- Ballots that are told, one after another, and the story that the office tells from what it keeps.
use Rattle.std.proofs.Common.{◌≡◌, ℕ, ◌+◌, ◌<◌, ◌≤◌, nat_lt, Bool, true, false, ◌&&◌, List, [], ◌∷◌, ◌++◌, All, map, refl, ap, sym, ◌∙◌, arith, subst}
use Rattle.std.specs.List.{filter, list_all}
use Rattle.std.proofs.lemmas.Bool.Decides.{nat_tests}
use Rattle.std.proofs.lemmas.List.{append-nil}
use Rattle.std.proofs.lemmas.List.Elements.{All-cons, All-head, All-nil, All-tail, filter-append}
use Rattle.sg_plan.specs.Ballots.{ballot_has, ballot_row, ballots_of}
use Rattle.sg_plan.proofs.PlanLaws.{ballot_has-true}
use Rattle.sg_plan.specs.declared.plan.Fate.{Fate}
use Rattle.sg_plan.specs.declared.plan.Plan.{Plan}
use Rattle.sg_plan.specs.declared.plan.Stage.{Stage}
use Rattle.sg_streams.specs.Numbers.{numbers_below}
use Rattle.sg_tables.specs.Posts.{right_word}
use Rattle.sg_tables.proofs.Lists.{map_below-none, map_below-push}
use Rattle.sg_acts.specs.declared.asks.Act.TheVariants as act
use Rattle.sg_keeper.specs.declared.setup.Setup.{Setup}
use Rattle.sg_post.proofs.Stories.{story-parts}
use Rattle.sg_post.specs.Fits.{fates_fit, story_fits}
use Rattle.sg_post.specs.declared.story.Claimed.{Claimed}
use Rattle.sg_post.specs.declared.story.Story.{Story}
use Rattle.sg_post.specs.declared.story.Told.{Told}
use Rattle.sg_histories.specs.declared.kept.Claim.{Claim}
use Rattle.sg_histories.specs.declared.kept.Kept.{Kept}
use Rattle.sg_histories.specs.Answers.{is_ballot}
use Rattle.sg_histories.specs.Histories.{Entry, claims_of, fate_of, stage_of}
use Rattle.sg_histories.specs.Lawful.{Lawful}
use Rattle.sg_histories.specs.Standing.{IsOffice, StandsFor}
use Rattle.sg_histories.specs.Stories.{answered, story_of, told_fates}
use Rattle.sg_office.specs.inside.Now.{fate_at, story_now}
use Rattle.sg_histories.specs.ValidRows.{fits}
use Rattle.sg_histories.proofs.OutDones.{claims_fit}
use Rattle.std.proofs.lemmas.Bool.{and_parts}
use Rattle.sg_plan.specs.Codes.{codes_of}
use Rattle.sg_office.proofs.NowTold.{fate_told, fates_same}

-- TURNS

pub told-none : {X : Type 0} (p : X → Bool) (f : ℕ → X) → filter p (map f (numbers_below 0)) ≡ []
told-none p f = ap (filter p) (map_below-none f)

-- the next number's item is kept
pub told-more : {X : Type 0} (p : X → Bool) (f : ℕ → X) (n : ℕ) (list longer : List X) (item : X) → p (f n) ≡ true
    → list ≡ filter p (map f (numbers_below n)) → item ≡ f n → longer ≡ list ++ item ∷ [] → longer ≡ filter p (map f (numbers_below (n + 1)))
told-more {X} p f n list longer item passes so_far is added =
    added
    ∙ ap (λ l. l ++ item ∷ []) so_far
    ∙ ap (λ x. filter p (map f (numbers_below n)) ++ x ∷ []) is
    ∙ sym (ap (filter p) (map_below-push f n) ∙ filter-append p (map f (numbers_below n)) (f n ∷ []) ∙ ap (λ l. filter p (map f (numbers_below n)) ++ l) one)
  where
    one : filter p (f n ∷ []) ≡ f n ∷ []
    one = rw passes refl

-- the next number's item is not kept
pub told-same : {X : Type 0} (p : X → Bool) (f : ℕ → X) (n : ℕ) (list : List X) → p (f n) ≡ false
    → list ≡ filter p (map f (numbers_below n)) → list ≡ filter p (map f (numbers_below (n + 1)))
told-same {X} p f n list fails so_far =
    so_far
    ∙ sym (ap (filter p) (map_below-push f n) ∙ filter-append p (map f (numbers_below n)) (f n ∷ []) ∙ ap (λ l. filter p (map f (numbers_below n)) ++ l) none
    ∙ append-nil (filter p (map f (numbers_below n))))
  where
    none : filter p (f n ∷ []) ≡ []
    none = rw fails refl

-- CLAIMS

-- the claim is of a race of a ballot of the plan
abbrev pub HasRace : Plan → Claim → Type 0
HasRace plan claim = ballot_has plan claim.ballot claim.race ≡ true

have_races : (plan : Plan) (list : List Claim) → list_all (λ claim. fits plan (act.Claim claim.ballot claim.race claim.code)) list ≡ true → All (HasRace plan) list
have_races plan [] all = All-nil (HasRace plan)
have_races plan (claim ∷ list) all =
    let parts = and_parts (fits plan (act.Claim claim.ballot claim.race claim.code)) (list_all (λ (c : Claim). fits plan (act.Claim c.ballot c.race c.code)) list) all in
    let fit = and_parts (is_ballot plan claim.ballot) (ballot_has plan claim.ballot claim.race && nat_lt claim.code (codes_of plan.version)) parts.0 in
    let has = and_parts (ballot_has plan claim.ballot claim.race) (nat_lt claim.code (codes_of plan.version)) fit.1 in
    All-cons (HasRace plan) claim list has.0 (have_races plan list parts.1)

pub claims_have : (setup : Setup) (history : List Entry) → Lawful setup history → All (HasRace setup.plan) (claims_of history)
claims_have setup history lawful = have_races setup.plan (claims_of history) (claims_fit setup history lawful).fit

pub office_claims_have : (kept : Kept) → IsOffice kept → All (HasRace kept.setup.plan) kept.claims
office_claims_have kept office = subst (λ (l : List Claim). All (HasRace kept.setup.plan) l) (sym office.stands.claims) (claims_have kept.setup office.history office.stands.lawful)

-- THE STORY

in_plan : (plan : Plan) (ballot race : ℕ) → ballot_has plan ballot race ≡ true → is_ballot plan ballot ≡ true
in_plan plan ballot race e =
    let has = ballot_has-true plan ballot race e in
    let first = has.first in
    let last = has.last in
    grind (arith, nat_tests, first, last)

answers_same : (plan : Plan) (seed : List ℕ) (f g : ℕ → Fate) (list : List Claim) → All (HasRace plan) list → ((ballot : ℕ) → is_ballot plan ballot ≡ true → f ballot ≡ g ballot)
    → map (answered plan seed f) list ≡ map (answered plan seed g) list
answers_same plan seed f g [] have same = refl
answers_same plan seed f g (claim ∷ list) have same =
    let here : HasRace plan claim = All-head (HasRace plan) claim list have in
    let told : f claim.ballot ≡ g claim.ballot = same claim.ballot (in_plan plan claim.ballot claim.race here) in
    ap (λ what. answer_with what ∷ map (answered plan seed f) list) told
    ∙ ap (λ l. answered plan seed g claim ∷ l) (answers_same plan seed f g list (All-tail (HasRace plan) claim list have) same)
  where
    answer_with : Fate → Claimed
    answer_with what = record {
      ballot = claim.ballot;
      race = claim.race;
      code = claim.code;
      word = right_word plan seed claim.race (ballot_row plan claim.race claim.ballot) what claim.code;
    }

-- what the office tells is the story of its history
pub story_told : (kept : Kept) (history : List Entry) → StandsFor kept history → story_now kept ≡ story_of kept.setup history
story_told kept history stands =
    ap (λ fates. with_all fates kept.stage (map (answered kept.setup.plan kept.setup.seed.0 (fate_at kept.slots)) kept.claims)) (fates_same kept.setup.plan (fate_at kept.slots) (fate_of history) by_place)
    ∙ ap (λ stage. with_all (told_fates kept.setup.plan (fate_of history)) stage (map (answered kept.setup.plan kept.setup.seed.0 (fate_at kept.slots)) kept.claims)) stands.stage
    ∙ ap (λ list. with_all (told_fates kept.setup.plan (fate_of history)) (stage_of history) (map (answered kept.setup.plan kept.setup.seed.0 (fate_at kept.slots)) list)) stands.claims
    ∙ ap (λ answers. with_all (told_fates kept.setup.plan (fate_of history)) (stage_of history) answers)
    (answers_same kept.setup.plan kept.setup.seed.0 (fate_at kept.slots) (fate_of history) (claims_of history) (claims_have kept.setup history stands.lawful) same)
  where
    same : (ballot : ℕ) → is_ballot kept.setup.plan ballot ≡ true → fate_at kept.slots ballot ≡ fate_of history ballot
    same ballot is = fate_told kept history ballot stands is

    by_place : (place : ℕ) → place < ballots_of kept.setup.plan → fate_at kept.slots (place + 1) ≡ fate_of history (place + 1)
    by_place place below =
        let last : place + 1 ≤ ballots_of kept.setup.plan = omega (arith, below) in
        let first : 1 ≤ place + 1 = omega arith in
        same (place + 1) (grind (arith, nat_tests, first, last))

    with_all : List Told → Stage → List Claimed → Story
    with_all fates stage answers = record { fates = fates; stage = stage; claims = answers }

-- and its fates fit the plan, as those of the story do
pub fates_fit_now : (kept : Kept) (history : List Entry) → StandsFor kept history → story_fits kept.setup.plan (story_of kept.setup history) ≡ true
    → fates_fit kept.setup.plan 0 (told_fates kept.setup.plan (fate_at kept.slots)) ≡ true
fates_fit_now kept history stands fit =
    subst (λ (s : Story). fates_fit kept.setup.plan 0 s.fates ≡ true) (sym (story_told kept history stands)) (story-parts kept.setup.plan (story_of kept.setup history) fit).fates
