-- Fates and claims that fit, one by one.
use Rattle.std.proofs.Common.{◌≡◌, ℕ, ◌<◌, ◌≤◌, ◌==◌, nat_lt, Bool, true, false, ◌&&◌, ◌||◌, not, inl, inr, All, List, [], ◌∷◌, length, None, refl, sym, ap, ◌∙◌, arith}
use Rattle.std.proofs.lemmas.Bool.{and_parts, cases_Bool, cases_lt, eqb-true}
use Rattle.std.proofs.lemmas.Bool.Decides.{nat_tests}
use Rattle.std.proofs.lemmas.Bool.{true≢false}
use Rattle.std.proofs.lemmas.List.Elements.{All-cons, All-nil}
use Rattle.std.proofs.lemmas.List.Sums.{sum_by-cons}
use Rattle.std.specs.List.{list_all}
use Rattle.std.proofs.lemmas.Option.{slice_get_past}
use Rattle.std.specs.Option.{option_map_or}
use Rattle.sg_lists.proofs.Bools.{one_if}
use Rattle.sg_lists.proofs.Tests.{All-list_any}
use Rattle.sg_plan.specs.Ballots.{ballot_has, ballots_of, candidates_of, is_over, marks_in, races_of_ballot, style_of_ballot, votes_of}
use Rattle.sg_plan.specs.Fates.{detail_fits, fate_fits, has_mark, mark_fits, marks_differ}
use Rattle.sg_plan.specs.Limits.{fault_of}
use Rattle.sg_plan.specs.Names.{is_within}
use Rattle.sg_plan.specs.declared.plan.Fate.{Fate}
use Rattle.sg_plan.specs.declared.plan.Fate.TheVariants as fate
use Rattle.sg_plan.specs.declared.plan.Mark.{Mark}
use Rattle.sg_plan.specs.declared.plan.Plan.{Plan}
use Rattle.sg_plan.specs.declared.plan.Race.{Race}
use Rattle.sg_tables.specs.Posts.{fate_marks}
use Rattle.sg_plan.proofs.FateLists.{has_among}
use Rattle.sg_record.proofs.Limits.{ballot_two}
use Rattle.sg_post.specs.Fits.{claim_fits}
use Rattle.sg_post.specs.declared.story.Claimed.{Claimed}
use Rattle.sg_post.proofs.StoryFits.{fits_ballot, mark-fits}

-- CLAIMS

pub each-claim : (plan : Plan) (claims : List Claimed) → list_all (claim_fits plan) claims ≡ true → All (λ claimed. claim_fits plan claimed ≡ true) claims
each-claim plan [] fit = All-nil (λ (claimed : Claimed). claim_fits plan claimed ≡ true)
each-claim plan (claimed ∷ claims) fit =
    let parts = and_parts (claim_fits plan claimed) (list_all (claim_fits plan) claims) fit in
    All-cons (λ (one : Claimed). claim_fits plan one ≡ true) claimed claims parts.0 (each-claim plan claims parts.1)

-- FATES

-- the parts of a fate that fits
pub detail-of : (plan : Plan) (ballot : ℕ) (what : Fate) → fate_fits plan ballot what ≡ true → detail_fits plan (races_of_ballot plan ballot) what ≡ true
detail-of plan ballot what fit = (and_parts (is_within 1 (ballots_of plan) ballot) (detail_fits plan (races_of_ballot plan ballot) what) fit).1

-- no mark is of the race
abbrev pub IsUnnamed : ℕ → List Mark → Type 0
IsUnnamed race marks = ((candidate : ℕ) → has_mark marks race candidate ≡ false) × (marks_in race marks ≡ 0)

-- none is of a race that the ballot does not have
pub unnamed : (plan : Plan) (ballot race : ℕ) (marks : List Mark) → list_all (mark_fits plan (races_of_ballot plan ballot)) marks ≡ true → ballot_has plan ballot race ≡ false → IsUnnamed race marks
unnamed plan ballot race [] fit lacks = (λ candidate. refl, refl)
unnamed plan ballot race (mark ∷ marks) fit lacks =
    let parts = and_parts (mark_fits plan (races_of_ballot plan ballot) mark) (list_all (mark_fits plan (races_of_ballot plan ballot)) marks) fit in
    let rest = unnamed plan ballot race marks parts.1 lacks in
    elim (cases_Bool (mark.race == race)) [
      | inl here ↦ absurd (true≢false (sym (mark-fits plan ballot mark parts.0).0 ∙ (ap (ballot_has plan ballot) (eqb-true mark.race race here) ∙ lacks)))
      | inr other ↦ (
        λ candidate. ap (λ (b : Bool). (b && mark.candidate == candidate) || has_mark marks race candidate) other ∙ rest.0 candidate,
        omega (arith, sum_by-cons (λ (m : Mark). one_if (m.race == race)) mark marks, ap one_if other, rest.1),
      )
    ]

-- a race of no mark is not over
pub none_over : (votes count : ℕ) → count ≡ 0 → nat_lt votes count ≡ false
none_over votes count none = ap (nat_lt votes) none ∙ never votes
  where
    never : (n : ℕ) → nat_lt n 0 ≡ false
    never n = grind (arith, nat_tests)

-- a ballot marks nothing in a race that it does not have
pub lacks-marks : (plan : Plan) (ballot race : ℕ) (what : Fate) → fits_ballot plan ballot what → ballot_has plan ballot race ≡ false → (candidate : ℕ) → fate_marks plan race candidate what ≡ false
lacks-marks plan ballot race (fate.Cast marks) fit lacks candidate =
    let tests = and_parts (list_all (mark_fits plan (races_of_ballot plan ballot)) marks) (marks_differ marks) fit in
    ap (λ (b : Bool). b && not (is_over plan marks race)) ((unnamed plan ballot race marks tests.0 lacks).0 candidate)
lacks-marks plan ballot race other fit lacks candidate = refl

-- A RACE THAT A BALLOT HAS

-- only a race of the plan has candidates
some-within : (plan : Plan) (race : ℕ) → 2 ≤ candidates_of plan race → race < length plan.races
some-within plan race two =
    elim (cases_lt race (length plan.races)) [
      | inl within ↦ within
      | inr past ↦
          let none : candidates_of plan race ≡ 0 = ap (λ o. option_map_or (λ (r : Race). length r.candidates) o 0) (slice_get_past plan.races race past) in
          absurd (omega (arith, none, two))
    ]

-- it is one of the plan
pub has-within : (plan : Plan) (ballot race : ℕ) → fault_of plan ≡ None → ballot_has plan ballot race ≡ true → race < length plan.races
has-within plan ballot race fine has =
    some-within plan race
    (All-list_any (λ (r : ℕ). 2 ≤ candidates_of plan r) race (races_of_ballot plan ballot) (sym (has_among plan ballot race) ∙ has) (ballot_two plan fine (style_of_ballot plan ballot)))
