-- The bound of one record, summed over the parts.
use Rattle.std.proofs.Common.{◌≡◌, ℕ, ◌<◌, ◌==◌, ◌⊎◌, Bool, true, false, ◌&&◌, cond, inl, inr, List, [], ◌∷◌, ◌++◌, length, map, Some, sym, subst, ap, ◌∙◌, append_assoc, append-nil, refl, arith}
use Rattle.std.specs.Option.{option_map_or}
use Rattle.std.specs.Prelude.{Contains, find, slice_get, slice_index_or, sum_by}
use Rattle.std.proofs.lemmas.Bool.{and_parts, eq-eqb, eqb-true}
use Rattle.std.proofs.lemmas.List.Elements.{Contains-append_cases, Contains-append_left, Contains-append_right, Contains-push}
use Rattle.std.proofs.lemmas.List.Sums.{sum_by-cons}
use Rattle.sg_plan.specs.declared.plan.Race.{Race}
use Rattle.sg_grammar.specs.Placed.Placed.{TotalAt}
use Rattle.sg_record.specs.Places.{walk_of}
use Rattle.sg_record.specs.declared.record.Record.{Record}
use Rattle.sg_check.proofs.Accepted.{yes_is_sound}
use Rattle.sg_check.proofs.BoundLaws.{are_in_plan, total_among}
use Rattle.sg_check.specs.Bounds.{DifferByAtMost}
use Rattle.sg_check.specs.Laws.{IsAccepted}
use Rattle.sg_check.specs.declared.judged.Total.{Total}
use Rattle.sg_fronts.proofs.ByRecords.{whole-walk}
use Rattle.sg_fronts.proofs.Promised.{bound_on, right_verdict}
use Rattle.sg_fronts.specs.ByRecords.{IsWholeAndAgrees, posted_of, totals_on}
use Rattle.sg_fronts.specs.Promised.{IsBound}
use Rattle.sg_county.proofs.PartLists.{AllParts}
use Rattle.sg_county.proofs.PartRecords.{one_record}
use Rattle.sg_county.specs.Bound.{AreSeen, IsSeen, Seen, SumsBound, altered_in, posted_in}
use Rattle.sg_county.specs.County.{HasTheRaces, IsFirstSettled, parts_of, summed, sums_of, votes_in}
use Rattle.sg_county.specs.declared.verdict.CountyVerdict.TheVariants.{Yes}

-- WHAT A YES SAYS OF THE PARTS

-- the part is good
pub record IsGood (seen : Seen) : Type 0 where
  pub part : List (List ℕ)
  pub is : IsSeen part seen
  pub good : IsWholeAndAgrees part seen.posted

-- so are all of them, and each has the races of the first
abbrev AreAlike : List Record → List Seen → Type 0
AreAlike before [] = Unit {0}
AreAlike before (seen ∷ all) = IsGood seen × HasTheRaces before seen.posted × AreAlike (before ++ seen.posted ∷ []) all

abbrev records_of : List Seen → List Record
records_of all = map (λ (seen : Seen). seen.posted) all

yes_parts : (totals : List Total) (before : List Record) (parts : AllParts) (all : List Seen) → AreSeen parts all → IsFirstSettled before parts (Yes totals)
    → AreAlike before all × (totals ≡ sums_of (before ++ records_of all))
yes_parts totals before [] [] are settled = (tt, settled ∙ ap sums_of (sym (append-nil before)))
yes_parts totals before [] (seen ∷ all) are settled = absurd are
yes_parts totals before (part ∷ parts) [] are settled = absurd are
yes_parts totals before (part ∷ parts) (seen ∷ all) are (inl settles) = absurd settles
yes_parts totals before (part ∷ parts) (seen ∷ all) are (inr (posted, counts, rest)) =
    let same : posted ≡ seen.posted = one_record part posted seen.posted counts.good.whole are.0.are in
    let more = yes_parts totals (before ++ seen.posted ∷ []) parts all are.1 (subst (λ (r : Record). IsFirstSettled (before ++ r ∷ []) parts (Yes totals)) same rest) in (
      (record { part = part; is = are.0; good = subst (IsWholeAndAgrees part) same counts.good }, subst (HasTheRaces before) same counts.races, more.0),
      more.1 ∙ ap sums_of (append_assoc before (seen.posted ∷ []) (records_of all)),
    )

-- TOTALS AMONG TOTALS

one_there : (x y : Total) → Contains (y ∷ []) x → y ≡ x
one_there x y (k, less, is) = at_first k (omega arith) is
  where
    at_first : (j : ℕ) → j ≡ 0 → slice_index_or (y ∷ []) j x ≡ x → y ≡ x
    at_first j zero_is there = sym (ap (λ (i : ℕ). slice_index_or (y ∷ []) i x) zero_is) ∙ there

none_there : (x : Total) → Contains [] x → ⊥
none_there x (k, less, is) = omega arith

-- a total of this candidate, with the votes that are found
pub record HasVotes (totals : List Total) (race candidate : ℕ) : Type 0 where
  pub total : Total
  pub has : Contains totals total
  pub race_is : total.race ≡ race
  pub candidate_is : total.candidate ≡ candidate
  pub votes : votes_in race candidate totals ≡ total.count

votes_found : (totals : List Total) (race candidate count : ℕ) → Contains totals (record { race = race; candidate = candidate; count = count }) → HasVotes totals race candidate
votes_found [] race candidate count has = absurd (none_there (record { race = race; candidate = candidate; count = count }) has)
votes_found (total ∷ totals) race candidate count has =
    at_test (total.race == race && total.candidate == candidate) refl (Contains-append_cases (total ∷ []) totals (record { race = race; candidate = candidate; count = count }) has)
    (votes_found totals race candidate count)
  where
    votes_at : (b : Bool) → (total.race == race && total.candidate == candidate) ≡ b
        → votes_in race candidate (total ∷ totals) ≡ option_map_or (λ (t : Total). t.count) (cond b (Some total) (find (λ (t : Total). t.race == race && t.candidate == candidate) totals)) 0
    votes_at b e = ap (λ (x : Bool). option_map_or (λ (t : Total). t.count) (cond x (Some total) (find (λ (t : Total). t.race == race && t.candidate == candidate) totals)) 0) e

    at_test : (b : Bool) → (total.race == race && total.candidate == candidate) ≡ b
        → (Contains (total ∷ []) (record { race = race; candidate = candidate; count = count }) ⊎ Contains totals (record { race = race; candidate = candidate; count = count }))
        → (Contains totals (record { race = race; candidate = candidate; count = count }) → HasVotes totals race candidate) → HasVotes (total ∷ totals) race candidate
    at_test true e cases rest =
        let parts = and_parts (total.race == race) (total.candidate == candidate) e in
        record {
          total = total;
          has = Contains-append_left (total ∷ []) totals total (Contains-push [] total);
          race_is = eqb-true total.race race parts.0;
          candidate_is = eqb-true total.candidate candidate parts.1;
          votes = votes_at true e;
        }
    at_test false e (inl here) rest =
        let same = one_there (record { race = race; candidate = candidate; count = count }) total here in
        let of_race = eq-eqb total.race race (ap (λ (t : Total). t.race) same) in
        let of_candidate = eq-eqb total.candidate candidate (ap (λ (t : Total). t.candidate) same) in
        let on : (total.race == race && total.candidate == candidate) ≡ true = rw (of_race, of_candidate) refl in
        absurd (let both : true ≡ false = sym on ∙ e in let none : ⊥ = cc in none)
    at_test false e (inr later) rest =
        let more = rest later in
        record {
          total = more.total;
          has = Contains-append_right (total ∷ []) totals more.total more.has;
          race_is = more.race_is;
          candidate_is = more.candidate_is;
          votes = votes_at false e ∙ more.votes;
        }

-- ONE PART

-- the part has the candidate
abbrev IsCandidate : List Race → ℕ → ℕ → Type 0
IsCandidate races race candidate = (race < length races) × (candidate < option_map_or (λ r. length r.candidates) (slice_get races race) 0)

bound_of : (seen : Seen) → IsGood seen → IsBound seen.posted (totals_on seen.posted)
bound_of seen is =
    let totals = totals_on seen.posted in
    bound_on is.part totals (yes_is_sound is.part totals (right_verdict is.part seen.posted is.good)) seen.posted is.good.whole

total_bound : (seen : Seen) → IsGood seen → (total : Total) → Contains (totals_on seen.posted) total → DifferByAtMost (altered_in total.race seen) total.count (posted_in total.race total.candidate seen)
total_bound seen is total has = (bound_of seen is).bound seen.printing seen.completion is.is.differ is.is.stands is.is.none_twice total seen.instance has is.is.within

total_within : (seen : Seen) → IsGood seen → (total : Total) → Contains (totals_on seen.posted) total → IsCandidate seen.posted.plan.races total.race total.candidate
total_within seen is total has =
    let totals = totals_on seen.posted in
    let accepted : IsAccepted is.part totals (walk_of seen.posted) = record { walks = whole-walk seen.posted is.part is.good.whole; yes = right_verdict is.part seen.posted is.good } in
    let among = total_among (posted_of seen.posted) total has in
    let within = (are_in_plan is.part totals (walk_of seen.posted) accepted (TotalAt total.race total.candidate total.count) among).placed in
    (within.0, within.1)

votes_bound : (seen : Seen) → IsGood seen → (race candidate : ℕ) → IsCandidate seen.posted.plan.races race candidate
    → DifferByAtMost (altered_in race seen) (votes_in race candidate (totals_on seen.posted)) (posted_in race candidate seen)
votes_bound seen is race candidate within =
    let totalled = (bound_of seen is).totalled race candidate within.0 within.1 in
    let found = votes_found (totals_on seen.posted) race candidate totalled.0 totalled.1 in
    let bound = total_bound seen is found.total found.has in
    subst (λ (n : ℕ). DifferByAtMost (altered_in race seen) n (posted_in race candidate seen)) (sym found.votes)
    (subst (λ (c : ℕ). DifferByAtMost (altered_in race seen) found.total.count (posted_in race c seen)) found.candidate_is
    (subst (λ (r : ℕ). DifferByAtMost (altered_in r seen) found.total.count (posted_in r found.total.candidate seen)) found.race_is bound))

-- THE SUMS

rest_bound : (first : Record) (between : List Record) (race candidate : ℕ) → IsCandidate first.plan.races race candidate → (all : List Seen) → AreAlike (first ∷ between) all
    → DifferByAtMost (sum_by (altered_in race) all) (sum_by (λ posted. votes_in race candidate (totals_on posted)) (records_of all)) (sum_by (posted_in race candidate) all)
rest_bound first between race candidate within [] are = record { more = omega arith; less = omega arith }
rest_bound first between race candidate within (seen ∷ all) are =
    let here = votes_bound seen are.0 race candidate (subst (λ (r : List Race). IsCandidate r race candidate) (sym are.1) within) in
    let rest = rest_bound first (between ++ seen.posted ∷ []) race candidate within all are.2 in
    let votes : Record → ℕ = λ posted. votes_in race candidate (totals_on posted) in
    record {
      more = omega (arith, here.more, rest.more, sum_by-cons (altered_in race) seen all, sum_by-cons votes seen.posted (records_of all), sum_by-cons (posted_in race candidate) seen all);
      less = omega (arith, here.less, rest.less, sum_by-cons (altered_in race) seen all, sum_by-cons votes seen.posted (records_of all), sum_by-cons (posted_in race candidate) seen all);
    }

-- a sum is that of one of the first record's totals
summed_of : (others : List Record) (totals : List Total) (sum : Total) → Contains (map (summed others) totals) sum → (total : Total) × Contains totals total × (summed others total ≡ sum)
summed_of others [] sum has = absurd (none_there sum has)
summed_of others (total ∷ totals) sum has = at_case (Contains-append_cases (summed others total ∷ []) (map (summed others) totals) sum has) (summed_of others totals sum)
  where
    at_case : (Contains (summed others total ∷ []) sum ⊎ Contains (map (summed others) totals) sum) → (Contains (map (summed others) totals) sum → (t : Total) × Contains totals t × (summed others t ≡ sum))
        → (t : Total) × Contains (total ∷ totals) t × (summed others t ≡ sum)
    at_case (inl here) rest = (total, Contains-append_left (total ∷ []) totals total (Contains-push [] total), one_there sum (summed others total) here)
    at_case (inr later) rest = let more = rest later in (more.0, Contains-append_right (total ∷ []) totals more.0 more.1, more.2)

parts_bound : (totals : List Total) (all : List Seen) → AreAlike [] all → totals ≡ sums_of (records_of all)
    → (sum : Total) → Contains totals sum → DifferByAtMost (sum_by (altered_in sum.race) all) sum.count (sum_by (posted_in sum.race sum.candidate) all)
parts_bound totals [] are totals_are sum has = absurd (none_there sum (subst (λ (l : List Total). Contains l sum) totals_are has))
parts_bound totals (first ∷ more) are totals_are sum has =
    let others : List Record = records_of more in
    let of_first = summed_of others (totals_on first.posted) sum (subst (λ (l : List Total). Contains l sum) totals_are has) in
    let total = of_first.0 in
    let here = total_bound first are.0 total of_first.1 in
    let rest = rest_bound first.posted [] total.race total.candidate (total_within first are.0 total of_first.1) more are.2 in
    subst (λ (t : Total). DifferByAtMost (sum_by (altered_in t.race) (first ∷ more)) t.count (sum_by (posted_in t.race t.candidate) (first ∷ more))) of_first.2
    (record {
      more = omega (arith, here.more, rest.more, sum_by-cons (altered_in total.race) first more, sum_by-cons (posted_in total.race total.candidate) first more);
      less = omega (arith, here.less, rest.less, sum_by-cons (altered_in total.race) first more, sum_by-cons (posted_in total.race total.candidate) first more);
    })

pub sums_bound : SumsBound
sums_bound lines totals all county are sum has =
    let said = yes_parts totals [] (parts_of lines) all are county in
    parts_bound totals all said.0 said.1 sum has
