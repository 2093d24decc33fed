-- The totals of a good part are small, so sums of them stay below 2^32.
use Rattle.std.proofs.Common.{◌≡◌, ℕ, ◌+◌, ◌*◌, ◌<◌, ◌≤◌, ◌==◌, ◌^◌, Bool, true, false, ◌&&◌, cond, List, [], ◌∷◌, ◌++◌, length, map, Some, sym, subst, ap, ◌∙◌, arith}
use Rattle.std.specs.Option.{option_map_or}
use Rattle.std.specs.Prelude.{Contains, find, sum_by}
use Rattle.std.proofs.lemmas.Bool.{eq-eqb}
use Rattle.std.proofs.lemmas.List.Elements.{Contains-append_left, Contains-append_right, Contains-push}
use Rattle.std.proofs.lemmas.List.Sums.{sum_by-cons}
use Rattle.sg_check.proofs.Accepted.{yes_is_sound}
use Rattle.sg_check.proofs.BoundLaws.{are_apart, are_in_plan, fine, sizes, total_among, totals_are}
use Rattle.sg_check.proofs.Counting.{count-not}
use Rattle.sg_check.proofs.FineLines.{totals_count}
use Rattle.sg_check.proofs.Votes.{is_vote, places_in, votes-count, votes_before}
use Rattle.sg_check.specs.Bounds.{IsSound}
use Rattle.sg_check.specs.Facts.{votes_for}
use Rattle.sg_check.specs.Laws.{IsAccepted}
use Rattle.sg_check.specs.Verdict.{IsVerdict}
use Rattle.sg_check.specs.declared.judged.Judged.TheVariants as judged
use Rattle.sg_check.specs.declared.judged.Total.{Total}
use Rattle.sg_fronts.proofs.Promised.{right_verdict}
use Rattle.sg_fronts.specs.ByRecords.{IsWholeAndAgrees, totals_on}
use Rattle.sg_county.specs.County.{Counts, summed, sums_of, votes_in}
use Rattle.sg_county.specs.inside.Keeping.{AllCount, Fit, FitsBehind}
use Rattle.sg_grammar.specs.Lines.{placed_of}
use Rattle.sg_grammar.specs.Parting.{Apart, clash}
use Rattle.sg_grammar.specs.Placed.{Placed}
use Rattle.sg_plan.specs.Ballots.{entries_of}
use Rattle.sg_record.specs.Lines.{texts_in}
use Rattle.sg_record.specs.declared.record.Record.{Record}

-- ONE PART

-- a total of a good part is the number of set places, and so at most that of the race's entries
count_small : (part : List (List ℕ)) (totals : List Total) → IsVerdict part (judged.Yes totals) → (total : Total) → Contains totals total → total.count ≤ 200000
count_small part totals good total has =
    let sound : IsSound part totals = yes_is_sound part totals good in
    let walked = sound.walked in
    let plan = walked.next.plan in
    let all = placed_of walked.posted in
    let accepted : IsAccepted part totals walked = record { walks = sound.walks; yes = good } in
    let among = total_among walked.posted total (subst (λ (l : List Total). Contains l total) (totals_are part totals walked accepted) has) in
    let apart = are_apart part totals walked accepted in
    let counted = totals_count part walked (fine part totals walked accepted) among.0 among.1 total.race total.candidate total.count among.2 in
    let before = votes_before plan total.race total.candidate among.0 among.1 total.count (subst (λ (l : List Placed). Apart clash l) among.2 apart) in
    let whole = votes-count plan total.race total.candidate all apart (places_in plan all (are_in_plan part totals walked accepted)) in
    let same = ap (λ (l : List Placed). votes_for plan total.race total.candidate l) among.2 in
    let most = (sizes part totals walked accepted).most_entries total.race in
    omega (arith, counted, before, whole, same, most, count-not (is_vote plan total.race total.candidate all) (entries_of plan total.race))

-- each of the totals has at most so many votes
abbrev AreBelow : ℕ → List Total → Type 0
AreBelow most [] = Unit {0}
AreBelow most (total ∷ totals) = (total.count ≤ most) × AreBelow most totals

are_below : (most : ℕ) (totals : List Total) → ((total : Total) → Contains totals total → total.count ≤ most) → AreBelow most totals
are_below most [] small = tt
are_below most (total ∷ totals) small =
    (small total (Contains-append_left (total ∷ []) totals total (Contains-push [] total)), are_below most totals (λ other has. small other (Contains-append_right (total ∷ []) totals other has)))

part_below : (part : List (List ℕ)) (posted : Record) → IsWholeAndAgrees part posted → AreBelow 200000 (totals_on posted)
part_below part posted good = are_below 200000 (totals_on posted) (count_small part (totals_on posted) (right_verdict part posted good))

votes_small : (most race candidate : ℕ) (totals : List Total) → AreBelow most totals → votes_in race candidate totals ≤ most
votes_small most race candidate [] below = omega arith
votes_small most race candidate (total ∷ totals) below = at_test (total.race == race && total.candidate == candidate) (votes_small most race candidate totals below.1)
  where
    at_test : (b : Bool) → votes_in race candidate totals ≤ most
        → option_map_or (λ (t : Total). t.count) (cond b (Some total) (find (λ (t : Total). t.race == race && t.candidate == candidate) totals)) 0 ≤ most
    at_test true rest = below.0
    at_test false rest = rest

-- SUMS

abbrev AreSmall : List Record → Type 0
AreSmall [] = Unit {0}
AreSmall (posted ∷ more) = AreBelow 200000 (totals_on posted) × AreSmall more

are_small : (done before : List Record) → AllCount done before → AreSmall before
are_small done [] all = tt
are_small done (posted ∷ before) all = (part_below (texts_in posted) posted all.0.good, are_small (done ++ posted ∷ []) before all.1)

sum_small : (race candidate : ℕ) (before : List Record) → AreSmall before → sum_by (λ posted. votes_in race candidate (totals_on posted)) before ≤ 200000 * length before
sum_small race candidate [] small = omega arith
sum_small race candidate (posted ∷ before) small =
    omega (
      arith,
      sum_by-cons (λ (p : Record). votes_in race candidate (totals_on p)) posted before,
      votes_small 200000 race candidate (totals_on posted) small.0,
      sum_small race candidate before small.1,
    )

sums_below : (others : List Record) → AreSmall others → (totals : List Total) → AreBelow 200000 totals → AreBelow (200000 + 200000 * length others) (map (summed others) totals)
sums_below others small [] below = tt
sums_below others small (total ∷ totals) below = (omega (arith, below.0, sum_small total.race total.candidate others small), sums_below others small totals below.1)

fit : (most : ℕ) (more sums : List Total) → AreBelow 200000 more → AreBelow most sums → most + 200000 < 2 ^ 32 → Fit more sums
fit most more [] small below room = tt
fit most more (sum ∷ sums) small below room =
    (omega (arith, below.0, votes_small 200000 sum.race sum.candidate more small, room), fit most more sums small below.1 room)

-- so the totals of one more part may be added
pub fits_behind : (number : ℕ) (before : List Record) (part : List (List ℕ)) (posted : Record) (sums totals : List Total) → number ≡ length before + 1 → AllCount [] before → Counts before part posted
    → sums ≡ sums_of before → totals ≡ totals_on posted → FitsBehind number sums totals
fits_behind number [] part posted sums totals number_is all counts sums_are totals_are other =
    let first : true ≡ false = sym (eq-eqb number 1 (omega (arith, number_is))) ∙ other in
    absurd (let none : ⊥ = cc in none)
fits_behind number (first ∷ others) part posted sums totals number_is all counts sums_are totals_are other =
    let small = are_small [] (first ∷ others) all in
    let few = counts.few in
    subst (λ (t : List Total). Fit t sums) (sym totals_are)
    (subst (λ (s : List Total). Fit (totals_on posted) s) (sym sums_are)
    (fit (200000 + 200000 * length others) (totals_on posted) (map (summed others) (totals_on first)) (part_below part posted counts.good)
    (sums_below others small.1 (totals_on first) small.0) (omega (arith, few))))
