-- The sums of one more record.
use Rattle.std.proofs.Common.{◌≡◌, ℕ, ◌+◌, Bool, List, [], ◌∷◌, ◌++◌, length, map, refl, ap, ap₂, ◌∙◌, arith}
use Rattle.std.specs.Prelude.{if◌then◌else◌, sum_by}
use Rattle.std.proofs.lemmas.Bool.{eq-eqb, ne_eqb}
use Rattle.std.proofs.lemmas.List.Sums.{sum_by-append, sum_by-cons}
use Rattle.sg_record.specs.declared.record.Record.{Record}
use Rattle.sg_check.specs.declared.judged.Total.{Total}
use Rattle.sg_fronts.specs.ByRecords.{totals_on}
use Rattle.sg_county.specs.County.{summed, sums_of, votes_in}
use Rattle.sg_county.specs.inside.Keeping.{more_sums, with_votes}

counted : (total : Total) (a b : ℕ) → a ≡ b → ◌≡◌ {A = Total} (record { race = total.race; candidate = total.candidate; count = a }) (record { race = total.race; candidate = total.candidate; count = b })
counted total a b e = ap (λ (n : ℕ). record { race = total.race; candidate = total.candidate; count = n }) e

-- the first record's totals are its sums
summed-none : (totals : List Total) → totals ≡ map (summed []) totals
summed-none [] = refl
summed-none (total ∷ totals) =
    let same : total.count ≡ total.count + sum_by (λ (p : Record). votes_in total.race total.candidate (totals_on p)) [] = omega arith in
    ap₂ (λ (t : Total) (ts : List Total). t ∷ ts) (counted total total.count (total.count + sum_by (λ (p : Record). votes_in total.race total.candidate (totals_on p)) []) same) (summed-none totals)

summed-push : (others : List Record) (posted : Record) (totals : List Total) → map (with_votes (totals_on posted)) (map (summed others) totals) ≡ map (summed (others ++ posted ∷ [])) totals
summed-push others posted [] = refl
summed-push others posted (total ∷ totals) =
    let votes : Record → ℕ = λ p. votes_in total.race total.candidate (totals_on p) in
    let same : (total.count + sum_by votes others) + votes posted ≡ total.count + sum_by votes (others ++ posted ∷ []) =
    omega (arith, sum_by-append votes others (posted ∷ []), sum_by-cons votes posted []) in
    ap₂ (λ (t : Total) (ts : List Total). t ∷ ts) (counted total ((total.count + sum_by votes others) + votes posted) (total.count + sum_by votes (others ++ posted ∷ [])) same) (summed-push others posted totals)

-- the sums behind one more record
pub sums_more : (number : ℕ) (before : List Record) (posted : Record) (sums totals : List Total) → number ≡ length before + 1 → sums ≡ sums_of before → totals ≡ totals_on posted
    → more_sums number sums totals ≡ sums_of (before ++ posted ∷ [])
sums_more number [] posted sums totals number_is sums_are totals_are =
    ap (λ (b : Bool). (if b then totals else map (with_votes totals) sums)) (eq-eqb number 1 (omega (arith, number_is))) ∙ (totals_are ∙ summed-none (totals_on posted))
sums_more number (first ∷ others) posted sums totals number_is sums_are totals_are =
    ap (λ (b : Bool). (if b then totals else map (with_votes totals) sums)) (ne_eqb number 1 (λ same. omega (arith, number_is, same)))
    ∙ (ap₂ (λ (t s : List Total). map (with_votes t) s) totals_are sums_are ∙ summed-push others posted (totals_on first))
