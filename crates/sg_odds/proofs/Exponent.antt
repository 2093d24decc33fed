-- The exponent that is computed from the totals and a completion is one of the law of the odds.
use Rattle.std.proofs.Common.{◌≡◌, ℕ, zero, suc, ◌*◌, ◌<◌, ◌≤◌, ◌⊎◌, max, inl, inr, List, refl, sym, subst, ap, ◌∙◌, mul_comm, arith}
use Rattle.std.proofs.lemmas.Bool.{cases_eq, cases_lt}
use Rattle.sg_plan.specs.Ballots.{candidates_of}
use Rattle.sg_plan.specs.declared.plan.Plan.{Plan}
use Rattle.sg_grammar.specs.Placed.{Placed}
use Rattle.sg_record.specs.Places.{places_in}
use Rattle.sg_facts.proofs.Totals.{total_there}
use Rattle.sg_facts.specs.Totals.{total_of}
use Rattle.sg_fronts.proofs.OfRecord.{has_each}
use Rattle.sg_odds.specs.Coins.{FewGetYes, before_draw}
use Rattle.sg_odds.specs.Odds.{ExponentBound, IsOffBy, exponent, gap, greatest_below, least_gap, least_with}
use Rattle.sg_odds.proofs.OddsLaw.{few_by, odds_bound}

-- THE LEAST AND THE GREATEST

least_below : (first : ℕ) (value : ℕ → ℕ) (n k : ℕ) → k < n → least_with first value n ≤ value k
least_below first value zero k less = absurd (omega arith)
least_below first value (suc n) k less = elim (cases_eq k n) [
  | inl same ↦ omega (arith, ap value same)
  | inr other ↦ omega (arith, least_below first value n k (omega (arith, less, other)))
]

-- the greatest is 0 or one of them
greatest_at : (value : ℕ → ℕ) (n : ℕ) → (greatest_below value n ≡ 0) ⊎ ((k : ℕ) × (k < n) × (greatest_below value n ≡ value k))
greatest_at value zero = inl refl
greatest_at value (suc n) = elim (cases_lt (greatest_below value n) (value n)) [
  | inl last ↦ inr (n, omega arith, omega (arith, last))
  | inr earlier ↦ earlier_one (greatest_at value n) (omega (arith, earlier))
]
  where
    earlier_one : (greatest_below value n ≡ 0) ⊎ ((k : ℕ) × (k < n) × (greatest_below value n ≡ value k)) → max (greatest_below value n) (value n) ≡ greatest_below value n
        → (greatest_below value (suc n) ≡ 0) ⊎ ((k : ℕ) × (k < suc n) × (greatest_below value (suc n) ≡ value k))
    earlier_one (inl none) same = inl (same ∙ none)
    earlier_one (inr (k, less, is)) same = inr (k, omega (arith, less), same ∙ is)

-- THE BOUND

pub exponent_bound : ExponentBound
exponent_bound posted words formed completion full race race_in =
    by_candidate (greatest_at (least_gap plan all completion race) (candidates_of plan race))
  where
    plan : Plan
    plan = posted.plan

    all : List Placed
    all = places_in posted

    by_candidate : (greatest_below (least_gap plan all completion race) (candidates_of plan race) ≡ 0)
        ⊎ ((k : ℕ) × (k < candidates_of plan race) × (greatest_below (least_gap plan all completion race) (candidates_of plan race) ≡ least_gap plan all completion race k))
        → FewGetYes plan (before_draw all) completion (exponent plan all completion race)
    by_candidate (inl none) =
        few_by posted words formed completion (exponent plan all completion race) (none_less plan.instances (greatest_below (least_gap plan all completion race) (candidates_of plan race)) _ none)
      where
        none_less : (n g m : ℕ) → g ≡ 0 → n * g ≤ m
        none_less n g m e = rw e (omega arith)
    by_candidate (inr (k, less, is)) =
        let stands = (has_each posted words formed).total race k race_in less in
        let off : IsOffBy plan all completion race k (total_of all race k) (least_gap plan all completion race k)
        = λ instance within. least_below (gap plan all completion race k 0) (gap plan all completion race k) plan.instances instance within in
        let bound = odds_bound posted words formed completion full race k (total_of all race k) (least_gap plan all completion race k) (total_there all race k stands.count stands.among) off in
        subst (λ (e : ℕ). FewGetYes plan (before_draw all) completion e) (mul_comm (least_gap plan all completion race k) plan.instances ∙ ap (λ (d : ℕ). plan.instances * d) (sym is)) bound
