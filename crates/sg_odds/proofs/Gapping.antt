-- Equal values have the same least and the same greatest.
use Rattle.std.proofs.Common.{◌≡◌, ℕ, zero, suc, ◌<◌, ◌≤◌, refl, arith}
use Rattle.sg_odds.specs.Odds.{greatest_below, least_with}

pub least_same : (first other : ℕ) (value same : ℕ → ℕ) (n : ℕ) → first ≡ other → ((k : ℕ) → k < n → value k ≡ same k) → least_with first value n ≡ least_with other same n
least_same first other value same zero start equal = start
least_same first other value same (suc n) start equal =
    rw (least_same first other value same n start (λ k less. equal k (omega (arith, less))), equal n (omega arith)) refl

pub greatest_same : (value same : ℕ → ℕ) (n : ℕ) → ((k : ℕ) → k < n → value k ≡ same k) → greatest_below value n ≡ greatest_below same n
greatest_same value same zero equal = refl
greatest_same value same (suc n) equal = rw (greatest_same value same n (λ k less. equal k (omega (arith, less))), equal n (omega arith)) refl

-- BOUNDS

pub least_most : (first : ℕ) (value : ℕ → ℕ) (n : ℕ) → least_with first value n ≤ first
least_most first value zero = omega arith
least_most first value (suc n) = omega (arith, least_most first value n)

pub greatest_most : (value : ℕ → ℕ) (n most : ℕ) → ((k : ℕ) → k < n → value k ≤ most) → greatest_below value n ≤ most
greatest_most value zero most below = omega arith
greatest_most value (suc n) most below = omega (arith, greatest_most value n most (λ k less. below k (omega (arith, less))), below n (omega arith))
