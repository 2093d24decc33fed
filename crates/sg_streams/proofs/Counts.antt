-- How many numbers of a list are below, at and up to a number.
use Rattle.std.proofs.Common.{inl, inr, ◌≡◌, ℕ, ◌+◌, ◌<◌, ◌≤◌, true, false, List, [], ◌∷◌, ltb, leb, eqb, count_by, refl, arith}
use Rattle.std.specs.List.{list_any}
use Rattle.std.proofs.lemmas.Bool.{or_from, or_parts, both_ways, cases_order}
use Rattle.std.proofs.lemmas.Bool.Decides.{nat_tests}
use Rattle.std.proofs.lemmas.List.Sums.{sum_by-cons, sum_by-le-sum_by}
use Rattle.sg_lists.proofs.Bools.{one_if}

abbrev pub count_below : ℕ → List ℕ → ℕ
count_below x us = count_by (λ u. ltb u x) us

abbrev pub count_upto : ℕ → List ℕ → ℕ
count_upto x us = count_by (λ u. leb u x) us

abbrev pub count_at : ℕ → List ℕ → ℕ
count_at x us = count_by (λ u. eqb u x) us

-- no number stands in the list twice
abbrev pub IsOnce : List ℕ → Type 0
IsOnce us = (x : ℕ) → count_at x us ≤ 1

one_if-upto : (u x : ℕ) → one_if (leb u x) ≡ one_if (ltb u x) + one_if (eqb u x)
one_if-upto u x = grind (arith, nat_tests)

-- the numbers up to one are those below it and those at it
pub count_upto-split : (x : ℕ) (us : List ℕ) → count_upto x us ≡ count_below x us + count_at x us
count_upto-split x [] = refl
count_upto-split x (u ∷ us) =
    omega (
      arith,
      count_upto-split x us,
      one_if-upto u x,
      sum_by-cons (λ v. one_if (leb v x)) u us,
      sum_by-cons (λ v. one_if (ltb v x)) u us,
      sum_by-cons (λ v. one_if (eqb v x)) u us,
    )

-- the same, one further
pub count_below-suc : (x : ℕ) (us : List ℕ) → count_below (x + 1) us ≡ count_below x us + count_at x us
count_below-suc x [] = refl
count_below-suc x (u ∷ us) =
    let here : one_if (ltb u (x + 1)) ≡ one_if (ltb u x) + one_if (eqb u x) = grind (arith, nat_tests) in
    omega (
      arith,
      count_below-suc x us,
      here,
      sum_by-cons (λ v. one_if (ltb v (x + 1))) u us,
      sum_by-cons (λ v. one_if (ltb v x)) u us,
      sum_by-cons (λ v. one_if (eqb v x)) u us,
    )

one_if-rises : (u x y : ℕ) → x < y → one_if (leb u x) ≤ one_if (ltb u y)
one_if-rises u x y h = grind (arith, nat_tests)

-- the numbers up to one are below each higher one
pub count_upto-le : (x y : ℕ) (us : List ℕ) → x < y → count_upto x us ≤ count_below y us
count_upto-le x y us h = sum_by-le-sum_by (λ u. one_if (leb u x)) (λ u. one_if (ltb u y)) us (λ u. one_if-rises u x y h)

-- a number that is not counted does not stand in the list, and back
pub list_any-none : (x : ℕ) (us : List ℕ) → count_at x us ≡ 0 → list_any (λ u. eqb u x) us ≡ false
list_any-none x [] none = refl
list_any-none x (u ∷ us) none =
    let more = sum_by-cons (λ v. one_if (eqb v x)) u us in
    let here : eqb u x ≡ false = grind (arith, more, none) in
    let rest : count_at x us ≡ 0 = omega (arith, more, none) in
    or_from (eqb u x) (list_any (λ v. eqb v x) us) here (list_any-none x us rest)

pub count_at-none : (x : ℕ) (us : List ℕ) → list_any (λ u. eqb u x) us ≡ false → count_at x us ≡ 0
count_at-none x [] none = refl
count_at-none x (u ∷ us) none =
    let parts = or_parts (eqb u x) (list_any (λ v. eqb v x) us) none in
    let here : one_if (eqb u x) ≡ 0 = rw parts.0 refl in
    omega (arith, sum_by-cons (λ v. one_if (eqb v x)) u us, here, count_at-none x us parts.1)

-- one that stands in the list is counted
pub count_at-some : (x : ℕ) (us : List ℕ) → list_any (λ u. eqb u x) us ≡ true → 1 ≤ count_at x us
count_at-some x us some =
    elim (cases_order (count_at x us) 0) [
      | inl none ↦ absurd (both_ways _ (list_any-none x us none) some)
      | inr (inl low) ↦ omega arith
      | inr (inr high) ↦ omega arith
    ]
