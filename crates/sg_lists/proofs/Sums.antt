-- Sums and counts over lists that are made from others, and over the numbers of a range.
use Rattle.std.proofs.Common.{◌≡◌, ◌≢◌, ℕ, zero, suc, ◌+◌, ◌<◌, ◌≤◌, Bool, true, false, cond, inl, inr, List, [], ◌∷◌, map, filter, refl, sym, ap, ◌∙◌, arith}
use Rattle.std.proofs.lemmas.Bool.{cases_Bool, cases_lt, false_from_ne_true}
use Rattle.std.proofs.lemmas.List.Sums.{sum_by-append, sum_by-cons}
use Rattle.std.specs.List.{flat_map, range_with_len}
use Rattle.std.specs.Prelude.{count_by, sum_by}
use Rattle.sg_lists.proofs.Bools.{one_if}
use Rattle.sg_lists.proofs.Each.{EachOf}

-- items that give nothing
pub sum-of : {A : Type 0} (g : A → ℕ) (xs : List A) → EachOf (λ (x : A). g x ≡ 0) xs → sum_by g xs ≡ 0
sum-of g [] all = refl
sum-of {A} g (x ∷ xs) all = omega (arith, sum_by-cons g x xs, all.0, sum-of g xs all.1)

-- a map
pub sum-map : {A B : Type 0} (g : B → ℕ) (f : A → B) (xs : List A) → sum_by g (map f xs) ≡ sum_by (λ x. g (f x)) xs
sum-map g f [] = refl
sum-map g f (x ∷ xs) =
    let rest = sum-map g f xs in
    let first = sum_by-cons (λ y. g (f y)) x xs in
    sum_by-cons g (f x) (map f xs) ∙ omega (arith, rest, first)

-- lists put together
pub sum-flat : {A B : Type 0} (g : B → ℕ) (f : A → List B) (xs : List A) → sum_by g (flat_map f xs) ≡ sum_by (λ x. sum_by g (f x)) xs
sum-flat g f [] = refl
sum-flat g f (x ∷ xs) =
    let rest = sum-flat g f xs in
    let first = sum_by-cons (λ y. sum_by g (f y)) x xs in
    sum_by-append g (f x) (flat_map f xs) ∙ omega (arith, rest, first)

-- those that a test keeps
pub sum-filter : {A : Type 0} (g : A → ℕ) (p : A → Bool) (xs : List A) → sum_by g (filter p xs) ≡ sum_by (λ x. cond (p x) (g x) 0) xs
sum-filter g p [] = refl
sum-filter {A} g p (x ∷ xs) = at_first (p x) (sum-filter g p xs) ∙ sym (sum_by-cons (λ y. cond (p y) (g y) 0) x xs)
  where
    at_first : (b : Bool) → sum_by g (filter p xs) ≡ sum_by (λ y. cond (p y) (g y) 0) xs
        → sum_by g (cond b (x ∷ filter p xs) (filter p xs)) ≡ (cond b (g x) 0) + sum_by (λ y. cond (p y) (g y) 0) xs
    at_first true e = sum_by-cons g x (filter p xs) ∙ ap (λ (n : ℕ). g x + n) e
    at_first false e = e ∙ omega arith

-- functions that give the same
pub sum-same : {A : Type 0} (f g : A → ℕ) (xs : List A) → ((x : A) → f x ≡ g x) → sum_by f xs ≡ sum_by g xs
sum-same f g [] same = refl
sum-same f g (x ∷ xs) same =
    let here = same x in
    let rest = sum-same f g xs same in
    let first = sum_by-cons g x xs in
    sum_by-cons f x xs ∙ omega (arith, here, rest, first)

-- nothing of each
pub sum-nothing : {A : Type 0} (xs : List A) → sum_by (λ x. 0) xs ≡ 0
sum-nothing [] = refl
sum-nothing {A} (x ∷ xs) =
    let rest = sum-nothing xs in
    sum_by-cons (λ (y : A). 0) x xs ∙ omega (arith, rest)

-- where each gives nothing
pub sum-zero : {A : Type 0} (g : A → ℕ) (xs : List A) → ((x : A) → g x ≡ 0) → sum_by g xs ≡ 0
sum-zero {A} g xs none = sum-same g (λ (x : A). 0) xs none ∙ sum-nothing xs

-- functions that give the same over a range
pub sum-range : (f g : ℕ → ℕ) (at count : ℕ) → ((k : ℕ) → at ≤ k → k < at + count → f k ≡ g k) → sum_by f (range_with_len at count) ≡ sum_by g (range_with_len at count)
sum-range f g at zero same = refl
sum-range f g at (suc count) same =
    let here = same at (omega arith) (omega arith) in
    let rest = sum-range f g (at + 1) count (λ k a b. same k (omega (arith, a)) (omega (arith, b))) in
    let first = sum_by-cons g at (range_with_len (at + 1) count) in
    sum_by-cons f at (range_with_len (at + 1) count) ∙ omega (arith, here, rest, first)

-- only this number counts
pub sum-only : (g : ℕ → ℕ) (at count number : ℕ) → at ≤ number → number < at + count → ((k : ℕ) → at ≤ k → k < at + count → k ≢ number → g k ≡ 0) → sum_by g (range_with_len at count) ≡ g number
sum-only g at zero number after before none = absurd (omega (arith, after, before))
sum-only g at (suc count) number after before none =
    elim (cases_lt at number) [
      | inl less ↦
          let here = none at (omega arith) (omega arith) (λ e. omega (arith, e, less)) in
          let rest = sum-only g (at + 1) count number (omega arith) (omega arith) (λ k a b other. none k (omega arith) (omega arith) other) in
          sum_by-cons g at (range_with_len (at + 1) count) ∙ omega (arith, here, rest)
      | inr not_less ↦
          let same : at ≡ number = omega (arith, after, not_less) in
          let here : g at ≡ g number = ap g same in
          let rest = sum-range g (λ k. 0) (at + 1) count (λ k a b. none k (omega arith) (omega arith) (λ e. omega (arith, e, a, same))) in
          let nothing = sum-nothing (range_with_len (at + 1) count) in
          sum_by-cons g at (range_with_len (at + 1) count) ∙ omega (arith, here, rest, nothing)
    ]

-- numbers of which at most one passes
pub count-one : (p : ℕ → Bool) (at count : ℕ) → ((j k : ℕ) → j < at + count → k < at + count → p j ≡ true → p k ≡ true → j ≡ k) → count_by p (range_with_len at count) ≤ 1
count-one p at zero one = omega arith
count-one p at (suc count) one =
    let first = sum_by-cons (λ y. cond (p y) 1 0) at (range_with_len (at + 1) count) in
    elim (cases_Bool (p at)) [
      | inl yes_here ↦
          let here : one_if (p at) ≡ one_if true = ap one_if yes_here in
          let rest = sum-range (λ y. cond (p y) 1 0) (λ y. 0) (at + 1) count
          (λ k a b. ap one_if (false_from_ne_true (p k) (λ passes. let same : at ≡ k = one at k (omega arith) (omega (arith, b)) yes_here passes in omega (arith, same, a)))) in
          let nothing = sum-nothing (range_with_len (at + 1) count) in
          omega (arith, first, here, rest, nothing)
      | inr not_here ↦
          let here : one_if (p at) ≡ one_if false = ap one_if not_here in
          let rest = count-one p (at + 1) count (λ j k a b. one j k (omega (arith, a)) (omega (arith, b))) in
          omega (arith, first, here, rest)
    ]

-- one of each
pub sum-ones : (at count : ℕ) → sum_by (λ k. 1) (range_with_len at count) ≡ count
sum-ones at zero = refl
sum-ones at (suc count) =
    let one : ℕ → ℕ = λ k. 1 in
    let rest = sum-ones (at + 1) count in
    sum_by-cons (λ k. 1) at (range_with_len (at + 1) count) ∙ omega (arith, rest)
