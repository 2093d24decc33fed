-- Tests that one item of a list passes: lists that are made from others, and where the item stands.
use Rattle.std.proofs.Common.{◌≡◌, ◌≢◌, ℕ, zero, suc, ◌+◌, ◌<◌, ◌≤◌, nat_lt, Bool, true, false, ◌&&◌, ◌||◌, cond, inl, inr, List, [], ◌∷◌, ◌++◌, length, map, filter, slice_get, Some, refl, sym, ap, ◌∙◌, arith}
use Rattle.std.proofs.lemmas.Bool.{cases_Bool, lt-ltb, or_cases, or_from, or_left, or_right, true≢false}
use Rattle.std.proofs.lemmas.List.Folds.{list_any-append}
use Rattle.std.proofs.lemmas.List.Sums.{sum_by-cons}
use Rattle.std.specs.List.{flat_map, list_any, range_with_len}
use Rattle.std.specs.Prelude.{count_by}
use Rattle.std.proofs.Math.Bool.{or-false}
use Rattle.sg_lists.proofs.Bools.{one_if}

-- one passes of a map
pub any-map : {A B : Type 0} (test : B → Bool) (f : A → B) (xs : List A) → list_any test (map f xs) ≡ list_any (λ x. test (f x)) xs
any-map test f [] = refl
any-map test f (x ∷ xs) = ap (λ (b : Bool). test (f x) || b) (any-map test f xs)

-- one passes of those that a test keeps
pub any-filter : {A : Type 0} (test p : A → Bool) (xs : List A) → list_any test (filter p xs) ≡ list_any (λ x. p x && test x) xs
any-filter test p [] = refl
any-filter {A} test p (x ∷ xs) = at_first (p x) (any-filter test p xs)
  where
    at_first : (b : Bool) → list_any test (filter p xs) ≡ list_any (λ y. p y && test y) xs
        → list_any test (cond b (x ∷ filter p xs) (filter p xs)) ≡ ((b && test x) || list_any (λ y. p y && test y) xs)
    at_first true e = ap (λ (c : Bool). test x || c) e
    at_first false e = e

-- one passes of lists put together
pub any-flat : {A B : Type 0} (test : B → Bool) (f : A → List B) (xs : List A) → list_any test (flat_map f xs) ≡ list_any (λ x. list_any test (f x)) xs
any-flat test f [] = refl
any-flat test f (x ∷ xs) = list_any-append test (f x) (flat_map f xs) ∙ ap (λ (b : Bool). list_any test (f x) || b) (any-flat test f xs)

-- tests that agree
pub any-same : {A : Type 0} (p q : A → Bool) (xs : List A) → ((x : A) → p x ≡ q x) → list_any p xs ≡ list_any q xs
any-same p q [] same = refl
any-same p q (x ∷ xs) same = ap (λ (b : Bool). b || list_any p xs) (same x) ∙ ap (λ (b : Bool). q x || b) (any-same p q xs same)

-- a test that nothing passes
pub any-never : {A : Type 0} (p : A → Bool) (xs : List A) → ((x : A) → p x ≡ false) → list_any p xs ≡ false
any-never p [] never = refl
any-never p (x ∷ xs) never = ap (λ (b : Bool). b || list_any p xs) (never x) ∙ any-never p xs never

-- an item passes where more than none do
pub any-count : {A : Type 0} (p : A → Bool) (xs : List A) → list_any p xs ≡ nat_lt 0 (count_by p xs)
any-count p [] = refl
any-count {A} p (x ∷ xs) =
    let first = sum_by-cons (λ (y : A). cond (p y) 1 0) x xs in
    elim (cases_Bool (p x)) [
      | inl passes ↦
          let here : one_if (p x) ≡ one_if true = ap one_if passes in
          or_left (p x) (list_any p xs) passes ∙ sym (lt-ltb 0 (count_by p (x ∷ xs)) (omega (arith, first, here)))
      | inr fails ↦
          let here : one_if (p x) ≡ one_if false = ap one_if fails in
          ap (λ (b : Bool). b || list_any p xs) fails ∙ (any-count p xs ∙ ap (nat_lt 0) (let same : count_by p xs ≡ count_by p (x ∷ xs) = omega (arith, first, here) in same))
    ]

-- a place of an item that passes
pub record PassesAt {A : Type 0} (p : A → Bool) (xs : List A) : Type 0 where
  pub at : ℕ
  pub within : at < length xs
  pub item : A
  pub found : slice_get xs at ≡ Some item
  pub passes : p item ≡ true

-- one that passes stands somewhere
pub any-place : {A : Type 0} (p : A → Bool) (xs : List A) → list_any p xs ≡ true → PassesAt p xs
any-place p [] e = cc
any-place {A} p (x ∷ xs) e =
    elim (or_cases (p x) (list_any p xs) e) [
      | inl here ↦ record { at = 0; within = omega arith; item = x; found = refl; passes = here }
      | inr behind ↦ let rest = any-place p xs behind in record { at = suc rest.at; within = omega (arith, rest.within); item = rest.item; found = rest.found; passes = rest.passes }
    ]

-- a number below the count that passes
pub record NumberPasses (p : ℕ → Bool) (count : ℕ) : Type 0 where
  pub number : ℕ
  pub within : number < count
  pub passes : p number ≡ true

-- a number of a range that passes
pub range-number : (p : ℕ → Bool) (at count : ℕ) → list_any p (range_with_len at count) ≡ true → NumberPasses p (at + count)
range-number p at zero e = cc
range-number p at (suc count) e =
    elim (or_cases (p at) (list_any p (range_with_len (at + 1) count)) e) [
      | inl here ↦ record { number = at; within = omega arith; passes = here }
      | inr behind ↦ let rest = range-number p (at + 1) count behind in record { number = rest.number; within = omega (arith, rest.within); passes = rest.passes }
    ]

-- where a number passes, one does
pub number-range : (p : ℕ → Bool) (at count number : ℕ) → at ≤ number → number < at + count → p number ≡ true → list_any p (range_with_len at count) ≡ true
number-range p at zero number low high passes = absurd (omega (arith, low, high))
number-range p at (suc count) number low high passes =
    elim (cases_Bool (p at)) [
      | inl here ↦ or_left (p at) (list_any p (range_with_len (at + 1) count)) here
      | inr other ↦
          let differ : at ≢ number = λ e. true≢false (sym passes ∙ (ap p (sym e) ∙ other)) in
          or_right (p at) (list_any p (range_with_len (at + 1) count)) (number-range p (at + 1) count number (omega (arith, low, differ)) (omega (arith, high)) passes)
    ]

-- no number of a range passes
pub none-range : (p : ℕ → Bool) (at count : ℕ) → ((k : ℕ) → k < at + count → p k ≡ false) → list_any p (range_with_len at count) ≡ false
none-range p at zero none = refl
none-range p at (suc count) none = or_from (p at) (list_any p (range_with_len (at + 1) count)) (none at (omega arith)) (none-range p (at + 1) count (λ k below. none k (omega (arith, below))))

-- where none of the first passes, only the others count
pub any-behind : {A : Type 0} (test : A → Bool) (xs ys : List A) → list_any test xs ≡ false → list_any test (xs ++ ys) ≡ list_any test ys
any-behind test xs ys none = list_any-append test xs ys ∙ ap (λ (b : Bool). b || list_any test ys) none

-- where none of the others passes, only the first count
pub any-before : {A : Type 0} (test : A → Bool) (xs ys : List A) → list_any test ys ≡ false → list_any test (xs ++ ys) ≡ list_any test xs
any-before test xs ys none = list_any-append test xs ys ∙ (ap (λ (b : Bool). list_any test xs || b) none ∙ or-false (list_any test xs))
