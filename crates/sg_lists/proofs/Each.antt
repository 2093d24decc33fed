-- A property of each item of a list, and what follows of those that are looked for in it.
use Rattle.std.proofs.Common.{◌≡◌, ℕ, zero, suc, ◌+◌, ◌<◌, ◌==◌, Bool, true, false, ◌||◌, cond, inl, inr, List, [], ◌∷◌, ◌++◌, map, filter, refl, subst, ap, ◌∙◌, arith}
use Rattle.std.proofs.lemmas.Bool.{and_from, eqb-true, or_cases}
use Rattle.std.specs.List.{flat_map, list_all, list_any, range_with_len}

-- each of the items has the property
abbrev pub EachOf : {A : Type 0} → (A → Type 0) → List A → Type 0
EachOf P [] = Unit {0}
EachOf P (x ∷ xs) = P x × EachOf P xs

-- lists in a row
pub of-append : {A : Type 0} (P : A → Type 0) (xs ys : List A) → EachOf P xs → EachOf P ys → EachOf P (xs ++ ys)
of-append P [] ys here there = there
of-append P (x ∷ xs) ys here there = (here.0, of-append P xs ys here.1 there)

-- and their parts
pub of-parts : {A : Type 0} (P : A → Type 0) (xs ys : List A) → EachOf P (xs ++ ys) → EachOf P xs × EachOf P ys
of-parts P [] ys all = (tt, all)
of-parts P (x ∷ xs) ys all = let parts = of-parts P xs ys all.1 in ((all.0, parts.0), parts.1)

-- where all things have it
pub of-every : {A : Type 0} (P : A → Type 0) (xs : List A) → ((x : A) → P x) → EachOf P xs
of-every P [] holds = tt
of-every P (x ∷ xs) holds = (holds x, of-every P xs holds)

-- a property that follows
pub of-into : {A : Type 0} (P Q : A → Type 0) (xs : List A) → ((x : A) → P x → Q x) → EachOf P xs → EachOf Q xs
of-into P Q [] into all = tt
of-into P Q (x ∷ xs) into all = (into x all.0, of-into P Q xs into all.1)

-- a map of all things
pub of-all : {A B : Type 0} (P : B → Type 0) (f : A → B) (xs : List A) → ((x : A) → P (f x)) → EachOf P (map f xs)
of-all P f [] into = tt
of-all P f (x ∷ xs) into = (into x, of-all P f xs into)

-- a map
pub of-map : {A B : Type 0} (P : B → Type 0) (f : A → B) (xs : List A) → EachOf (λ (x : A). P (f x)) xs → EachOf P (map f xs)
of-map P f [] all = tt
of-map P f (x ∷ xs) all = (all.0, of-map P f xs all.1)

-- lists put together
pub of-flat : {A B : Type 0} (P : B → Type 0) (Q : A → Type 0) (f : A → List B) (xs : List A) → ((x : A) → Q x → EachOf P (f x)) → EachOf Q xs → EachOf P (flat_map f xs)
of-flat P Q f [] into all = tt
of-flat P Q f (x ∷ xs) into all = of-append P (f x) (flat_map f xs) (into x all.0) (of-flat P Q f xs into all.1)

-- those that a test keeps
pub of-filter : {A : Type 0} (P : A → Type 0) (test : A → Bool) (xs : List A) → EachOf P xs → EachOf P (filter test xs)
of-filter P test [] all = tt
of-filter {A} P test (x ∷ xs) all = at_test (test x) (of-filter P test xs all.1)
  where
    at_test : (b : Bool) → EachOf P (filter test xs) → EachOf P (cond b (x ∷ filter test xs) (filter test xs))
    at_test true rest = (all.0, rest)
    at_test false rest = rest

-- the numbers of a range that pass a test
pub of-passing : (P : ℕ → Type 0) (test : ℕ → Bool) (at count : ℕ) → ((k : ℕ) → k < at + count → test k ≡ true → P k) → EachOf P (filter test (range_with_len at count))
of-passing P test at zero all = tt
of-passing P test at (suc count) all = at_test (test at) refl (of-passing P test (at + 1) count (λ k b. all k (omega (arith, b))))
  where
    at_test : (b : Bool) → test at ≡ b → EachOf P (filter test (range_with_len (at + 1) count)) → EachOf P (cond b (at ∷ filter test (range_with_len (at + 1) count)) (filter test (range_with_len (at + 1) count)))
    at_test true is rest = (all at (omega arith) is, rest)
    at_test false is rest = rest

-- the numbers of a range
pub of-range : (P : ℕ → Type 0) (at count : ℕ) → ((k : ℕ) → k < at + count → P k) → EachOf P (range_with_len at count)
of-range P at zero all = tt
of-range P at (suc count) all = (all at (omega arith), of-range P (at + 1) count (λ k b. all k (omega (arith, b))))

-- a test that each passes
pub of-test : {A : Type 0} (test : A → Bool) (xs : List A) → EachOf (λ (x : A). test x ≡ true) xs → list_all test xs ≡ true
of-test test [] all = refl
of-test test (x ∷ xs) all = and_from (test x) (list_all test xs) all.0 (of-test test xs all.1)

-- where each item fails a test, none passes it
pub of-none : {A : Type 0} (test : A → Bool) (xs : List A) → EachOf (λ (x : A). test x ≡ false) xs → list_any test xs ≡ false
of-none test [] all = refl
of-none test (x ∷ xs) all = ap (λ (b : Bool). b || list_any test xs) all.0 ∙ of-none test xs all.1

-- a number that is among those that have the property
pub of-among : (P : ℕ → Type 0) (xs : List ℕ) (k : ℕ) → EachOf P xs → list_any (λ x. x == k) xs ≡ true → P k
of-among P [] k all e = cc
of-among P (x ∷ xs) k all e =
    elim (or_cases (x == k) (list_any (λ y. y == k) xs) e) [
      | inl here ↦ subst P (eqb-true x k here) all.0
      | inr behind ↦ of-among P xs k all.1 behind
    ]

-- an item inside the list
pub of-inside : {A : Type 0} (P : A → Type 0) (xs front rest : List A) (x : A) → EachOf P xs → xs ≡ front ++ x ∷ rest → P x
of-inside P xs front rest x all is = (of-parts P front (x ∷ rest) (subst (EachOf P) is all)).1.0
