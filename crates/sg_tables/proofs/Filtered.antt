-- Numbers below a number that pass a test, one number after another.
use Rattle.std.proofs.Common.{◌≡◌, ℕ, ◌+◌, ◌-◌, ◌<◌, ◌≤◌, ◌==◌, Bool, true, false, ◌&&◌, ◌||◌, List, [], ◌∷◌, ◌++◌, length, map, drop, slice_get, Some, refl, sym, ap, ◌∙◌, arith}
use Rattle.std.specs.List.{filter, range_with_len}
use Rattle.std.proofs.lemmas.Grind.{common_steps}
use Rattle.std.proofs.lemmas.List.{append-nil, map-append}
use Rattle.std.proofs.lemmas.List.Elements.{filter-append}
use Rattle.std.proofs.lemmas.List.Folds.{list_any-append}
use Rattle.std.proofs.Math.Bool.{or-false, or-true}
use Rattle.sg_lists.proofs.Lists.{drop_from_slice_get}
use Rattle.sg_streams.specs.Numbers.{numbers_below}
use Rattle.sg_streams.proofs.NumberLists.{numbers_below-append, numbers_below-none, numbers_below-push}
use Rattle.sg_tables.specs.Posts.{has_code}

-- LISTS

pub passing-none : {X : Type 0} (f : ℕ → X) (p : ℕ → Bool) → map f (filter p (numbers_below 0)) ≡ []
passing-none f p = ap (λ l. map f (filter p l)) numbers_below-none

-- a list of the next number alone
one-passes : (p : ℕ → Bool) (n : ℕ) → p n ≡ true → filter p (n ∷ []) ≡ n ∷ []
one-passes p n passes = rw passes refl

one-fails : (p : ℕ → Bool) (n : ℕ) → p n ≡ false → filter p (n ∷ []) ≡ []
one-fails p n fails = rw fails refl

-- the next number passes
pub passing-more : {X : Type 0} (f : ℕ → X) (p : ℕ → Bool) (n : ℕ) (list longer : List X) (item : X) → p n ≡ true
    → list ≡ map f (filter p (numbers_below n)) → item ≡ f n → longer ≡ list ++ item ∷ [] → longer ≡ map f (filter p (numbers_below (n + 1)))
passing-more f p n list longer item passes so_far is added =
    added
    ∙ ap (λ l. l ++ item ∷ []) so_far
    ∙ ap (λ x. map f (filter p (numbers_below n)) ++ x ∷ []) is
    ∙ sym (ap (λ l. map f (filter p l)) (numbers_below-push n)
    ∙ ap (map f) (filter-append p (numbers_below n) (n ∷ []))
    ∙ map-append f (filter p (numbers_below n)) (filter p (n ∷ []))
    ∙ ap (λ l. map f (filter p (numbers_below n)) ++ map f l) (one-passes p n passes))

-- the next number does not pass
pub passing-same : {X : Type 0} (f : ℕ → X) (p : ℕ → Bool) (n : ℕ) (list : List X) → p n ≡ false
    → list ≡ map f (filter p (numbers_below n)) → list ≡ map f (filter p (numbers_below (n + 1)))
passing-same f p n list fails so_far =
    so_far
    ∙ sym (ap (λ l. map f (filter p l)) (numbers_below-push n)
    ∙ ap (map f) (filter-append p (numbers_below n) (n ∷ []))
    ∙ ap (λ l. map f (filter p (numbers_below n) ++ l)) (one-fails p n fails)
    ∙ ap (map f) (append-nil (filter p (numbers_below n))))

-- the same of the numbers themselves
pub filtered-none : (p : ℕ → Bool) → filter p (numbers_below 0) ≡ []
filtered-none p = ap (filter p) numbers_below-none

pub filtered-more : (p : ℕ → Bool) (n : ℕ) (list longer : List ℕ) → p n ≡ true
    → list ≡ filter p (numbers_below n) → longer ≡ list ++ n ∷ [] → longer ≡ filter p (numbers_below (n + 1))
filtered-more p n list longer passes so_far added =
    added
    ∙ ap (λ l. l ++ n ∷ []) so_far
    ∙ sym (ap (filter p) (numbers_below-push n) ∙ filter-append p (numbers_below n) (n ∷ []) ∙ ap (λ l. filter p (numbers_below n) ++ l) (one-passes p n passes))

pub filtered-same : (p : ℕ → Bool) (n : ℕ) (list : List ℕ) → p n ≡ false
    → list ≡ filter p (numbers_below n) → list ≡ filter p (numbers_below (n + 1))
filtered-same p n list fails so_far =
    so_far
    ∙ sym (ap (filter p) (numbers_below-push n)
    ∙ filter-append p (numbers_below n) (n ∷ [])
    ∙ ap (λ l. filter p (numbers_below n) ++ l) (one-fails p n fails)
    ∙ append-nil (filter p (numbers_below n)))

-- SEARCHES

-- the codes from a place on
pub code-here : (xs : List ℕ) (at x code : ℕ) → slice_get xs at ≡ Some x → has_code (drop at xs) code ≡ (x == code || has_code (drop (at + 1) xs) code)
code-here xs at x code found = ap (λ l. has_code l code) (drop_from_slice_get xs at x found)

pub code-end : (xs : List ℕ) (at code : ℕ) → length xs ≤ at → has_code (drop at xs) code ≡ false
code-end xs at code past = let none : drop at xs ≡ [] = grind (arith, common_steps, past) in ap (λ l. has_code l code) none

-- one of the first numbers passes, and its code is this one
abbrev pub has_upto : (ℕ → ℕ) → (ℕ → Bool) → ℕ → ℕ → Bool
has_upto f p code n = has_code (map f (filter p (numbers_below n))) code

upto-split : (f : ℕ → ℕ) (p : ℕ → Bool) (code : ℕ) (xs ys : List ℕ)
    → has_code (map f (filter p (xs ++ ys))) code ≡ (has_code (map f (filter p xs)) code || has_code (map f (filter p ys)) code)
upto-split f p code xs ys =
    ap (λ l. has_code (map f l) code) (filter-append p xs ys)
    ∙ ap (λ l. has_code l code) (map-append f (filter p xs) (filter p ys))
    ∙ list_any-append (λ c. c == code) (map f (filter p xs)) (map f (filter p ys))

upto-one : (f : ℕ → ℕ) (p : ℕ → Bool) (code x : ℕ) → has_code (map f (filter p (x ∷ []))) code ≡ (p x && (f x == code))
upto-one f p code x = at (p x) refl
  where
    at : (kept : Bool) → p x ≡ kept → has_code (map f (filter p (x ∷ []))) code ≡ (p x && (f x == code))
    at true is = rw is (or-false (f x == code))
    at false is = rw is refl

upto-next : (f : ℕ → ℕ) (p : ℕ → Bool) (code n : ℕ) → has_upto f p code (n + 1) ≡ (has_upto f p code n || (p n && (f n == code)))
upto-next f p code n =
    ap (λ l. has_code (map f (filter p l)) code) (numbers_below-push n)
    ∙ upto-split f p code (numbers_below n) (n ∷ [])
    ∙ ap (λ b. has_upto f p code n || b) (upto-one f p code n)

pub upto-none : (f : ℕ → ℕ) (p : ℕ → Bool) (code : ℕ) → has_upto f p code 0 ≡ false
upto-none f p code = ap (λ l. has_code (map f (filter p l)) code) numbers_below-none

-- none so far, nor the next one
pub upto-step : (f : ℕ → ℕ) (p : ℕ → Bool) (code n : ℕ) → has_upto f p code n ≡ false → (p n && (f n == code)) ≡ false → has_upto f p code (n + 1) ≡ false
upto-step f p code n none here = upto-next f p code n ∙ rw (none, here) refl

-- one has it
pub upto-found : (f : ℕ → ℕ) (p : ℕ → Bool) (code n all : ℕ) → n < all → (p n && (f n == code)) ≡ true → has_upto f p code all ≡ true
upto-found f p code n all within here =
    let split : all ≡ (n + 1) + (all - (n + 1)) = omega (arith, within) in
    let first : has_upto f p code (n + 1) ≡ true = upto-next f p code n ∙ (ap (λ b. has_upto f p code n || b) here ∙ or-true (has_upto f p code n)) in
    ap (has_upto f p code) split
    ∙ ap (λ l. has_code (map f (filter p l)) code) (numbers_below-append (n + 1) (all - (n + 1)))
    ∙ upto-split f p code (numbers_below (n + 1)) (range_with_len (n + 1) (all - (n + 1)))
    ∙ ap (λ b. b || has_code (map f (filter p (range_with_len (n + 1) (all - (n + 1))))) code) first
