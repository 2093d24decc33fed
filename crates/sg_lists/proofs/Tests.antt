-- Tests that each item of a list passes, or one does.
use Rattle.std.proofs.Common.{◌≡◌, ℕ, zero, suc, ◌+◌, ◌==◌, Bool, true, ◌||◌, inl, inr, List, [], ◌∷◌, ◌++◌, map, slice_get, Some, refl, ap, subst, ◌∙◌}
use Rattle.std.proofs.Math.Bool.{or-true}
use Rattle.std.proofs.lemmas.Bool.{and_from, and_parts, eq-eqb, eqb-true, or_cases}
use Rattle.std.proofs.lemmas.List.Elements.{All-head, All-tail}
use Rattle.std.proofs.lemmas.Option.{get_or_from_slice_get, none-some, same_Some, slice_get_within}
use Rattle.std.specs.List.{All, list_all, list_any, range_with_len}

-- what holds of each item holds of the one at a place
pub All-slice_get : {A : Type 0} (P : A → Type 0) (xs : List A) (at : ℕ) (x : A) → All P xs → slice_get xs at ≡ Some x → P x
All-slice_get P xs at x each is = rw (get_or_from_slice_get xs at x x is) at (each at x (slice_get_within xs at x is))

-- what holds of each number holds of one that is among them
pub All-list_any : (P : ℕ → Type 0) (number : ℕ) (list : List ℕ) → list_any (λ x. x == number) list ≡ true → All P list → P number
All-list_any P number [] found all = cc
All-list_any P number (x ∷ xs) found all =
    elim (or_cases (x == number) (list_any (λ y. y == number) xs) found) [
      | inl here ↦ subst P (eqb-true x number here) (All-head P x xs all)
      | inr behind ↦ All-list_any P number xs behind (All-tail P x xs all)
    ]

-- the item at a place passes where each does
pub list_all-slice_get : {A : Type 0} (p : A → Bool) (xs : List A) (at : ℕ) (x : A) → list_all p xs ≡ true → slice_get xs at ≡ Some x → p x ≡ true
list_all-slice_get p [] at x all is = absurd (none-some x is)
list_all-slice_get p (y ∷ ys) zero x all is = subst (λ z. p z ≡ true) (same_Some y x is) (and_parts (p y) (list_all p ys) all).0
list_all-slice_get p (y ∷ ys) (suc at) x all is = list_all-slice_get p ys at x (and_parts (p y) (list_all p ys) all).1 is

-- each passes, and one more behind them
pub list_all-push : {A : Type 0} (p : A → Bool) (xs : List A) (x : A) → list_all p xs ≡ true → p x ≡ true → list_all p (xs ++ x ∷ []) ≡ true
list_all-push p [] x all one = and_from (p x) true one refl
list_all-push p (y ∷ ys) x all one = let parts = and_parts (p y) (list_all p ys) all in and_from (p y) (list_all p (ys ++ x ∷ [])) parts.0 (list_all-push p ys x parts.1 one)

-- items by their numbers, where the one of each number passes
pub list_all-range : {A : Type 0} (p : A → Bool) (f : ℕ → A) (at count : ℕ) → ((k : ℕ) → p (f k) ≡ true) → list_all p (map f (range_with_len at count)) ≡ true
list_all-range p f at zero all = refl
list_all-range p f at (suc count) all = and_from (p (f at)) (list_all p (map f (range_with_len (at + 1) count))) (all at) (list_all-range p f (at + 1) count all)

-- the number at a place is among the numbers
pub list_any-slice_get : (xs : List ℕ) (at x : ℕ) → slice_get xs at ≡ Some x → list_any (λ y. y == x) xs ≡ true
list_any-slice_get [] at x is = absurd (none-some x is)
list_any-slice_get (y ∷ ys) zero x is = ap (λ b. b || list_any (λ z. z == x) ys) (eq-eqb y x (same_Some y x is))
list_any-slice_get (y ∷ ys) (suc at) x is = ap (λ b. (y == x) || b) (list_any-slice_get ys at x is) ∙ or-true (y == x)
