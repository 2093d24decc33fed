-- Lists: their parts, and what stands at a place.
use Rattle.std.proofs.Common.{◌≡◌, ◌≢◌, ◌↔◌, ℕ, zero, suc, ◌+◌, ◌<◌, ◌≤◌, ◌==◌, Bool, cond, inl, inr, List, [], ◌∷◌, ◌++◌, length, take, drop, map, replicate, slice_get, slice_set, Some, IsTrue, bytes_eq, rules, refl, sym, ap, subst, ◌∙◌, append_assoc, append-nil, arith}
use Rattle.std.proofs.lemmas.Bool.{cases_eq, cond-false, cond-true, eq-eqb, ne_eqb}
use Rattle.std.proofs.lemmas.List.{drop_at, drop_more, length-drop, map-append, take_at}
use Rattle.std.proofs.lemmas.Option.{get_or_from_slice_get, slice_get_within}
use Rattle.std.proofs.lemmas.Slice.Eq.{bytes_eq-Decides}
use Rattle.std.specs.List.{concat, flat_map}

-- two lists with a first item are the same: so are their first items, and what is behind these
pub cons_parts : {A : Type 0} {x y : A} {xs ys : List A} → x ∷ xs ≡ y ∷ ys → (x ≡ y) × (xs ≡ ys)
cons_parts same = (cc, cc)

-- fronts of one length are the same, and so is what is behind them
pub append_parts : {A : Type 0} (xs ys us vs : List A) → length xs ≡ length ys → xs ++ us ≡ ys ++ vs → (xs ≡ ys) × (us ≡ vs)
append_parts {A} xs ys us vs long same = (
  sym (take_at xs us (length xs) refl) ∙ (ap (take (length xs)) same ∙ take_at ys vs (length xs) (sym long)),
  sym (drop_at xs us (length xs) refl) ∙ (ap (drop (length xs)) same ∙ drop_at ys vs (length xs) (sym long)),
)

-- a front is no longer than it was cut
pub length-take_le : {A : Type 0} (n : ℕ) (xs : List A) → length (take n xs) ≤ n
length-take_le zero xs = omega arith
length-take_le (suc n) [] = omega arith
length-take_le (suc n) (x ∷ xs) = omega (arith, length-take_le n xs)

-- nothing is left just at the end
pub drop_is_empty : {A : Type 0} (at : ℕ) (xs : List A) → at ≤ length xs → (length (drop at xs) == 0) ≡ (at == length xs)
drop_is_empty at xs within =
    elim (cases_eq at (length xs)) [
      | inl e ↦
          let none : length (drop at xs) ≡ 0 = omega (arith, length-drop at xs, e) in
          eq-eqb (length (drop at xs)) 0 none ∙ sym (eq-eqb at (length xs) e)
      | inr differ ↦
          let some : length (drop at xs) ≡ 0 → ⊥ = λ none. differ (omega (arith, none, length-drop at xs, within)) in
          ne_eqb (length (drop at xs)) 0 some ∙ sym (ne_eqb at (length xs) differ)
    ]

-- a test that decides whether two texts are the same is their comparison
pub same_bytes_eq : (test : Bool) (a b : List ℕ) → IsTrue test ↔ (a ≡ b) → test ≡ bytes_eq a b
same_bytes_eq test a b decides = search (rules, bytes_eq-Decides)

-- WHAT STANDS AT A PLACE

-- a place within has an item
pub slice_get_there : {A : Type 0} (xs : List A) (at : ℕ) → at < length xs → (x : A) × (slice_get xs at ≡ Some x)
slice_get_there [] at within = absurd (omega (arith, within))
slice_get_there (x ∷ xs) zero within = (x, refl)
slice_get_there (x ∷ xs) (suc at) within = slice_get_there xs at (omega (arith, within))

-- the item at a place is the first of those from there on
pub drop_from_slice_get : {A : Type 0} (xs : List A) (at : ℕ) (x : A) → slice_get xs at ≡ Some x → drop at xs ≡ x ∷ drop (at + 1) xs
drop_from_slice_get xs at x is = drop_more xs at x (slice_get_within xs at x is) ∙ ap (λ y. y ∷ drop (at + 1) xs) (get_or_from_slice_get xs at x x is)

-- one of equal items
pub slice_get-replicate : {A : Type 0} (n at : ℕ) (x : A) → at < n → slice_get (replicate n x) at ≡ Some x
slice_get-replicate zero at x within = absurd (omega (arith, within))
slice_get-replicate (suc n) zero x within = refl
slice_get-replicate (suc n) (suc at) x within = slice_get-replicate n at x (omega (arith, within))

-- an item that was set
pub slice_get-set_same : {A : Type 0} (xs : List A) (at : ℕ) (x : A) → at < length xs → slice_get (slice_set xs at x) at ≡ Some x
slice_get-set_same [] at x within = absurd (omega (arith, within))
slice_get-set_same (y ∷ ys) zero x within = refl
slice_get-set_same (y ∷ ys) (suc at) x within = slice_get-set_same ys at x (omega (arith, within))

-- an item beside it
pub slice_get-set_other : {A : Type 0} (xs : List A) (at place : ℕ) (x : A) → place ≢ at → slice_get (slice_set xs at x) place ≡ slice_get xs place
slice_get-set_other [] at place x apart = refl
slice_get-set_other (y ∷ ys) zero zero x apart = absurd (apart refl)
slice_get-set_other (y ∷ ys) zero (suc place) x apart = refl
slice_get-set_other (y ∷ ys) (suc at) zero x apart = refl
slice_get-set_other (y ∷ ys) (suc at) (suc place) x apart = slice_get-set_other ys at place x (λ same. apart (ap suc same))

-- in a list in which one item was set it stands at its place, and the others at theirs
pub slice_get-set : {A : Type 0} (xs : List A) (i j : ℕ) (v : A) → i < length xs → slice_get (slice_set xs i v) j ≡ cond (i == j) (Some v) (slice_get xs j)
slice_get-set {A} xs i j v less =
    elim (cases_eq i j) [
      | inl e ↦
          subst (λ (k : ℕ). slice_get (slice_set xs i v) k ≡ Some v) e (slice_get-set_same xs i v less)
          ∙ sym (cond-true (i == j) (Some v) (slice_get xs j) (eq-eqb i j e))
      | inr apart ↦ slice_get-set_other xs i j v (λ same. apart (sym same)) ∙ sym (cond-false (i == j) (Some v) (slice_get xs j) (ne_eqb i j apart))
    ]

-- an item before one that was pushed
pub slice_get-push : {A : Type 0} (xs : List A) (x : A) (j : ℕ) → j < length xs → slice_get (xs ++ x ∷ []) j ≡ slice_get xs j
slice_get-push [] x j less = absurd (omega (arith, less))
slice_get-push (y ∷ xs) x zero less = refl
slice_get-push (y ∷ xs) x (suc j) less = slice_get-push xs x j (omega (arith, less))

-- the item that was pushed
pub slice_get-push_last : {A : Type 0} (xs : List A) (x : A) (j : ℕ) → j ≡ length xs → slice_get (xs ++ x ∷ []) j ≡ Some x
slice_get-push_last [] x zero same = refl
slice_get-push_last [] x (suc j) same = absurd (omega (arith, same))
slice_get-push_last (y ∷ xs) x zero same = absurd (omega (arith, same))
slice_get-push_last (y ∷ xs) x (suc j) same = slice_get-push_last xs x j (omega (arith, same))

-- LISTS THAT ARE MADE FROM OTHERS

-- one more text behind the others
pub concat-push : (lists : List (List ℕ)) (list : List ℕ) → concat (lists ++ list ∷ []) ≡ concat lists ++ list
concat-push [] list = append-nil list
concat-push (x ∷ xs) list = ap (λ l. x ++ l) (concat-push xs list) ∙ sym (append_assoc x (concat xs) list)

-- a map of a map
pub map-map : {A B C : Type 0} (g : B → C) (f : A → B) (xs : List A) → map g (map f xs) ≡ map (λ x. g (f x)) xs
map-map g f [] = refl
map-map g f (x ∷ xs) = ap (λ l. g (f x) ∷ l) (map-map g f xs)

-- functions that give the same put together the same
pub flat_map-same : {A B : Type 0} (f g : A → List B) (xs : List A) → ((x : A) → f x ≡ g x) → flat_map f xs ≡ flat_map g xs
flat_map-same f g [] same = refl
flat_map-same f g (x ∷ xs) same = ap (λ l. l ++ flat_map f xs) (same x) ∙ ap (λ l. g x ++ l) (flat_map-same f g xs same)

-- a map of lists put together is made list by list
pub map-flat_map : {A B C : Type 0} (g : B → C) (f : A → List B) (xs : List A) → map g (flat_map f xs) ≡ flat_map (λ x. map g (f x)) xs
map-flat_map g f [] = refl
map-flat_map g f (x ∷ xs) = map-append g (f x) (flat_map f xs) ∙ ap (λ l. map g (f x) ++ l) (map-flat_map g f xs)

-- a map is made of lists of one item
pub map-single : {A B : Type 0} (g : A → B) (xs : List A) → map g xs ≡ flat_map (λ x. g x ∷ []) xs
map-single g [] = refl
map-single g (x ∷ xs) = ap (λ l. g x ∷ l) (map-single g xs)
