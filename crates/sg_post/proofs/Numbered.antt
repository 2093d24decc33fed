-- Lists that are made number by number, put together in one way or another.
use Rattle.std.proofs.Common.{◌≡◌, ℕ, zero, suc, ◌+◌, ◌-◌, ◌<◌, Bool, true, false, cond, List, [], ◌∷◌, ◌++◌, map, filter, refl, ap, ◌∙◌, arith}
use Rattle.std.specs.List.{flat_map, range_with_len}
use Rattle.std.proofs.lemmas.List.Concat.{flat_map-append}
use Rattle.sg_streams.specs.Numbers.{numbers_below}
use Rattle.sg_grammar.specs.Due.{each, numbered}
use Rattle.sg_record.specs.Tree.{indexed}

-- the lines of a list that is made number by number
indexed-range : {A B : Type 0} (g : ℕ → A → List B) (v : ℕ → A) (at count : ℕ) → indexed g at (map v (range_with_len at count)) ≡ numbered (λ k. g k (v k)) at count
unfolding indexed numbered
indexed-range g v at zero = refl
indexed-range g v at (suc count) = ap (λ l. g at (v at) ++ l) (indexed-range g v (at + 1) count)

no_less : (count : ℕ) → count ≡ count - 0
no_less count = omega arith

pub indexed-numbers : {A B : Type 0} (g : ℕ → A → List B) (v : ℕ → A) (count : ℕ) → indexed g 0 (map v (numbers_below count)) ≡ each (λ k. g k (v k)) 0 count
unfolding numbers_below
indexed-numbers g v count = indexed-range g v 0 count ∙ ap (numbered (λ k. g k (v k)) 0) (no_less count)

-- lists that agree below a number
range-same : {A : Type 0} (f g : ℕ → List A) (at count : ℕ) → ((k : ℕ) → k < at + count → f k ≡ g k) → numbered f at count ≡ numbered g at count
unfolding numbered
range-same f g at zero same = refl
range-same f g at (suc count) same =
    ap (λ l. l ++ numbered f (at + 1) count) (same at (omega arith)) ∙ ap (λ l. g at ++ l) (range-same f g (at + 1) count (λ k less. same k (omega (arith, less))))

pub each-same : {A : Type 0} (f g : ℕ → List A) (count : ℕ) → ((k : ℕ) → k < count → f k ≡ g k) → each f 0 count ≡ each g 0 count
each-same f g count same = range-same f g 0 (count - 0) (λ k less. same k (omega (arith, less)))

range-none : {A : Type 0} (f : ℕ → List A) (at count : ℕ) → ((k : ℕ) → f k ≡ []) → numbered f at count ≡ []
unfolding numbered
range-none f at zero none = refl
range-none f at (suc count) none = ap (λ l. l ++ numbered f (at + 1) count) (none at) ∙ range-none f (at + 1) count none

pub each-no : {A : Type 0} (f : ℕ → List A) (count : ℕ) → ((k : ℕ) → f k ≡ []) → each f 0 count ≡ []
each-no f count none = range-none f 0 (count - 0) none

-- lists that are joined
range-flat : {A : Type 0} (f : ℕ → List A) (at count : ℕ) → flat_map f (range_with_len at count) ≡ numbered f at count
unfolding numbered
range-flat f at zero = refl
range-flat f at (suc count) = ap (λ l. f at ++ l) (range-flat f (at + 1) count)

pub flat-numbers : {A : Type 0} (f : ℕ → List A) (count : ℕ) → flat_map f (numbers_below count) ≡ each f 0 count
unfolding numbers_below
flat-numbers f count = range-flat f 0 count ∙ ap (numbered f 0) (no_less count)

pub map-passing : {A B : Type 0} (g : A → B) (p : A → Bool) (xs : List A) → map g (filter p xs) ≡ flat_map (λ x. cond (p x) (g x ∷ []) []) xs
map-passing g p [] = refl
map-passing {A} {B} g p (x ∷ xs) = at_test (p x) (map-passing g p xs)
  where
    at_test : (b : Bool) → map g (filter p xs) ≡ flat_map (λ y. cond (p y) (g y ∷ []) []) xs
        → map g (cond b (x ∷ filter p xs) (filter p xs)) ≡ cond b (g x ∷ []) [] ++ flat_map (λ y. cond (p y) (g y ∷ []) []) xs
    at_test true rest = ap (λ l. g x ∷ l) rest
    at_test false rest = rest

pub flat-twice : {A B C : Type 0} (g : B → List C) (f : A → List B) (xs : List A) → flat_map g (flat_map f xs) ≡ flat_map (λ x. flat_map g (f x)) xs
flat-twice g f [] = refl
flat-twice g f (x ∷ xs) = flat_map-append g (f x) (flat_map f xs) ∙ ap (λ l. flat_map g (f x) ++ l) (flat-twice g f xs)
