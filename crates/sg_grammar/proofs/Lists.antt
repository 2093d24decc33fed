-- Lists of which no item passes a test, and no item clashes with a later one.
use Rattle.std.proofs.Common.{◌≡◌, ℕ, zero, suc, ◌+◌, ◌<◌, ◌≤◌, Bool, false, List, [], ◌∷◌, ◌++◌, refl, arith}
use Rattle.std.proofs.lemmas.Bool.{or_from, or_parts}
use Rattle.std.specs.List.{list_any}
use Rattle.sg_lists.proofs.Each.{EachOf, of-append}
use Rattle.sg_grammar.specs.Due.{numbered}
use Rattle.sg_grammar.specs.Parting.{Apart, None_of}

pub none-append : {A : Type 0} (p : A → Bool) (xs ys : List A) → None_of p xs → None_of p ys → None_of p (xs ++ ys)
none-append p [] ys nx ny = ny
none-append p (x ∷ xs) ys nx ny =
    let parts = or_parts (p x) (list_any p xs) nx in
    or_from (p x) (list_any p (xs ++ ys)) parts.0 (none-append p xs ys parts.1 ny)

pub none-left : {A : Type 0} (p : A → Bool) (xs ys : List A) → None_of p (xs ++ ys) → None_of p xs
none-left p [] ys n = refl
none-left p (x ∷ xs) ys n =
    let parts = or_parts (p x) (list_any p (xs ++ ys)) n in
    or_from (p x) (list_any p xs) parts.0 (none-left p xs ys parts.1)

pub none-weaken : {A : Type 0} (p q : A → Bool) (xs : List A) → ((x : A) → p x ≡ false → q x ≡ false) → None_of p xs → None_of q xs
none-weaken p q [] weaker n = refl
none-weaken p q (x ∷ xs) weaker n =
    let parts = or_parts (p x) (list_any p xs) n in
    or_from (q x) (list_any q xs) (weaker x parts.0) (none-weaken p q xs weaker parts.1)

pub none-all : {A : Type 0} (q : A → Bool) (xs : List A) → ((x : A) → q x ≡ false) → None_of q xs
none-all q [] fails = refl
none-all q (x ∷ xs) fails = or_from (q x) (list_any q xs) (fails x) (none-all q xs fails)

pub none-numbered : {A : Type 0} (p : A → Bool) (f : ℕ → List A) (at count : ℕ) → ((k : ℕ) → None_of p (f k)) → None_of p (numbered f at count)
unfolding numbered
none-numbered p f at zero none = refl
none-numbered p f at (suc count) none = none-append p (f at) (numbered f (at + 1) count) (none at) (none-numbered p f (at + 1) count none)

-- no item of the one list clashes with one of the other
abbrev pub Cross : {A : Type 0} → (A → A → Bool) → List A → List A → Type 0
Cross clash [] ys = Unit {0}
Cross clash (x ∷ xs) ys = None_of (clash x) ys × Cross clash xs ys

pub apart-append : {A : Type 0} (clash : A → A → Bool) (xs ys : List A) → Apart clash xs → Apart clash ys → Cross clash xs ys → Apart clash (xs ++ ys)
apart-append clash [] ys ax ay c = ay
apart-append clash (x ∷ xs) ys ax ay c = (none-append (clash x) xs ys ax.0 c.0, apart-append clash xs ys ax.1 ay c.1)

pub cross-by : {A : Type 0} (clash : A → A → Bool) (a b : A → Bool) (xs ys : List A)
    → ((x y : A) → a x ≡ false → b y ≡ false → clash x y ≡ false) → None_of a xs → None_of b ys → Cross clash xs ys
cross-by clash a b [] ys apart na nb = tt
cross-by clash a b (x ∷ xs) ys apart na nb =
    let parts = or_parts (a x) (list_any a xs) na in
    (none-weaken b (clash x) ys (λ y good. apart x y parts.0 good) nb, cross-by clash a b xs ys apart parts.1 nb)

pub apart-by : {A : Type 0} (clash : A → A → Bool) (a b : A → Bool) (xs : List A)
    → ((x y : A) → a x ≡ false → b y ≡ false → clash x y ≡ false) → None_of a xs → None_of b xs → Apart clash xs
apart-by clash a b [] apart na nb = tt
apart-by clash a b (x ∷ xs) apart na nb =
    let ones = or_parts (a x) (list_any a xs) na in
    let twos = or_parts (b x) (list_any b xs) nb in
    (none-weaken b (clash x) xs (λ y good. apart x y ones.0 good) twos.1, apart-by clash a b xs apart ones.1 twos.1)

cross-append : {A : Type 0} (clash : A → A → Bool) (xs ys zs : List A) → Cross clash xs ys → Cross clash xs zs → Cross clash xs (ys ++ zs)
cross-append clash [] ys zs cy cz = tt
cross-append clash (x ∷ xs) ys zs cy cz = (none-append (clash x) ys zs cy.0 cz.0, cross-append clash xs ys zs cy.1 cz.1)

cross-none : {A : Type 0} (clash : A → A → Bool) (xs : List A) → Cross clash xs []
cross-none clash [] = tt
cross-none clash (x ∷ xs) = (refl, cross-none clash xs)

cross-numbered : {A : Type 0} (clash : A → A → Bool) (xs : List A) (f : ℕ → List A) (at count : ℕ) → ((k : ℕ) → at ≤ k → Cross clash xs (f k)) → Cross clash xs (numbered f at count)
unfolding numbered
cross-numbered clash xs f at zero each_apart = cross-none clash xs
cross-numbered clash xs f at (suc count) each_apart =
    cross-append clash xs (f at) (numbered f (at + 1) count) (each_apart at (omega arith)) (cross-numbered clash xs f (at + 1) count (λ k le. each_apart k (omega arith)))

pub apart-numbered : {A : Type 0} (clash : A → A → Bool) (f : ℕ → List A) (at count : ℕ)
    → ((k : ℕ) → Apart clash (f k)) → ((k j : ℕ) → k < j → Cross clash (f k) (f j)) → Apart clash (numbered f at count)
unfolding numbered
apart-numbered clash f at zero within across = tt
apart-numbered clash f at (suc count) within across =
    apart-append clash (f at) (numbered f (at + 1) count) (within at) (apart-numbered clash f (at + 1) count within across)
    (cross-numbered clash (f at) f (at + 1) count (λ k le. across at k (omega arith)))

-- an item clashes with none behind it
pub apart-behind : {A : Type 0} (clash : A → A → Bool) (front rest : List A) (x : A) → Apart clash (front ++ x ∷ rest) → None_of (clash x) rest
apart-behind clash [] rest x apart = apart.0
apart-behind clash (y ∷ front) rest x apart = apart-behind clash front rest x apart.1

-- lists of which each item has a property
pub of-numbered : {A : Type 0} (P : A → Type 0) (f : ℕ → List A) (at count : ℕ) → ((k : ℕ) → at ≤ k → k < at + count → EachOf P (f k)) → EachOf P (numbered f at count)
unfolding numbered
of-numbered P f at zero all = tt
of-numbered P f at (suc count) all =
    of-append P (f at) (numbered f (at + 1) count) (all at (omega arith) (omega arith)) (of-numbered P f (at + 1) count (λ k a b. all k (omega (arith, a)) (omega (arith, b))))
