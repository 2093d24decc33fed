-- Lists of so many items, each of which passes with its number.
use Rattle.std.proofs.Common.{◌≡◌, ℕ, zero, suc, ◌+◌, ◌<◌, Bool, true, List, [], ◌∷◌, ◌++◌, length, get_or, refl, sym, subst, ap, ◌∙◌, arith}
use Rattle.std.proofs.lemmas.Bool.{and_from, and_parts}
use Rattle.std.specs.List.{list_all}
use Rattle.sg_grammar.specs.Due.{numbered}
use Rattle.sg_record.proofs.Filling.{Each}
use Rattle.sg_record.proofs.SlotLines.{Any}
use Rattle.sg_record.specs.Formed.{each_passes}
use Rattle.sg_record.specs.Tree.{indexed}

pub Each-length : {A : Type 0} (P : ℕ → A → Type 0) (at count : ℕ) (xs : List A) → Each P at count xs → length xs ≡ count
Each-length P at zero [] passes = refl
Each-length P at zero (x ∷ xs) passes = absurd passes
Each-length P at (suc count) [] passes = absurd passes
Each-length P at (suc count) (x ∷ xs) passes = ap suc (Each-length P (at + 1) count xs passes.1)

-- the item of this number passes
Each-item : {A : Type 0} (P : ℕ → A → Type 0) (at count k : ℕ) (xs : List A) (other : A) → Each P at count xs → k < count → P (at + k) (get_or xs k other)
Each-item P at zero k xs other passes less = absurd (omega (arith, less))
Each-item P at (suc count) k [] other passes less = absurd passes
Each-item P at (suc count) zero (x ∷ xs) other passes less = let same : at ≡ at + 0 = omega arith in subst (λ (n : ℕ). P n x) same passes.0
Each-item P at (suc count) (suc k) (x ∷ xs) other passes less =
    let same : (at + 1) + k ≡ at + suc k = omega arith in
    subst (λ (n : ℕ). P n (get_or xs k other)) same (Each-item P (at + 1) count k xs other passes.1 (omega (arith, less)))

pub Each-get : {A : Type 0} (P : ℕ → A → Type 0) (count k : ℕ) (xs : List A) (other : A) → Each P 0 count xs → k < count → P k (get_or xs k other)
Each-get P count k xs other passes less =
    let same : 0 + k ≡ k = omega arith in
    subst (λ (n : ℕ). P n (get_or xs k other)) same (Each-item P 0 count k xs other passes less)

-- any list of so many items
pub Each-any : {A : Type 0} (at count : ℕ) (xs : List A) → length xs ≡ count → Each (λ (k : ℕ) (x : A). Any x) at count xs
Each-any at zero [] many = tt
Each-any at zero (x ∷ xs) many = absurd (omega (arith, many))
Each-any at (suc count) [] many = absurd (omega (arith, many))
Each-any at (suc count) (x ∷ xs) many = (tt, Each-any (at + 1) count xs (omega (arith, many)))

-- each item passes a test
pub Each-from_test : {A : Type 0} (P : ℕ → A → Type 0) (test : ℕ → A → Bool) → ((k : ℕ) (x : A) → test k x ≡ true → P k x)
    → (at count : ℕ) (xs : List A) → length xs ≡ count → each_passes test at xs ≡ true → Each P at count xs
Each-from_test P test from at zero [] many passes = tt
Each-from_test P test from at zero (x ∷ xs) many passes = absurd (omega (arith, many))
Each-from_test P test from at (suc count) [] many passes = absurd (omega (arith, many))
Each-from_test P test from at (suc count) (x ∷ xs) many passes =
    let parts = and_parts (test at x) (each_passes test (at + 1) xs) passes in
    (from at x parts.0, Each-from_test P test from (at + 1) count xs (omega (arith, many)) parts.1)

pub test-from_Each : {A : Type 0} (P : ℕ → A → Type 0) (test : ℕ → A → Bool) → ((k : ℕ) (x : A) → P k x → test k x ≡ true)
    → (at count : ℕ) (xs : List A) → Each P at count xs → each_passes test at xs ≡ true
test-from_Each P test to at zero [] passes = refl
test-from_Each P test to at zero (x ∷ xs) passes = absurd passes
test-from_Each P test to at (suc count) [] passes = absurd passes
test-from_Each P test to at (suc count) (x ∷ xs) passes =
    and_from (test at x) (each_passes test (at + 1) xs) (to at x passes.0) (test-from_Each P test to (at + 1) count xs passes.1)

-- each item passes a test that does not look at its number
pub Each-from_all : {A : Type 0} (P : ℕ → A → Type 0) (test : A → Bool) → ((k : ℕ) (x : A) → test x ≡ true → P k x)
    → (at count : ℕ) (xs : List A) → length xs ≡ count → list_all test xs ≡ true → Each P at count xs
Each-from_all P test from at zero [] many passes = tt
Each-from_all P test from at zero (x ∷ xs) many passes = absurd (omega (arith, many))
Each-from_all P test from at (suc count) [] many passes = absurd (omega (arith, many))
Each-from_all P test from at (suc count) (x ∷ xs) many passes =
    let parts = and_parts (test x) (list_all test xs) passes in
    (from at x parts.0, Each-from_all P test from (at + 1) count xs (omega (arith, many)) parts.1)

pub all-from_Each : {A : Type 0} (P : ℕ → A → Type 0) (test : A → Bool) → ((k : ℕ) (x : A) → P k x → test x ≡ true)
    → (at count : ℕ) (xs : List A) → Each P at count xs → list_all test xs ≡ true
all-from_Each P test to at zero [] passes = refl
all-from_Each P test to at zero (x ∷ xs) passes = absurd passes
all-from_Each P test to at (suc count) [] passes = absurd passes
all-from_Each P test to at (suc count) (x ∷ xs) passes =
    and_from (test x) (list_all test xs) (to at x passes.0) (all-from_Each P test to (at + 1) count xs passes.1)

-- lines that are put together by number are those of a list of the items with these numbers
pub numbered-indexed : {A B : Type 0} (g : ℕ → A → List B) (c : ℕ → A) (d : A) (at count : ℕ) (xs : List A) → length xs ≡ count
    → ((i : ℕ) → i < count → get_or xs i d ≡ c (at + i)) → numbered (λ k. g k (c k)) at count ≡ indexed g at xs
unfolding numbered indexed
numbered-indexed g c d at zero [] many are = refl
numbered-indexed g c d at zero (x ∷ xs) many are = absurd (omega (arith, many))
numbered-indexed g c d at (suc count) [] many are = absurd (omega (arith, many))
numbered-indexed {A} {B} g c d at (suc count) (x ∷ xs) many are =
    let here : at + 0 ≡ at = omega arith in
    let first : c at ≡ x = sym (are 0 (omega arith) ∙ ap c here) in
    let rest : numbered (λ k. g k (c k)) (at + 1) count ≡ indexed g (at + 1) xs =
    numbered-indexed g c d (at + 1) count xs (omega (arith, many))
    (λ i less. let next : at + suc i ≡ (at + 1) + i = omega arith in are (suc i) (omega arith) ∙ ap c next) in
    ap (λ (y : A). g at y ++ numbered (λ k. g k (c k)) (at + 1) count) first ∙ ap (λ l. g at x ++ l) rest

-- TWO LISTS AS ONE OF PAIRS

unfoldable pub zipped : {A B : Type 0} → List A → List B → List (A × B)
zipped [] ys = []
zipped (x ∷ xs) [] = []
zipped (x ∷ xs) (y ∷ ys) = (x, y) ∷ zipped xs ys

pub Each-zipped : {A B : Type 0} (P : ℕ → A → Type 0) (Q : ℕ → B → Type 0) (at count : ℕ) (xs : List A) (ys : List B)
    → Each P at count xs → Each Q at count ys → Each (λ (k : ℕ) (p : A × B). P k p.0 × Q k p.1) at count (zipped xs ys)
unfolding zipped
Each-zipped P Q at zero [] ys p q = tt
Each-zipped P Q at zero (x ∷ xs) ys p q = absurd p
Each-zipped P Q at (suc count) [] ys p q = absurd p
Each-zipped P Q at (suc count) (x ∷ xs) [] p q = absurd q
Each-zipped P Q at (suc count) (x ∷ xs) (y ∷ ys) p q = ((p.0, q.0), Each-zipped P Q (at + 1) count xs ys p.1 q.1)

-- each list of pairs is that of two lists
pub record Unzipped {A B : Type 0} (P : ℕ → A → Type 0) (Q : ℕ → B → Type 0) (at count : ℕ) (pairs : List (A × B)) : Type 0 where
  pub left : List A
  pub right : List B
  pub lefts : Each P at count left
  pub rights : Each Q at count right
  pub are : zipped left right ≡ pairs

pub unzipped : {A B : Type 0} (P : ℕ → A → Type 0) (Q : ℕ → B → Type 0) (at count : ℕ) (pairs : List (A × B))
    → Each (λ (k : ℕ) (p : A × B). P k p.0 × Q k p.1) at count pairs → Unzipped P Q at count pairs
unfolding zipped
unzipped P Q at zero [] passes = record { left = []; right = []; lefts = tt; rights = tt; are = refl }
unzipped P Q at zero (x ∷ xs) passes = absurd passes
unzipped P Q at (suc count) [] passes = absurd passes
unzipped P Q at (suc count) (pair ∷ pairs) passes =
    let rest = unzipped P Q (at + 1) count pairs passes.1 in
    record {
      left = pair.0 ∷ rest.left;
      right = pair.1 ∷ rest.right;
      lefts = (passes.0.0, rest.lefts);
      rights = (passes.0.1, rest.rights);
      are = ap (λ l. pair ∷ l) rest.are;
    }

-- and of one two lists, where these are as long
pub zipped-one : {A B : Type 0} (xs vs : List A) (ys ws : List B) → length ys ≡ length xs → length ws ≡ length vs → zipped xs ys ≡ zipped vs ws → (xs ≡ vs) × (ys ≡ ws)
unfolding zipped
zipped-one [] [] [] [] some many same = (refl, refl)
zipped-one [] [] (y ∷ ys) ws some many same = absurd (omega (arith, some))
zipped-one [] [] [] (w ∷ ws) some many same = absurd (omega (arith, many))
zipped-one [] (v ∷ vs) ys [] some many same = absurd (omega (arith, many))
zipped-one [] (v ∷ vs) ys (w ∷ ws) some many same = cc
zipped-one (x ∷ xs) vs [] ws some many same = absurd (omega (arith, some))
zipped-one (x ∷ xs) [] (y ∷ ys) ws some many same = cc
zipped-one (x ∷ xs) (v ∷ vs) (y ∷ ys) [] some many same = absurd (omega (arith, many))
zipped-one {A} {B} (x ∷ xs) (v ∷ vs) (y ∷ ys) (w ∷ ws) some many same =
    let first : ◌≡◌ {A = A × B} (x, y) (v, w) = cc in
    let others : zipped xs ys ≡ zipped vs ws = cc in
    let rest = zipped-one xs vs ys ws (omega (arith, some)) (omega (arith, many)) others in
    let left : x ≡ v = ap (λ (p : A × B). p.0) first in
    let right : y ≡ w = ap (λ (p : A × B). p.1) first in
    (ap (λ z. z ∷ xs) left ∙ ap (λ l. v ∷ l) rest.0, ap (λ z. z ∷ ys) right ∙ ap (λ l. w ∷ l) rest.1)

pub zipped-get : {A B : Type 0} (xs : List A) (ys : List B) (i : ℕ) (a : A) (b : B) → length ys ≡ length xs → i < length xs
    → get_or (zipped xs ys) i (a, b) ≡ (get_or xs i a, get_or ys i b)
unfolding zipped
zipped-get [] ys i a b many less = absurd (omega arith)
zipped-get (x ∷ xs) [] i a b many less = absurd (omega (arith, many))
zipped-get (x ∷ xs) (y ∷ ys) zero a b many less = refl
zipped-get (x ∷ xs) (y ∷ ys) (suc i) a b many less = zipped-get xs ys i a b (omega (arith, many)) (omega arith)

pub zipped-length : {A B : Type 0} (xs : List A) (ys : List B) → length ys ≡ length xs → length (zipped xs ys) ≡ length xs
unfolding zipped
zipped-length [] ys many = refl
zipped-length (x ∷ xs) [] many = absurd (omega (arith, many))
zipped-length (x ∷ xs) (y ∷ ys) many = ap suc (zipped-length xs ys (omega (arith, many)))
