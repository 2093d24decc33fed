-- The first value that lines give, where the lines are put together from nested lists.
use Rattle.std.proofs.Common.{◌≡◌, ◌≢◌, ℕ, zero, suc, ◌+◌, ◌-◌, ◌<◌, ◌≤◌, Bool, false, inl, inr, List, [], ◌∷◌, ◌++◌, map, Option, Some, None, refl, sym, subst, ap, ◌∙◌, arith}
use Rattle.std.proofs.lemmas.Bool.{cases_lt}
use Rattle.std.specs.List.{flat_map, list_any}
use Rattle.std.specs.Option.{option_and_then, option_map_or}
use Rattle.std.specs.Prelude.{slice_get}
use Rattle.sg_lists.proofs.Any.{any-before, any-behind}
use Rattle.sg_lists.proofs.Each.{EachOf, of-append}
use Rattle.sg_grammar.proofs.Lists.{of-numbered}
use Rattle.sg_grammar.specs.Due.{each, numbered}
use Rattle.sg_record.specs.Tree.{indexed}
use Rattle.sg_check.specs.Facts.{first_given}
use Rattle.sg_check.proofs.Fronts.{given-before, given-behind, given-none}
use Rattle.sg_facts.specs.Items.{item_in, row_in}

-- PROPERTIES OF EACH ITEM

pub of-indexed : {A B : Type 0} (P : B → Type 0) (f : ℕ → A → List B) (at : ℕ) (xs : List A) → ((k : ℕ) (x : A) → slice_get xs k ≡ Some x → EachOf P (f (at + k) x)) → EachOf P (indexed f at xs)
unfolding indexed
of-indexed P f at [] all = tt
of-indexed {A} {B} P f at (x ∷ xs) all =
    of-append P (f at x) (indexed f (at + 1) xs) (subst (λ (n : ℕ). EachOf P (f n x)) (let here : at + 0 ≡ at = omega arith in here) (all 0 x refl))
    (of-indexed P f (at + 1) xs (λ k y is. subst (λ (n : ℕ). EachOf P (f n y)) (let next : at + suc k ≡ (at + 1) + k = omega arith in next) (all (suc k) y is)))

-- from 0 on, and for each item of nested lists
pub of-items : {A B : Type 0} (P : B → Type 0) (f : ℕ → A → List B) (xs : List A) → ((k : ℕ) (x : A) → slice_get xs k ≡ Some x → EachOf P (f k x)) → EachOf P (indexed f 0 xs)
of-items P f xs all = of-indexed P f 0 xs (λ k x is. subst (λ (n : ℕ). EachOf P (f n x)) (let same : k ≡ 0 + k = omega arith in same) (all k x is))

pub of-entries : {A B : Type 0} (P : B → Type 0) (place : ℕ → ℕ → A → List B) (lists : List (List A)) → ((race entry : ℕ) (x : A) → item_in lists race entry ≡ Some x → EachOf P (place race entry x))
    → EachOf P (indexed (λ race items. indexed (place race) 0 items) 0 lists)
of-entries {A} {B} P place lists all =
    of-items P (λ race items. indexed (place race) 0 items) lists
    (λ race items there. of-items P (place race) items (λ entry x is. all race entry x (ap (option_and_then (λ (l : List A). slice_get l entry)) there ∙ is)))

pub of-rows : {A B : Type 0} (P : B → Type 0) (place : ℕ → ℕ → ℕ → A → List B) (lists : List (List (List A)))
    → ((race instance row : ℕ) (x : A) → row_in lists race instance row ≡ Some x → EachOf P (place race instance row x))
    → EachOf P (indexed (λ race instances. indexed (λ instance rows. indexed (place race instance) 0 rows) 0 instances) 0 lists)
of-rows {A} {B} P place lists all =
    of-items P (λ race instances. indexed (λ instance rows. indexed (place race instance) 0 rows) 0 instances) lists
    (λ race instances there. of-entries P (place race) instances
    (λ instance row x is. all race instance row x (ap (option_and_then (λ (l : List (List A)). item_in l instance row)) there ∙ is)))

-- where each gives none, none is given
pub given-of : {A B : Type 0} (given : A → Option B) (xs : List A) → EachOf (λ (x : A). given x ≡ None) xs → first_given given xs ≡ None
given-of given [] all = refl
given-of {A} {B} given (x ∷ xs) all = ap (λ (p : Option B). option_map_or Some p (first_given given xs)) all.0 ∙ given-of given xs all.1

pub of-each : {B : Type 0} (P : B → Type 0) (f : ℕ → List B) (at end : ℕ) → ((k : ℕ) → EachOf P (f k)) → EachOf P (each f at end)
of-each P f at end all = of-numbered P f at (end - at) (λ k a b. all k)

pub of-flat_map : {A B : Type 0} (P : B → Type 0) (f : A → List B) (xs : List A) → ((x : A) → EachOf P (f x)) → EachOf P (flat_map f xs)
of-flat_map P f [] all = tt
of-flat_map P f (x ∷ xs) all = of-append P (f x) (flat_map f xs) (all x) (of-flat_map P f xs all)

-- LISTS WITH NUMBERS

-- lists none of which gives a value
pub indexed-none : {A C B : Type 0} (g : C → Option B) (f : ℕ → A → List C) (at : ℕ) (xs : List A) → ((k : ℕ) (x : A) → at ≤ k → first_given g (f k x) ≡ None) → first_given g (indexed f at xs) ≡ None
unfolding indexed
indexed-none g f at [] none = refl
indexed-none g f at (x ∷ xs) none =
    given-behind g (f at x) (indexed f (at + 1) xs) (none at x (omega arith)) ∙ indexed-none g f (at + 1) xs (λ k y low. none k y (omega (arith, low)))

-- only the item of this number gives one
pub indexed-at : {A C B : Type 0} (g : C → Option B) (f : ℕ → A → List C) (at : ℕ) (xs : List A) (k : ℕ) → ((j : ℕ) (x : A) → j ≢ at + k → first_given g (f j x) ≡ None)
    → first_given g (indexed f at xs) ≡ option_and_then (λ x. first_given g (f (at + k) x)) (slice_get xs k)
unfolding indexed
indexed-at g f at [] k none = refl
indexed-at g f at (x ∷ xs) zero none =
    let here : at ≡ at + 0 = omega arith in
    given-before g (f at x) (indexed f (at + 1) xs) (indexed-none g f (at + 1) xs (λ j y low. none j y (λ e. omega (arith, e, low))))
    ∙ ap (λ (n : ℕ). first_given g (f n x)) here
indexed-at g f at (x ∷ xs) (suc k) none =
    let next : (at + 1) + k ≡ at + suc k = omega arith in
    given-behind g (f at x) (indexed f (at + 1) xs) (none at x (λ e. omega (arith, e)))
    ∙ (indexed-at g f (at + 1) xs k (λ j y other. none j y (λ e. other (e ∙ sym next)))
    ∙ ap (λ (n : ℕ). option_and_then (λ y. first_given g (f n y)) (slice_get xs k)) next)

-- from 0 on
pub first-at : {A C B : Type 0} (g : C → Option B) (f : ℕ → A → List C) (xs : List A) (k : ℕ) → ((j : ℕ) (x : A) → j ≢ k → first_given g (f j x) ≡ None)
    → first_given g (indexed f 0 xs) ≡ option_and_then (λ x. first_given g (f k x)) (slice_get xs k)
first-at g f xs k none =
    let same : 0 + k ≡ k = omega arith in
    indexed-at g f 0 xs k (λ j x other. none j x (λ e. other (e ∙ sym same))) ∙ ap (λ (n : ℕ). option_and_then (λ y. first_given g (f n y)) (slice_get xs k)) same

and_then_twice : {A B C : Type 0} (f : A → Option B) (h : B → Option C) (o : Option A) → option_and_then (λ x. option_and_then h (f x)) o ≡ option_and_then h (option_and_then f o)
and_then_twice f h None = refl
and_then_twice f h (Some x) = refl

and_then_same : {A B : Type 0} (f h : A → Option B) (o : Option A) → ((x : A) → f x ≡ h x) → option_and_then f o ≡ option_and_then h o
and_then_same f h None same = refl
and_then_same f h (Some x) same = same x

-- entries by race: only the entry of these two numbers gives one
pub paired-at : {A C B : Type 0} (g : C → Option B) (place : ℕ → ℕ → A → List C) (v : A → Option B) (race entry : ℕ)
    → ((r e : ℕ) (a : A) → r ≢ race → first_given g (place r e a) ≡ None) → ((e : ℕ) (a : A) → e ≢ entry → first_given g (place race e a) ≡ None)
    → ((a : A) → first_given g (place race entry a) ≡ v a) → (lists : List (List A))
    → first_given g (indexed (λ r items. indexed (place r) 0 items) 0 lists) ≡ option_and_then v (item_in lists race entry)
paired-at {A} g place v race entry other_race other_entry here lists =
    first-at g (λ r items. indexed (place r) 0 items) lists race (λ r items other. indexed-none g (place r) 0 items (λ e a low. other_race r e a other))
    ∙ (and_then_same (λ items. first_given g (indexed (place race) 0 items)) (λ items. option_and_then v (slice_get items entry)) (slice_get lists race) in_race
    ∙ and_then_twice (λ items. slice_get items entry) v (slice_get lists race))
  where
    in_race : (items : List A) → first_given g (indexed (place race) 0 items) ≡ option_and_then v (slice_get items entry)
    in_race items =
        first-at g (place race) items entry (λ e a other. other_entry e a other) ∙ and_then_same (λ a. first_given g (place race entry a)) v (slice_get items entry) here

-- rows by race and instance: only the row of these three numbers gives one
pub nested-at : {A C B : Type 0} (g : C → Option B) (place : ℕ → ℕ → ℕ → A → List C) (v : A → Option B) (race instance row : ℕ)
    → ((r i x : ℕ) (a : A) → r ≢ race → first_given g (place r i x a) ≡ None) → ((i x : ℕ) (a : A) → i ≢ instance → first_given g (place race i x a) ≡ None)
    → ((x : ℕ) (a : A) → x ≢ row → first_given g (place race instance x a) ≡ None) → ((a : A) → first_given g (place race instance row a) ≡ v a) → (lists : List (List (List A)))
    → first_given g (indexed (λ r instances. indexed (λ i rows. indexed (place r i) 0 rows) 0 instances) 0 lists) ≡ option_and_then v (row_in lists race instance row)
nested-at {A} g place v race instance row other_race other_instance other_row here lists =
    first-at g (λ r instances. indexed (λ i rows. indexed (place r i) 0 rows) 0 instances) lists race
    (λ r instances other. indexed-none g (λ i rows. indexed (place r i) 0 rows) 0 instances (λ i rows low. indexed-none g (place r i) 0 rows (λ x a low_x. other_race r i x a other)))
    ∙ (and_then_same (λ instances. first_given g (indexed (λ i rows. indexed (place race i) 0 rows) 0 instances)) (λ instances. option_and_then v (item_in instances instance row)) (slice_get lists race)
    (λ instances. paired-at g (place race) v instance row other_instance other_row here instances)
    ∙ and_then_twice (λ instances. item_in instances instance row) v (slice_get lists race))

-- only the list of this number gives one
pub numbered-at : {C B : Type 0} (g : C → Option B) (f : ℕ → List C) (at count number : ℕ) → at ≤ number → number < at + count → ((k : ℕ) → k ≢ number → first_given g (f k) ≡ None)
    → first_given g (numbered f at count) ≡ first_given g (f number)
unfolding numbered
numbered-at g f at zero number after before none = absurd (omega (arith, after, before))
numbered-at g f at (suc count) number after before none =
    elim (cases_lt at number) [
      | inl less ↦
          given-behind g (f at) (numbered f (at + 1) count) (none at (λ e. omega (arith, e, less)))
          ∙ numbered-at g f (at + 1) count number (omega (arith, less)) (omega (arith, before)) none
      | inr not_less ↦
          let same : at ≡ number = omega (arith, after, not_less) in
          given-before g (f at) (numbered f (at + 1) count) (given-none g f (at + 1) count (λ k a b. none k (λ e. omega (arith, e, a, same))))
          ∙ ap (λ (k : ℕ). first_given g (f k)) same
    ]

-- one of the items passes, where only that of this number may
pub any_indexed-none : {A C : Type 0} (test : C → Bool) (f : ℕ → A → List C) (at : ℕ) (xs : List A) → ((k : ℕ) (x : A) → at ≤ k → list_any test (f k x) ≡ false) → list_any test (indexed f at xs) ≡ false
unfolding indexed
any_indexed-none test f at [] none = refl
any_indexed-none test f at (x ∷ xs) none =
    any-behind test (f at x) (indexed f (at + 1) xs) (none at x (omega arith)) ∙ any_indexed-none test f (at + 1) xs (λ k y low. none k y (omega (arith, low)))

pub any_indexed-at : {A C : Type 0} (test : C → Bool) (f : ℕ → A → List C) (at : ℕ) (xs : List A) (k : ℕ) (x : A) → slice_get xs k ≡ Some x
    → ((j : ℕ) (y : A) → j ≢ at + k → list_any test (f j y) ≡ false) → list_any test (indexed f at xs) ≡ list_any test (f (at + k) x)
unfolding indexed
any_indexed-at test f at [] k x is none = cc
any_indexed-at {A} test f at (y ∷ ys) zero x is none =
    let here : at ≡ at + 0 = omega arith in
    let same : y ≡ x = cc in
    any-before test (f at y) (indexed f (at + 1) ys) (any_indexed-none test f (at + 1) ys (λ j z low. none j z (λ e. omega (arith, e, low))))
    ∙ (ap (λ (n : ℕ). list_any test (f n y)) here ∙ ap (λ (z : A). list_any test (f (at + 0) z)) same)
any_indexed-at test f at (y ∷ ys) (suc k) x is none =
    let next : (at + 1) + k ≡ at + suc k = omega arith in
    any-behind test (f at y) (indexed f (at + 1) ys) (none at y (λ e. omega (arith, e)))
    ∙ (any_indexed-at test f (at + 1) ys k x is (λ j z other. none j z (λ e. other (e ∙ sym next))) ∙ ap (λ (n : ℕ). list_any test (f n x)) next)

-- LISTS THAT ARE MADE FROM OTHERS

pub given-map : {A C B : Type 0} (g : C → Option B) (f : A → C) (h : A → Option B) (xs : List A) → ((x : A) → g (f x) ≡ h x) → first_given g (map f xs) ≡ first_given h xs
given-map g f h [] same = refl
given-map {A} {C} {B} g f h (x ∷ xs) same =
    ap (λ (o : Option B). option_map_or Some o (first_given g (map f xs))) (same x) ∙ ap (λ (o : Option B). option_map_or Some (h x) o) (given-map g f h xs same)

pub given-append : {A B : Type 0} (g : A → Option B) (xs ys : List A) → first_given g (xs ++ ys) ≡ option_map_or Some (first_given g xs) (first_given g ys)
given-append g [] ys = refl
given-append {A} {B} g (x ∷ xs) ys = ap (λ (o : Option B). option_map_or Some (g x) o) (given-append g xs ys) ∙ at_first (g x)
  where
    at_first : (o : Option B) → option_map_or Some o (option_map_or Some (first_given g xs) (first_given g ys)) ≡ option_map_or Some (option_map_or Some o (first_given g xs)) (first_given g ys)
    at_first None = refl
    at_first (Some v) = refl

pub given-flat : {A C B : Type 0} (g : C → Option B) (f : A → List C) (h : A → Option B) (xs : List A) → ((x : A) → first_given g (f x) ≡ h x) → first_given g (flat_map f xs) ≡ first_given h xs
given-flat g f h [] same = refl
given-flat {A} {C} {B} g f h (x ∷ xs) same =
    given-append g (f x) (flat_map f xs)
    ∙ (ap (λ (o : Option B). option_map_or Some o (first_given g (flat_map f xs))) (same x) ∙ ap (λ (o : Option B). option_map_or Some (h x) o) (given-flat g f h xs same))
