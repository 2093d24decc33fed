-- What is found among lines that are put together from parts.
use Rattle.std.proofs.Common.{◌≡◌, ◌≢◌, ℕ, zero, suc, ◌+◌, ◌<◌, ◌≤◌, Bool, true, false, ◌||◌, inl, inr, List, [], ◌∷◌, ◌++◌, Option, Some, None, refl, subst, ap, ◌∙◌, arith}
use Rattle.std.proofs.lemmas.Bool.{and_from, and_parts, cases_lt}
use Rattle.std.proofs.lemmas.List.Folds.{list_all-append}
use Rattle.std.specs.List.{list_all, list_any}
use Rattle.std.specs.Option.{option_map_or}
use Rattle.sg_lists.proofs.Any.{any-before, any-behind}
use Rattle.sg_grammar.specs.Due.{numbered}
use Rattle.sg_check.specs.Facts.{first_given}

-- THE FIRST VALUE THAT IS GIVEN

-- one line and those behind it
abbrev then : {B : Type 0} → Option B → Option B → Option B
then here behind = option_map_or Some here behind

then-none : {B : Type 0} (here behind : Option B) → then here behind ≡ None → (here ≡ None) × (behind ≡ None)
then-none None behind e = (refl, e)
then-none (Some v) behind e = cc

then-same : {B : Type 0} (here behind after : Option B) (v : B) → then here behind ≡ Some v → (behind ≡ Some v → after ≡ Some v) → then here after ≡ Some v
then-same None behind after v e on = on e
then-same (Some w) behind after v e on = e

pub given-behind : {A B : Type 0} (given : A → Option B) (xs ys : List A) → first_given given xs ≡ None → first_given given (xs ++ ys) ≡ first_given given ys
given-behind given [] ys none = refl
given-behind {A} {B} given (x ∷ xs) ys none =
    let parts = then-none (given x) (first_given given xs) none in
    ap (λ (p : Option B). then p (first_given given (xs ++ ys))) parts.0 ∙ given-behind given xs ys parts.1

pub given-stays : {A B : Type 0} (given : A → Option B) (xs ys : List A) (v : B) → first_given given xs ≡ Some v → first_given given (xs ++ ys) ≡ Some v
given-stays {A} {B} given [] ys v some = cc
given-stays {A} {B} given (x ∷ xs) ys v some = then-same (given x) (first_given given xs) (first_given given (xs ++ ys)) v some (given-stays given xs ys v)

-- items behind that give none
pub given-before : {A B : Type 0} (given : A → Option B) (xs ys : List A) → first_given given ys ≡ None → first_given given (xs ++ ys) ≡ first_given given xs
given-before given [] ys none = none
given-before {A} {B} given (x ∷ xs) ys none = ap (λ (o : Option B). option_map_or Some (given x) o) (given-before given xs ys none)

-- none of the lists gives one
pub given-none : {A B : Type 0} (given : A → Option B) (f : ℕ → List A) (at count : ℕ)
    → ((k : ℕ) → at ≤ k → k < at + count → first_given given (f k) ≡ None) → first_given given (numbered f at count) ≡ None
unfolding numbered
given-none given f at zero none = refl
given-none given f at (suc count) none =
    given-behind given (f at) (numbered f (at + 1) count) (none at (omega arith) (omega arith))
    ∙ given-none given f (at + 1) count (λ k after before. none k (omega arith) (omega arith))

-- the list of this number is the first that gives one
pub given-at : {A B : Type 0} (given : A → Option B) (f : ℕ → List A) (at count number : ℕ) (v : B) → at ≤ number → number < at + count
    → ((k : ℕ) → at ≤ k → k < number → first_given given (f k) ≡ None) → first_given given (f number) ≡ Some v
    → first_given given (numbered f at count) ≡ Some v
unfolding numbered
given-at given f at zero number v after before none some = absurd (omega (arith, after, before))
given-at {A} {B} given f at (suc count) number v after before none some =
    elim (cases_lt at number) [
      | inl less ↦
          given-behind given (f at) (numbered f (at + 1) count) (none at (omega arith) less)
          ∙ given-at given f (at + 1) count number v (omega arith) (omega arith) (λ k a b. none k (omega arith) b) some
      | inr not_less ↦
          let same : number ≡ at = omega (arith, after, not_less) in
          given-stays given (f at) (numbered f (at + 1) count) v (subst (λ (k : ℕ). first_given given (f k) ≡ Some v) same some)
    ]

-- no line of these forms gives one
pub given-others : {A B : Type 0} (given : A → Option B) (is_other : A → Bool) → ((x : A) → is_other x ≡ true → given x ≡ None)
    → (xs : List A) → list_all is_other xs ≡ true → first_given given xs ≡ None
given-others given is_other never [] all = refl
given-others {A} {B} given is_other never (x ∷ xs) all =
    let parts = and_parts (is_other x) (list_all is_other xs) all in
    ap (λ (p : Option B). option_map_or Some p (first_given given xs)) (never x parts.0) ∙ given-others given is_other never xs parts.1

-- ONE OF THE LINES PASSES A TEST

pub any-none : {A : Type 0} (test : A → Bool) (f : ℕ → List A) (at count : ℕ)
    → ((k : ℕ) → at ≤ k → k < at + count → list_any test (f k) ≡ false) → list_any test (numbered f at count) ≡ false
unfolding numbered
any-none test f at zero none = refl
any-none test f at (suc count) none =
    any-behind test (f at) (numbered f (at + 1) count) (none at (omega arith) (omega arith))
    ∙ any-none test f (at + 1) count (λ k after before. none k (omega arith) (omega arith))

-- only the list of this number counts
pub any-at : {A : Type 0} (test : A → Bool) (f : ℕ → List A) (at count number : ℕ) → at ≤ number → number < at + count
    → ((k : ℕ) → at ≤ k → k < at + count → k ≢ number → list_any test (f k) ≡ false)
    → list_any test (numbered f at count) ≡ list_any test (f number)
unfolding numbered
any-at test f at zero number after before none = absurd (omega (arith, after, before))
any-at {A} test f at (suc count) number after before none =
    elim (cases_lt at number) [
      | inl less ↦
          any-behind test (f at) (numbered f (at + 1) count) (none at (omega arith) (omega arith) (λ e. omega (arith, e, less)))
          ∙ any-at test f (at + 1) count number (omega arith) (omega arith) (λ k a b other. none k (omega arith) (omega arith) other)
      | inr not_less ↦
          let same : at ≡ number = omega (arith, after, not_less) in
          any-before test (f at) (numbered f (at + 1) count) (any-none test f (at + 1) count (λ k a b. none k (omega arith) (omega arith) (λ e. omega (arith, e, a, same))))
          ∙ ap (λ (k : ℕ). list_any test (f k)) same
    ]

-- no line of these forms passes
pub any-others : {A : Type 0} (test is_other : A → Bool) → ((x : A) → is_other x ≡ true → test x ≡ false)
    → (xs : List A) → list_all is_other xs ≡ true → list_any test xs ≡ false
any-others test is_other never [] all = refl
any-others test is_other never (x ∷ xs) all =
    let parts = and_parts (is_other x) (list_all is_other xs) all in
    ap (λ (b : Bool). b || list_any test xs) (never x parts.0) ∙ any-others test is_other never xs parts.1

-- FORMS

pub all-append : {A : Type 0} (test : A → Bool) (xs ys : List A) → list_all test xs ≡ true → list_all test ys ≡ true → list_all test (xs ++ ys) ≡ true
all-append test xs ys here behind = list_all-append test xs ys ∙ and_from (list_all test xs) (list_all test ys) here behind

pub all-each : {A : Type 0} (test : A → Bool) (f : ℕ → List A) (at count : ℕ) → ((k : ℕ) → list_all test (f k) ≡ true) → list_all test (numbered f at count) ≡ true
unfolding numbered
all-each test f at zero all = refl
all-each test f at (suc count) all = all-append test (f at) (numbered f (at + 1) count) (all at) (all-each test f (at + 1) count all)
