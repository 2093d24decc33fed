-- The first value that passes a test.
use Rattle.std.proofs.Common.{◌≡◌, zero, suc, inl, inr, Bool, true, false, ◌||◌, cond, List, [], ◌∷◌, Option, Some, None, refl, sym, ap, ◌∙◌, arith}
use Rattle.std.proofs.lemmas.Bool.{cases_Bool}
use Rattle.std.proofs.lemmas.Option.{none-some, same_Some}
use Rattle.std.specs.Prelude.{Contains, find}
use Rattle.sg_lists.proofs.Options.{cond_none}

-- tests that agree find the same
pub find-same : {A : Type 0} (p q : A → Bool) (xs : List A) → ((x : A) → p x ≡ q x) → find p xs ≡ find q xs
find-same p q [] same = refl
find-same {A} p q (x ∷ xs) same =
    ap (λ (b : Bool). cond b (Some x) (find p xs)) (same x) ∙ ap (λ (found : Option A). cond (q x) (Some x) found) (find-same p q xs same)

-- a test that nothing passes finds nothing
pub find-none : {A : Type 0} (p : A → Bool) (xs : List A) → ((x : A) → p x ≡ false) → find p xs ≡ None
find-none p [] fails = refl
find-none p (x ∷ xs) fails = ap (λ (b : Bool). cond b (Some x) (find p xs)) (fails x) ∙ find-none p xs fails

-- where one of two tests finds nothing, both together find what the other finds
pub find-or : {A : Type 0} (p q : A → Bool) (xs : List A) → find p xs ≡ None → find (λ x. p x || q x) xs ≡ find q xs
find-or p q [] e = refl
find-or {A} p q (x ∷ xs) e =
    let parts = cond_none (p x) x (find p xs) e in
    ap (λ (b : Bool). cond (b || q x) (Some x) (find (λ (z : A). p z || q z) xs)) parts.0
    ∙ ap (λ (found : Option A). cond (q x) (Some x) found) (find-or p q xs parts.1)

-- where nothing is found, the test fails on each
pub fails-each : {A : Type 0} (p : A → Bool) (xs : List A) (x : A) → find p xs ≡ None → Contains xs x → p x ≡ false
fails-each p [] x e (at, below, is) = absurd (omega (arith, below))
fails-each p (y ∷ xs) x e (zero, below, is) = ap p (sym is) ∙ (cond_none (p y) y (find p xs) e).0
fails-each p (y ∷ xs) x e (suc at, below, is) = fails-each p xs x (cond_none (p y) y (find p xs) e).1 (at, omega (arith, below), is)

-- what is found passes the test
pub find-passes : {A : Type 0} (p : A → Bool) (xs : List A) (x : A) → find p xs ≡ Some x → p x ≡ true
find-passes p [] x e = absurd (none-some x e)
find-passes {A} p (y ∷ xs) x e = elim (cases_Bool (p y)) [
  | inl passes ↦ ap p (sym (same_Some y x (sym (ap (λ (b : Bool). cond b (Some y) (find p xs)) passes) ∙ e))) ∙ passes
  | inr fails ↦ find-passes p xs x (sym (ap (λ (b : Bool). cond b (Some y) (find p xs)) fails) ∙ e)
]
