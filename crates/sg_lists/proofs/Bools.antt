-- Booleans, and choices by one.
use Rattle.std.proofs.Common.{◌≡◌, ℕ, ◌≤◌, Bool, true, false, ◌||◌, not, cond, if◌then◌else◌, refl, sym, arith}
use Rattle.std.proofs.lemmas.Bool.{false_from_ne_true, true≢false}

-- 1 where it is so, else 0
abbrev pub one_if : Bool → ℕ
one_if b = cond b 1 0

-- where neither passes, the first fails, and so does the second
pub not_or_parts : (x y : Bool) → not (x || y) ≡ true → (x ≡ false) × (not y ≡ true)
not_or_parts true y e = cc
not_or_parts false y e = (refl, e)

-- two tests that pass together are the same
pub same_tests : (a b : Bool) → (a ≡ true → b ≡ true) → (b ≡ true → a ≡ true) → a ≡ b
same_tests true b on back = sym (on refl)
same_tests false b on back = sym (false_from_ne_true b (λ e. true≢false (sym (back e))))

-- a choice of one thing
pub cond_same : {A : Type 0} (b : Bool) (x : A) → cond b x x ≡ x
cond_same true x = refl
cond_same false x = refl

-- all of it or none is at most all
pub cond_le : (b : Bool) (count : ℕ) → (if b then count else 0) ≤ count
cond_le true count = omega arith
cond_le false count = omega arith
