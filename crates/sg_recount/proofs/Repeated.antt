-- A pointer is repeated where two rows or more have it: how a table of counts finds repeated pointers.
use Rattle.std.proofs.Common.{◌≡◌, ℕ, zero, suc, ◌+◌, ◌<◌, ◌==◌, nat_lt, Bool, true, false, ◌&&◌, ◌||◌, inl, inr, not, refl, sym, ap, ◌∙◌, arith}
use Rattle.std.proofs.Math.Bool.{and_comm, or-false, or-true}
use Rattle.std.proofs.lemmas.Bool.{cases_lt, le-ltb, lt-ltb}
use Rattle.sg_lists.proofs.Bools.{one_if}
use Rattle.sg_check.proofs.Counting.{count-without, without}
use Rattle.sg_check.specs.Completions.{any_below}
use Rattle.sg_check.specs.Printings.{count_below}

any-count : (test : ℕ → Bool) (n : ℕ) → any_below test n ≡ nat_lt 0 (count_below test n)
any-count test zero = refl
any-count test (suc n) = here (any_below test n) (count_below test n) (test n) (any-count test n)
  where
    here : (a : Bool) (c : ℕ) (b : Bool) → a ≡ nat_lt 0 c → (a || b) ≡ nat_lt 0 (c + one_if b)
    here a c true e = or-true a ∙ sym (lt-ltb 0 (c + 1) (omega arith))
    here a c false e = let same : c ≡ c + 0 = omega arith in or-false a ∙ (e ∙ ap (λ (k : ℕ). nat_lt 0 k) same)

any-same : (p q : ℕ → Bool) (n : ℕ) → ((k : ℕ) → p k ≡ q k) → any_below p n ≡ any_below q n
any-same p q zero same = refl
any-same p q (suc n) same = rw (any-same p q n same, same n) refl

-- of a row that passes, another passes too where two or more do
pub repeated : (test : ℕ → Bool) (row n : ℕ) → row < n → test row ≡ true → any_below (λ other. not (other == row) && test other) n ≡ nat_lt 1 (count_below test n)
repeated test row n less passes =
    let others = count-without row test n less passes in
    any-same (λ other. not (other == row) && test other) (without row test) n (λ k. and_comm (not (k == row)) (test k))
    ∙ (any-count (without row test) n ∙ above (count_below (without row test) n) (count_below test n) others)
  where
    above : (c d : ℕ) → d ≡ c + 1 → nat_lt 0 c ≡ nat_lt 1 d
    above c d e = elim (cases_lt 0 c) [
      | inl some ↦ lt-ltb 0 c some ∙ sym (lt-ltb 1 d (omega (arith, e, some)))
      | inr none ↦ le-ltb 0 c none ∙ sym (le-ltb 1 d (omega (arith, e, none)))
    ]
