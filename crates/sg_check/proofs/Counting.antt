-- Counting by two one-to-one maps.
use Rattle.std.proofs.Common.{◌≡◌, ℕ, zero, suc, ◌+◌, ◌<◌, ◌≤◌, ◌==◌, Bool, true, false, ◌&&◌, ◌||◌, inl, inr, not, refl, ap, arith}
use Rattle.std.proofs.lemmas.Bool.{and_parts, cases_Bool, cases_eq, eq-eqb, ne_eqb}
use Rattle.sg_lists.proofs.Bools.{one_if}
use Rattle.sg_check.specs.Printings.{count_below}

-- tests that agree below n count the same
pub count-same : (p q : ℕ → Bool) (n : ℕ) → ((k : ℕ) → k < n → p k ≡ q k) → count_below p n ≡ count_below q n
count-same p q zero same = refl
count-same p q (suc n) same = omega (arith, count-same p q n (λ k below. same k (omega arith)), ap (λ (b : Bool). one_if b) (same n (omega arith)))

-- some of the numbers pass, and the others don't
pub count-not : (p : ℕ → Bool) (n : ℕ) → count_below p n + count_below (λ k. not (p k)) n ≡ n
count-not p zero = refl
count-not p (suc n) = omega (arith, count-not p n, here (p n))
  where
    here : (b : Bool) → one_if b + one_if (not b) ≡ 1
    here true = refl
    here false = refl

-- what passes one test passes another or does not
count-split : (g p : ℕ → Bool) (n : ℕ) → count_below g n ≡ count_below (λ k. g k && p k) n + count_below (λ k. g k && not (p k)) n
count-split g p zero = refl
count-split g p (suc n) = omega (arith, count-split g p n, here (g n) (p n))
  where
    here : (a b : Bool) → one_if a ≡ one_if (a && b) + one_if (a && not b)
    here true true = refl
    here true false = refl
    here false b = refl

-- the test without one number
abbrev pub without : ℕ → (ℕ → Bool) → ℕ → Bool
without x p k = p k && not (k == x)

keeps_other : (a b : Bool) → b ≡ false → a ≡ (a && not b)
keeps_other true b e = rw e refl
keeps_other false b e = refl

without-other : (x : ℕ) (p : ℕ → Bool) (k : ℕ) → (k ≡ x → ⊥) → p k ≡ without x p k
without-other x p k other = keeps_other (p k) (k == x) (ne_eqb k x other)

pub count-without : (x : ℕ) (p : ℕ → Bool) (n : ℕ) → x < n → p x ≡ true → count_below p n ≡ count_below (without x p) n + 1
count-without x p zero below e = absurd (omega arith)
count-without x p (suc n) below e = elim (cases_eq n x) [
  | inl same ↦ omega (arith, count-same p (without x p) n (λ k less. without-other x p k (λ at. omega (arith, same, less, at))), taken n same)
  | inr other ↦ omega (arith, count-without x p n (omega (arith, other)) e, ap (λ (b : Bool). one_if b) (without-other x p n other))
]
  where
    taken : (k : ℕ) → k ≡ x → one_if (p k) ≡ one_if (without x p k) + 1
    taken k same = rw (same, e, eq-eqb x x refl) refl

under : (b x y : Bool) → (b ≡ true → x ≡ y) → (b && x) ≡ (b && y)
under true x y same = same refl
under false x y same = refl

-- rows that pass and lead to different numbers below m are no more than those numbers
pub count-into : (g : ℕ → Bool) (f : ℕ → ℕ) (m : ℕ) (p : ℕ → Bool) (n : ℕ)
    → ((k : ℕ) → k < n → g k ≡ true → f k < m)
    → ((k j : ℕ) → k < n → j < n → g k ≡ true → g j ≡ true → f k ≡ f j → k ≡ j)
    → count_below (λ k. g k && p (f k)) n ≤ count_below p m
count-into g f m p zero below one = omega arith
count-into g f m p (suc n) below one = elim (cases_Bool (g n && p (f n))) [
  | inl passes ↦
      let parts = and_parts (g n) (p (f n)) passes in
      let rest = count-into g f m (without (f n) p) n (λ k less. below k (omega arith)) (λ k j a b. one k j (omega arith) (omega arith)) in
      let fewer = count-without (f n) p m (below n (omega arith) parts.0) parts.1 in
      let same = count-same (λ k. g k && p (f k)) (λ k. g k && without (f n) p (f k)) n (λ k less. others k less parts.0) in
      omega (arith, rest, fewer, same, ap (λ (b : Bool). one_if b) passes)
  | inr fails ↦ omega (arith, count-into g f m p n (λ k less. below k (omega arith)) (λ k j a b. one k j (omega arith) (omega arith)), ap (λ (b : Bool). one_if b) fails)
]
  where
    others : (k : ℕ) → k < n → g n ≡ true → (g k && p (f k)) ≡ (g k && without (f n) p (f k))
    others k less good = under (g k) (p (f k)) (without (f n) p (f k)) (λ has. without-other (f n) p (f k) (λ at. omega (arith, less, one k n (omega arith) (omega arith) has good at)))

-- rows that are good lead to different numbers below n
pub record IsOneToOne (good : ℕ → Bool) (to : ℕ → ℕ) (n : ℕ) : Type 0 where
  pub below : (row : ℕ) → row < n → good row ≡ true → to row < n
  pub one : (row other : ℕ) → row < n → other < n → good row ≡ true → good other ≡ true → to row ≡ to other → row ≡ other

-- by two one-to-one maps of the good rows: where a row's first number counts just where its second does, as many numbers
-- count by the second as by the first, and at most one more for each row that is not good
pub counts_within : (n : ℕ) (good first second : ℕ → Bool) (to on : ℕ → ℕ) → IsOneToOne good to n → IsOneToOne good on n
    → ((row : ℕ) → row < n → good row ≡ true → first (to row) ≡ second (on row)) → count_below second n ≤ count_below first n + count_below (λ row. not (good row)) n
counts_within n good first second to on ones twos agree =
    let missed = count-into good on n (λ k. not (second k)) n twos.below twos.one in
    let found = count-into good to n first n ones.below ones.one in
    let same = count-same (λ k. good k && first (to k)) (λ k. good k && second (on k)) n (λ k less. under (good k) (first (to k)) (second (on k)) (agree k less)) in
    omega (arith, missed, found, same, count-not second n, count-not good n, count-split good (λ k. second (on k)) n)

-- none passes
pub count-none : (p : ℕ → Bool) (n : ℕ) → ((k : ℕ) → k < n → p k ≡ false) → count_below p n ≡ 0
count-none p zero none = refl
count-none p (suc n) none = omega (arith, count-none p n (λ k less. none k (omega arith)), ap (λ (b : Bool). one_if b) (none n (omega arith)))

-- the numbers that pass one of two tests, where none passes both
pub count-or : (p q : ℕ → Bool) (n : ℕ) → ((k : ℕ) → k < n → p k ≡ true → q k ≡ false) → count_below (λ k. p k || q k) n ≡ count_below p n + count_below q n
count-or p q zero apart = refl
count-or p q (suc n) apart = omega (arith, count-or p q n (λ k less. apart k (omega arith)), here (p n) (q n) (apart n (omega arith)))
  where
    here : (a b : Bool) → (a ≡ true → b ≡ false) → one_if (a || b) ≡ one_if a + one_if b
    here true b other = rw (other refl) refl
    here false b other = omega arith

-- two tests that differ at one number only, which doesn't pass the second
pub count-one_more : (p q : ℕ → Bool) (x n : ℕ) → x < n → q x ≡ false → ((k : ℕ) → (k ≡ x → ⊥) → p k ≡ q k) → count_below p n ≡ count_below q n + one_if (p x)
count-one_more p q x zero below none same = absurd (omega arith)
count-one_more p q x (suc n) below none same = elim (cases_eq n x) [
  | inl is ↦ omega (arith, count-same p q n (λ k less. same k (λ at. omega (arith, is, less, at))), ap (λ (k : ℕ). one_if (p k)) is, ap (λ (k : ℕ). one_if (q k)) is, ap (λ (b : Bool). one_if b) none)
  | inr other ↦ omega (arith, count-one_more p q x n (omega (arith, other)) none same, ap (λ (b : Bool). one_if b) (same n other))
]
