-- Tests that one of the first numbers passes, and sums to which one of them adds.
use Rattle.std.proofs.Common.{◌≡◌, ◌≢◌, ℕ, zero, suc, ◌+◌, ◌<◌, Bool, true, false, ◌||◌, [], ◌∷◌, refl, ap, ◌∙◌, arith}
use Rattle.std.proofs.Math.Bool.{or-false}
use Rattle.std.specs.List.{list_any, range_with_len}
use Rattle.std.specs.Prelude.{sum_by}
use Rattle.sg_lists.proofs.Any.{NumberPasses, none-range, number-range, range-number}
use Rattle.sg_lists.proofs.Sums.{sum-only}
use Rattle.sg_streams.specs.Numbers.{numbers_below}
use Rattle.sg_grammar.specs.Due.{numbered}
use Rattle.sg_check.proofs.Fronts.{any-at}

pub any-number_found : (p : ℕ → Bool) (count : ℕ) → list_any p (numbers_below count) ≡ true → NumberPasses p count
unfolding numbers_below
any-number_found p count e = let found = range-number p 0 count e in record { number = found.number; within = omega (arith, found.within); passes = found.passes }

pub number-any : (p : ℕ → Bool) (count number : ℕ) → number < count → p number ≡ true → list_any p (numbers_below count) ≡ true
unfolding numbers_below
number-any p count number within passes = number-range p 0 count number (omega arith) (omega (arith, within)) passes

pub none-below : (p : ℕ → Bool) (count : ℕ) → ((k : ℕ) → k < count → p k ≡ false) → list_any p (numbers_below count) ≡ false
unfolding numbers_below
none-below p count none = none-range p 0 count (λ k below. none k (omega (arith, below)))

-- one number of many passes, or none
any-range : (test : ℕ → Bool) (at count : ℕ) → list_any test (range_with_len at count) ≡ list_any test (numbered (λ k. k ∷ []) at count)
unfolding numbered
any-range test at zero = refl
any-range test at (suc count) = ap (λ (b : Bool). test at || b) (any-range test (at + 1) count)

pub any-number : (test : ℕ → Bool) (count number : ℕ) → number < count → ((k : ℕ) → k < count → k ≢ number → test k ≡ false) → list_any test (numbers_below count) ≡ test number
unfolding numbers_below
any-number test count number below others =
    any-range test 0 count
    ∙ (any-at test (λ k. k ∷ []) 0 count number (omega arith) (omega (arith, below)) (λ k after before other. ap (λ (b : Bool). b || false) (others k (omega (arith, before)) other))
    ∙ or-false (test number))

-- only this number counts
pub sum-number : (g : ℕ → ℕ) (count number : ℕ) → number < count → ((k : ℕ) → k < count → k ≢ number → g k ≡ 0) → sum_by g (numbers_below count) ≡ g number
unfolding numbers_below
sum-number g count number within none = sum-only g 0 count number (omega arith) (omega (arith, within)) (λ k a b other. none k (omega (arith, b)) other)
