-- The first numbers: how a list of them is taken apart.
use Rattle.std.proofs.Common.{◌≡◌, ℕ, ◌+◌, ◌-◌, ◌<◌, [], ◌∷◌, ◌++◌, length, get_or, refl, ap, ◌∙◌, arith}
use Rattle.std.specs.List.{range_with_len}
use Rattle.std.proofs.lemmas.List.FromFn.{length-range_with_len, get_or-range_with_len}
use Rattle.sg_lists.proofs.Ranges.{range_with_len-append}
use Rattle.sg_streams.specs.Numbers.{numbers_below}

pub numbers_below-none : numbers_below 0 ≡ []
unfolding numbers_below
numbers_below-none = refl

-- one number more
pub numbers_below-push : (n : ℕ) → numbers_below (n + 1) ≡ numbers_below n ++ n ∷ []
unfolding numbers_below
numbers_below-push n = range_with_len-append 0 n 1 ∙ ap (λ m. range_with_len 0 n ++ m ∷ []) (omega arith)

-- the numbers below a higher number
pub numbers_below-append : (n more : ℕ) → numbers_below (n + more) ≡ numbers_below n ++ range_with_len n more
unfolding numbers_below
numbers_below-append n more = range_with_len-append 0 n more ∙ ap (λ m. range_with_len 0 n ++ range_with_len m more) (omega arith)

pub length-numbers_below : (n : ℕ) → length (numbers_below n) ≡ n
unfolding numbers_below
length-numbers_below n = length-range_with_len 0 n

pub get_or-numbers_below : (n k d : ℕ) → k < n → get_or (numbers_below n) k d ≡ k
unfolding numbers_below
get_or-numbers_below n k d less = get_or-range_with_len 0 n k d less ∙ omega arith
