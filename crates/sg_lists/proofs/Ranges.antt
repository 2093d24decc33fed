-- The numbers of a range: how a list of them is taken apart.
use Rattle.std.proofs.Common.{◌≡◌, ℕ, zero, suc, ◌+◌, ◌-◌, ◌<◌, ◌∷◌, ◌++◌, ap, ◌∙◌, arith}
use Rattle.std.specs.List.{range_with_len}

-- the first of the numbers, where there are some
pub range_with_len-next : (first count : ℕ) → 0 < count → range_with_len first count ≡ first ∷ range_with_len (first + 1) (count - 1)
range_with_len-next first zero some = absurd (omega arith)
range_with_len-next first (suc count) some = ap (λ n. first ∷ range_with_len (first + 1) n) (omega arith)

-- two ranges in a row
pub range_with_len-append : (first count more : ℕ) → range_with_len first (count + more) ≡ range_with_len first count ++ range_with_len (first + count) more
range_with_len-append first zero more =
    let whole : zero + more ≡ more = omega arith in
    let start : first ≡ first + 0 = omega arith in
    ap (λ n. range_with_len first n) whole ∙ ap (λ n. range_with_len n more) start
range_with_len-append first (suc count) more =
    let whole : suc count + more ≡ suc (count + more) = omega arith in
    let start : first + 1 + count ≡ first + suc count = omega arith in
    ap (λ n. range_with_len first n) whole
    ∙ ap (λ l. first ∷ l) (range_with_len-append (first + 1) count more ∙ ap (λ n. range_with_len (first + 1) count ++ range_with_len n more) start)
