-- A front of some bytes that were written, and one more piece behind it.
use Rattle.std.proofs.Common.{◌≡◌, ◌≤◌, ℕ, List, ◌++◌, length, take, slice_range, ap, ◌∙◌, append_assoc, take-append-drop, arith}
use Rattle.std.proofs.lemmas.Grind.{common_steps}

-- a piece of the rest, and what is left behind it, are the rest
pub parted : (rest : List ℕ) (count : ℕ) → count ≤ length rest → take count rest ++ slice_range rest count (length rest) ≡ rest
parted rest count fits = grind (arith, common_steps, take-append-drop count rest)

-- what was written, with that piece, and what is left are all the bytes
pub next_rest : (front rest bytes : List ℕ) (count : ℕ) → count ≤ length rest → front ++ rest ≡ bytes
    → (front ++ take count rest) ++ slice_range rest count (length rest) ≡ bytes
next_rest front rest bytes count fits is =
    append_assoc front (take count rest) (slice_range rest count (length rest)) ∙ ap (λ l. front ++ l) (parted rest count fits) ∙ is
