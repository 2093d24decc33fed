-- Numbers: factors and bytes.
use Rattle.std.proofs.Common.{◌≡◌, ℕ, zero, suc, ◌*◌, ◌/◌, ◌^◌, ◌<◌, inl, inr, arith}
use Rattle.std.proofs.lemmas.Bool.{cases_lt}
use Rattle.std.proofs.lemmas.Nat.{mod_below}
use Rattle.std.specs.Int.{byte_at}

-- a product above a number has no factor of nothing
pub factor_above : (rows columns number : ℕ) → number < rows * columns → 0 < columns
factor_above rows columns number below =
    elim (cases_lt 0 columns) [
      | inl some ↦ some
      | inr none ↦ let no : columns ≡ 0 = omega arith in absurd (let less : number < rows * 0 = rw no at below in omega arith)
    ]

-- a byte of a number
pub byte_at_below : (k n : ℕ) → byte_at k n < 256
byte_at_below zero n = mod_below n 256 (omega arith)
byte_at_below (suc k) n = mod_below (n / 256 ^ suc k) 256 (omega arith)
