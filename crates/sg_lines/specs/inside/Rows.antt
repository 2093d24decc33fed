-- A row of hexadecimal digits, by the values of its digits.
use Rattle.std.specs.Prelude.{◌≡◌, ℕ, ◌+◌, ◌*◌, ◌/◌, ◌%◌, ◌<◌, List, [], ◌∷◌, slice_index}
use Rattle.hex.specs.Hex.{lower_digits}

-- each byte of a word is the digit of its value
abbrev pub AreValues : List ℕ → List ℕ → Type 0
AreValues [] [] = Unit {0}
AreValues [] (value ∷ values) = ⊥
AreValues (digit ∷ word) [] = ⊥
AreValues (digit ∷ word) (value ∷ values) = (value < 16) × (digit ≡ slice_index lower_digits value) × AreValues word values

-- each two values as one number, the first of them low
abbrev pub paired : List ℕ → List ℕ
paired [] = []
paired (value ∷ []) = []
paired (high ∷ low ∷ values) = (high + 256 * low) ∷ paired values

-- the byte of a pair, the first value high
abbrev pub joined : ℕ → ℕ
joined pair = (pair % 256 * 16 + pair / 256) % 256
