-- The parts of a text that is cut at each byte of one value (for example words between spaces).
use Rattle.std.specs.Prelude.{ℕ, ◌==◌, List, [], Option, None, Some}
use Rattle.std.specs.List.{slice_split}

-- what stands between the separators
abbrev pub parts_of : ℕ → List ℕ → List (List ℕ)
parts_of separator text = slice_split (λ byte. byte == separator) text

-- the parts that are left, where there is a separator and more text behind it
abbrev pub parts_left : ℕ → Option (List ℕ) → List (List ℕ)
parts_left separator None = []
parts_left separator (Some text) = parts_of separator text
