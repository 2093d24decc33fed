-- Lines of bytes. A line ends with a line feed, the byte 10 of ASCII.
use Rattle.std.specs.Prelude.{◌≡◌, ◌≢◌, ℕ, ◌==◌, List, [], ◌∷◌, cond}

-- no byte is a line feed
abbrev pub HasNoFeed : List ℕ → Type 0
HasNoFeed [] = Unit {0}
HasNoFeed (x ∷ xs) = (x ≢ 10) × HasNoFeed xs

-- the last byte is a line feed, and no other is
abbrev pub IsLine : List ℕ → Type 0
IsLine [] = ⊥
IsLine (x ∷ []) = x ≡ 10
IsLine (x ∷ y ∷ ys) = (x ≢ 10) × IsLine (y ∷ ys)

-- each is a line with its line feed
abbrev pub AreLines : List (List ℕ) → Type 0
AreLines [] = Unit {0}
AreLines (line ∷ lines) = IsLine line × AreLines lines

-- the byte at the front of the first line
abbrev pub onto_first : ℕ → List (List ℕ) → List (List ℕ)
onto_first x [] = (x ∷ []) ∷ []
onto_first x (line ∷ lines) = (x ∷ line) ∷ lines

-- A line ends at each line feed. Bytes after the last one are a line of their own.
abbrev pub lines_of : List ℕ → List (List ℕ)
lines_of [] = []
lines_of (x ∷ xs) = cond (x == 10) ((x ∷ []) ∷ lines_of xs) (onto_first x (lines_of xs))
