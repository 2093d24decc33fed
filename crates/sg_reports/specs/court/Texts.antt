-- Lines of numbers, and those of altered rows (this project's formats).
use Rattle.std.specs.Prelude.{ℕ, ◌+◌, List, [], ◌∷◌, ◌++◌, length, codes, decimal}

-- each number behind a space
abbrev pub numbers_text : List ℕ → List ℕ
numbers_text [] = []
numbers_text (number ∷ numbers) = 32 ∷ decimal number ++ numbers_text numbers

-- a word, and numbers behind it
abbrev pub numbers_line : List ℕ → List ℕ → List ℕ
numbers_line word numbers = word ++ numbers_text numbers ++ 10 ∷ []

-- `row RACE INSTANCE ROW`, for each row
abbrev pub rows_text : ℕ → ℕ → List ℕ → List ℕ
rows_text race instance [] = []
rows_text race instance (row ∷ rows) = numbers_line (codes "row") (race ∷ instance ∷ row ∷ []) ++ rows_text race instance rows

-- `altered RACE INSTANCE COUNT`, and then those rows
abbrev pub instance_text : ℕ → ℕ → List ℕ → List ℕ
instance_text race instance rows = numbers_line (codes "altered") (race ∷ instance ∷ length rows ∷ []) ++ rows_text race instance rows

-- this for each instance of a race, from one on
abbrev pub instances_text : ℕ → ℕ → List (List ℕ) → List ℕ
instances_text race instance [] = []
instances_text race instance (rows ∷ lists) = instance_text race instance rows ++ instances_text race (instance + 1) lists

-- for each race, from one on
abbrev pub altered_text : ℕ → List (List (List ℕ)) → List ℕ
altered_text race [] = []
altered_text race (lists ∷ all) = instances_text race 0 lists ++ altered_text (race + 1) all
