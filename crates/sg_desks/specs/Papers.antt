-- Whether two papers have the same codes (this project's rules for the office).
use Rattle.std.specs.Prelude.{ℕ, Bool, true, false, ◌&&◌, List, [], ◌∷◌, bytes_eq}

-- the two papers have the same codes
abbrev pub same_paper : List (List ℕ) → List (List ℕ) → Bool
same_paper [] [] = true
same_paper [] (list ∷ paper) = false
same_paper (list ∷ paper) [] = false
same_paper (list ∷ paper) (other ∷ more) = bytes_eq list other && same_paper paper more
