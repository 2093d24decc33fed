-- The first word of a text.
use Rattle.std.specs.Prelude.{ℕ, List, [], ◌∷◌}
use Rattle.sg_forms.specs.Reading.{words_in}

-- the first of these words
abbrev pub first_of : List (List ℕ) → List ℕ
first_of [] = []
first_of (word ∷ words) = word

-- what stands before the first space, or the whole text where it has none
abbrev pub first_in : List ℕ → List ℕ
first_in text = first_of (words_in text)
