-- Lines that a tally has taken, up to the first that settled the answer.
use Rattle.std.specs.Prelude.{◌≡◌, ℕ, false, ◌⊎◌, List, ◌++◌}
use Rattle.sg_county.specs.Tally.{StandsFor, is_open}
use Rattle.sg_county.specs.declared.tally.Tally.{Tally}

-- the tally has taken all of the lines, or the first of them, and these settled the answer
pub record HasTakenFront (tally : Tally) (lines : List (List ℕ)) : Type 0 where
  pub front : List (List ℕ)
  pub rest : List (List ℕ)
  pub all : lines ≡ front ++ rest
  pub stands : StandsFor tally front
  pub over : is_open tally ≡ false

abbrev pub HasTakenLines : Tally → List (List ℕ) → Type 0
HasTakenLines tally lines = StandsFor tally lines ⊎ HasTakenFront tally lines
