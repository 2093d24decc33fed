-- How much of an input was taken, at most.
use Rattle.std.specs.Prelude.{ℕ, ◌≤◌, List, [], ◌∷◌, ◌++◌, length, Option}
use Rattle.std.specs.List.{concat}
use Rattle.std.specs.Io.KnownBytes.{Consumes}
use Rattle.sg_plan.specs.Limits.{longest_ask}

-- at most so many bytes were taken
pub record TookAtMost (limit : ℕ) (before now : Option (List ℕ)) : Type 0 where
  pub bytes : List ℕ
  pub taken : Consumes before now bytes
  pub few : length bytes ≤ limit

-- none of these lines is longer than an ask may be
abbrev pub AreShort : List (List ℕ) → Type 0
AreShort [] = Unit {0}
AreShort (line ∷ lines) = (length line ≤ longest_ask) × AreShort lines

-- these lines were taken, none of them longer than an ask may be, and behind them at most as many bytes as one ask has
pub record TookLines (lines : List (List ℕ)) (before now : Option (List ℕ)) : Type 0 where
  pub rest : List ℕ
  pub short : AreShort lines
  pub taken : Consumes before now (concat lines ++ rest)
  pub few : length rest ≤ longest_ask
