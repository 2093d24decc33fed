-- Where a walk over the openings of rows has come to.
use Rattle.std.specs.Prelude.{ℕ, List, ◌≡◌}
use Rattle.sg_streams.specs.CoinSides.{CoinPlace}
use Rattle.sg_tables.specs.Tables.{MadeFrom, RowWalk}

-- a walk that has come to a row
abbrev pub row_walk : MadeFrom → ℕ → ℕ → ℕ → RowWalk
row_walk tables race instance row = record { plan = tables.plan; seed = tables.seed; race = race; instance = instance; row = row }

-- and the coins of the seed `key` at the same row
abbrev pub AreDrawn : MadeFrom → List ℕ → ℕ → ℕ → ℕ → RowWalk → CoinPlace → Type 0
AreDrawn tables key race instance row openings coins =
    (openings ≡ row_walk tables race instance row) × (coins ≡ record { seed = key; race = race; instance = instance; row = row })
