-- What each statement does to a database that tells its rows.
use Rattle.std.specs.Prelude.{◌≡◌, ℕ, suc, Result, MatchResult}
use Rattle.sqlite.specs.Store.{Ghosts}
use Rattle.sqlite.specs.Held.{Held}
use Rattle.sqlite.specs.declared.error.Error.{Error}
use Rattle.sg_keeper.specs.declared.rows.Rows.{Rows}
use Rattle.sg_store.specs.Told.{HasTables, rows_in}

-- the statement makes the table of this turn, where it isn't there, and keeps all rows
abbrev pub Makes : {S : Type 0} → Ghosts S → ℕ → Held S → Held S → Result ℕ Error → Type 0
Makes g turn old new result = HasTables g turn old → MatchResult result (λ _. HasTables g (suc turn) new) (λ _. HasTables g turn new) × (rows_in g new ≡ rows_in g old)

-- all six tables are there at the end, or some, where a statement is refused
abbrev pub MakesAll : {S T : Type 0} → Ghosts S → Held S → Held S → Result T Error → Type 0
MakesAll g old new result = HasTables g 0 old → MatchResult result (λ _. HasTables g 6 new) (λ _. HasTables g 0 new) × (rows_in g new ≡ rows_in g old)

-- the statement, or the two of one transaction, change the rows so, which they do only where they fit; a refused one changes nothing
abbrev pub Changes : {S T : Type 0} → Ghosts S → (Rows → Type 0) → (Rows → Rows) → Held S → Held S → Result T Error → Type 0
Changes g Fits change old new result =
    HasTables g 6 old → HasTables g 6 new × MatchResult result (λ _. Fits (rows_in g old) × (rows_in g new ≡ change (rows_in g old))) (λ _. rows_in g new ≡ rows_in g old)

-- a selection leaves all as it was
abbrev pub Keeps : {S : Type 0} → Ghosts S → Held S → Held S → Type 0
Keeps g old new = HasTables g 6 old → HasTables g 6 new × (rows_in g new ≡ rows_in g old)
