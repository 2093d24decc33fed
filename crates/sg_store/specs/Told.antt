-- The office's rows in a database, and when a keeper over it tells them.
use Rattle.std.specs.Prelude.{◌≡◌, ℕ, ◌≤◌, ℤ, false, List, [], map, fold, length, nat_lt, if◌then◌else◌, slice_get, option_map, IsTrue, Bool}
use Rattle.sqlite.specs.declared.types.Value.{Value}
use Rattle.sqlite.specs.declared.types.Value.TheVariants.{Null, Int, Real, Text, Blob}
use Rattle.sqlite.specs.Order.{Row, column}
use Rattle.sqlite.specs.Store.{Ghosts}
use Rattle.sqlite.specs.Schema.{Schema}
use Rattle.sqlite.specs.Effect.{Database, IsDatabase}
use Rattle.sqlite.specs.State.{HasCleanDisk}
use Rattle.sqlite.specs.Held.{Held, state}
use Rattle.sqlite_trees.specs.View.{IsOrdered}
use Rattle.sqlite_trees.specs.Objects.{catalog_tree, IsListed}
use Rattle.sqlite_rules.specs.Edit.{id_in}
use Rattle.sg_keeper.specs.declared.rows.BallotRow.{BallotRow}
use Rattle.sg_keeper.specs.declared.rows.StageRow.{StageRow}
use Rattle.sg_keeper.specs.declared.rows.ClaimRow.{ClaimRow}
use Rattle.sg_keeper.specs.declared.rows.VoidRow.{VoidRow}
use Rattle.sg_keeper.specs.declared.rows.DoneRow.{DoneRow}
use Rattle.sg_keeper.specs.declared.rows.Rows.{Rows}
use Rattle.sg_keeper.specs.Rows.{put, done_before}
use Rattle.sg_store.specs.Tables.{schema_of}

-- WHAT A ROW OF A TABLE STANDS FOR
-- A tree keeps a row as its rowid, and then its columns. The column that is the rowid itself is empty in its place.

-- the text in a value, and none in a value of another type
abbrev pub text_in : Value → List ℕ
text_in Null = []
text_in (Int n) = []
text_in (Real x) = []
text_in (Text t) = t
text_in (Blob b) = []

-- the integer at a place of the row
abbrev pub whole_at : Row → ℕ → ℤ
whole_at row at = id_in (column row at)

-- the text at a place of the row
abbrev pub text_at : Row → ℕ → List ℕ
text_at row at = text_in (column row at)

-- a row of the table ballot: its number, its fate and its detail
abbrev pub ballot_of : Row → BallotRow
ballot_of row = record { ballot = whole_at row 0; fate = whole_at row 2; detail = text_at row 3 }

-- a row of the table stage: its step and its detail
abbrev pub stage_of : Row → StageRow
stage_of row = record { step = whole_at row 0; detail = text_at row 2 }

-- a row of the table claim: its number, its ballot, its race and its code
abbrev pub claim_of : Row → ClaimRow
claim_of row = record { claim = whole_at row 0; ballot = whole_at row 2; race = whole_at row 3; code = whole_at row 4 }

-- a row of the table voided: its number
abbrev pub void_of : Row → VoidRow
void_of row = record { ballot = whole_at row 0 }

-- a row of the table done: its station, its number and its act
abbrev pub done_of : Row → DoneRow
done_of row = record { station = whole_at row 1; number = whole_at row 2; act = text_at row 3 }

-- THE ROWS OF A DATABASE

-- the rows of the table that is made in this turn and has this tree; a table that is not there has none
abbrev pub rows_at : ℕ → ℕ → Database → List Row
rows_at turn tree db = if nat_lt turn (length db.schema.tables) then db.trees tree else []

-- the rows put in their places, one after another
abbrev pub in_place : {A : Type 0} → (A → A → Bool) → List A → List A
in_place before = fold (λ rows row. put before row rows) []

-- the office's rows in the database; the table done keeps its rows in the order in which they came
abbrev pub rows_of : Database → Rows
rows_of db = record {
  setup = option_map (λ row. text_at row 2) (slice_get (rows_at 0 0 db) 0);
  ballots = map ballot_of (rows_at 1 1 db);
  stages = map stage_of (rows_at 2 2 db);
  claims = map claim_of (rows_at 3 3 db);
  voids = map void_of (rows_at 5 6 db);
  dones = in_place done_before (map done_of (rows_at 4 4 db));
}

-- the office's rows in the database that the connection holds
abbrev pub rows_in : {S : Type 0} → Ghosts S → Held S → Rows
rows_in g held = rows_of (state g held).now

-- WHEN THEY ARE TOLD

-- each state of this type of store is clean and open, and keeps its trees in order
pub record IsSure {S : Type 0} (g : Ghosts S) : Type 0 where
  pub clean : (held : Held S) → HasCleanDisk (state g held)
  pub stands : (held : Held S) → IsTrue (state g held).is_open
  pub ordered : (s : S) → IsOrdered (g.view s).shape (g.view s).trees
  pub listed : (s : S) → IsListed ((g.view s).trees catalog_tree) (g.view s).shape (g.view s).reals

-- the first so many of the six tables are there, at least, and no others; all is committed, and no transaction is open
pub record HasTables {S : Type 0} (g : Ghosts S) (least : ℕ) (held : Held S) : Type 0 where
  pub sure : IsSure g
  pub count : ℕ
  pub low : least ≤ count
  pub high : count ≤ 6
  pub schema : held.schema ≡ schema_of count
  pub settled : held.in_transaction ≡ false
  pub same : (state g held).now ≡ (state g held).committed
  pub sound : IsDatabase (state g held).now

-- a keeper tells its rows: the six tables are there, where it has made them, and else the first few or none
abbrev pub KeeperTells : {S : Type 0} → Ghosts S → Bool → Held S → Type 0
KeeperTells g has_tables held = HasTables g (if has_tables then 6 else 0) held

-- the tables are the first so many of the six, and no others
abbrev pub IsOurs : Schema → Type 0
IsOurs schema = (count : ℕ) × (count ≤ 6) × (schema ≡ schema_of count)
