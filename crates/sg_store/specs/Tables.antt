-- The six tables of the office, as the schema holds them.
use Rattle.std.specs.Prelude.{ℕ, nat_lt, true, false, Bool, List, [], ◌∷◌, take, codes, Some, None, if◌then◌else◌, pos}
use Rattle.sqlite.specs.declared.types.Value.TheVariants.{Null, Int}
use Rattle.sqlite.specs.Collation.TheVariants.{Binary}
use Rattle.sqlite.specs.Kind.TheVariants.{Integer, Text}
use Rattle.sqlite.specs.Schema.{Schema}
use Rattle.sqlite.specs.Table.{Table}
use Rattle.sqlite.specs.Term.{Term, lit, col, op2}
use Rattle.sqlite_schema.specs.declared.schema.Column.{Column}
use Rattle.sqlite_schema.specs.declared.schema.Index.{Index}
use Rattle.sqlite_sql.specs.declared.ops.BinaryOp.TheVariants.{Compare}
use Rattle.sqlite_sql.specs.declared.ops.CompareOp.TheVariants.{Eq}

abbrev pub whole : List ℕ → Bool → Column
whole name needed = record { name = name; kind = Integer; is_strict = true; not_null = needed; default = Null; collation = Binary }

abbrev pub words : List ℕ → Column
words name = record { name = name; kind = Text; is_strict = true; not_null = true; default = Null; collation = Binary }

-- a table whose first column is its INTEGER PRIMARY KEY
abbrev pub keyed : List ℕ → ℕ → List Column → List Term → Table
keyed name tree columns checks = record {
  name = name;
  tree = tree;
  columns = columns;
  key = Some 0;
  primary = 0 ∷ [];
  uniques = [];
  orders = [];
  checks = checks;
  references = [];
  computed = [];
  stamps = record { places = []; terms = []; formats = [] };
  is_counted = false;
}

abbrev pub setup : Table
setup = keyed (codes "setup") 0 (whole (codes "id") false ∷ words (codes "body") ∷ []) (op2 (Compare Eq Binary) (col 1 0) (lit (Int (pos 1))) ∷ [])

abbrev pub ballot : Table
ballot = keyed (codes "ballot") 1 (whole (codes "number") false ∷ whole (codes "fate") true ∷ words (codes "detail") ∷ []) []

abbrev pub stage : Table
stage = keyed (codes "stage") 2 (whole (codes "step") false ∷ words (codes "detail") ∷ []) []

abbrev pub claim : Table
claim = keyed (codes "claim") 3 (whole (codes "number") false ∷ whole (codes "ballot") true ∷ whole (codes "race") true ∷ whole (codes "code") true ∷ []) []

-- its key is no rowid, so it has an index, and its rows have rowids of their own
abbrev pub done : Table
done = record (keyed (codes "done") 4 (whole (codes "station") true ∷ whole (codes "number") true ∷ words (codes "act") ∷ []) []) {
  key = None;
  primary = 1 ∷ 2 ∷ [];
  uniques = (1 ∷ 2 ∷ []) ∷ [];
  orders = (record { digits = 0 }) ∷ [];
}

abbrev pub voided : Table
voided = keyed (codes "voided") 6 (whole (codes "number") false ∷ []) []

abbrev pub done_index : Index
done_index = record { name = codes "sqlite_autoindex_done_1"; tree = 5; table = 4; columns = 1 ∷ 2 ∷ []; order = record { digits = 0 }; is_unique = true }

-- the schema with the first so many of the six tables
abbrev pub schema_of : ℕ → Schema
schema_of count = record { tables = take count (setup ∷ ballot ∷ stage ∷ claim ∷ done ∷ voided ∷ []); indexes = (if nat_lt 4 count then done_index ∷ [] else []); views = [] }
