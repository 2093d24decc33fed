-- What the statements that make the tables mean.
use Rattle.std.proofs.Common.{◌≡◌, ℕ, suc, ◌<◌, nat_lt, Bool, true, false, if◌then◌else◌, List, [], ◌∷◌, ◌++◌, take, drop, codes, Ok, refl, sym, ap, subst, ◌∙◌, arith}
use Rattle.std.proofs.lemmas.List.{take-append-drop, take-take}
use Rattle.std.specs.Fmt.{digits}
use Rattle.sqlite_tied.specs.Compute.{everything}
use Rattle.sqlite_schema.specs.declared.schema.Index.{Index}
use Rattle.sqlite.specs.Command.TheVariants.{CreateTable, Nothing}
use Rattle.sqlite.specs.Compile.{table_defined_by}
use Rattle.sqlite.specs.Change.{created}
use Rattle.sqlite.specs.Does.{lacks_sequence}
use Rattle.sqlite.specs.Listing.{understood}
use Rattle.sqlite.specs.Schema.{Schema}
use Rattle.sqlite.specs.Table.{Table}
use Rattle.sqlite.proofs.Callers.{statement_of}
use Rattle.sg_store.specs.Tables.{setup, ballot, stage, claim, done, voided, done_index, schema_of}
use Rattle.sg_store.proofs.Meaning.{Means}

-- the schema has the tables up to that of this turn, and perhaps more behind them
abbrev pub schema_past : ℕ → List Table → List Index → Schema
schema_past turn more indexes = record { tables = take (suc turn) (setup ∷ ballot ∷ stage ∷ claim ∷ done ∷ voided ∷ []) ++ more; indexes = indexes; views = [] }

-- The text makes the table of its turn, where those before it are there, and does nothing where it is there.
pub record Creates (turn : ℕ) (text : List ℕ) (table : Table) : Type 0 where
  pub defined : table_defined_by text ≡ Ok (record table { tree = 0 })
  pub made : created (schema_of turn) (record table { tree = 0 }) ≡ schema_of (suc turn)
  pub uncounted : lacks_sequence (schema_of (suc turn)) ≡ false
  pub makes : Means (schema_of turn) text CreateTable
  pub whole : statement_of text (understood (schema_of turn) text) ≡ text
  pub stays : (more : List Table) → Means (schema_past turn more []) text Nothing
  pub stays_indexed : (more : List Table) → Means (schema_past turn more (done_index ∷ [])) text Nothing

-- so it does nothing in each schema with more of the six tables
pub stays_behind : (turn : ℕ) (text : List ℕ) (table : Table) → Creates turn text table → (count : ℕ) → turn < count → Means (schema_of count) text Nothing
stays_behind turn text table known count low = subst (λ l. Means (record { tables = l; indexes = (if nat_lt 4 count then done_index ∷ [] else []); views = [] }) text Nothing) tables (either (nat_lt 4 count))
  where
    six : List Table
    six = setup ∷ ballot ∷ stage ∷ claim ∷ done ∷ voided ∷ []

    more : List Table
    more = drop (suc turn) (take count six)

    tables : take (suc turn) six ++ more ≡ take count six
    tables = ap (λ l. l ++ more) (sym (take-take (suc turn) count six (omega (arith, low)))) ∙ take-append-drop (suc turn) (take count six)

    either : (b : Bool) → Means (schema_past turn more (if b then done_index ∷ [] else [])) text Nothing
    either true = known.stays_indexed more
    either false = known.stays more

abbrev pub create_setup : List ℕ
create_setup = codes "CREATE TABLE IF NOT EXISTS setup (id INTEGER PRIMARY KEY CHECK (id = 1), body TEXT NOT NULL) STRICT"

pub creates_setup : Creates 0 create_setup setup
unfolding understood everything
creates_setup =
    record { defined = refl; made = refl; uncounted = refl; makes = record { is = refl; plain = (refl, refl) }; whole = refl; stays = λ more. record { is = refl; plain = (refl, refl) }; stays_indexed = λ more. record { is = refl; plain = (refl, refl) } }

abbrev pub create_ballot : List ℕ
create_ballot = codes "CREATE TABLE IF NOT EXISTS ballot (number INTEGER PRIMARY KEY, fate INTEGER NOT NULL, detail TEXT NOT NULL) STRICT"

pub creates_ballot : Creates 1 create_ballot ballot
unfolding understood everything
creates_ballot =
    record { defined = refl; made = refl; uncounted = refl; makes = record { is = refl; plain = (refl, refl) }; whole = refl; stays = λ more. record { is = refl; plain = (refl, refl) }; stays_indexed = λ more. record { is = refl; plain = (refl, refl) } }

abbrev pub create_stage : List ℕ
create_stage = codes "CREATE TABLE IF NOT EXISTS stage (step INTEGER PRIMARY KEY, detail TEXT NOT NULL) STRICT"

pub creates_stage : Creates 2 create_stage stage
unfolding understood everything
creates_stage =
    record { defined = refl; made = refl; uncounted = refl; makes = record { is = refl; plain = (refl, refl) }; whole = refl; stays = λ more. record { is = refl; plain = (refl, refl) }; stays_indexed = λ more. record { is = refl; plain = (refl, refl) } }

abbrev pub create_claim : List ℕ
create_claim = codes "CREATE TABLE IF NOT EXISTS claim (number INTEGER PRIMARY KEY, ballot INTEGER NOT NULL, race INTEGER NOT NULL, code INTEGER NOT NULL) STRICT"

pub creates_claim : Creates 3 create_claim claim
unfolding understood everything
creates_claim =
    record { defined = refl; made = refl; uncounted = refl; makes = record { is = refl; plain = (refl, refl) }; whole = refl; stays = λ more. record { is = refl; plain = (refl, refl) }; stays_indexed = λ more. record { is = refl; plain = (refl, refl) } }

abbrev pub create_done : List ℕ
create_done = codes "CREATE TABLE IF NOT EXISTS done (station INTEGER NOT NULL, number INTEGER NOT NULL, act TEXT NOT NULL, PRIMARY KEY (station, number)) STRICT"

pub creates_done : Creates 4 create_done done
unfolding understood everything digits
creates_done =
    record { defined = refl; made = refl; uncounted = refl; makes = record { is = refl; plain = (refl, refl) }; whole = refl; stays = λ more. record { is = refl; plain = (refl, refl) }; stays_indexed = λ more. record { is = refl; plain = (refl, refl) } }

abbrev pub create_voided : List ℕ
create_voided = codes "CREATE TABLE IF NOT EXISTS voided (number INTEGER PRIMARY KEY) STRICT"

pub creates_voided : Creates 5 create_voided voided
unfolding understood everything
creates_voided =
    record { defined = refl; made = refl; uncounted = refl; makes = record { is = refl; plain = (refl, refl) }; whole = refl; stays = λ more. record { is = refl; plain = (refl, refl) }; stays_indexed = λ more. record { is = refl; plain = (refl, refl) } }
