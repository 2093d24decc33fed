-- What each insert does to the trees.
use Rattle.std.proofs.Common.{◌≡◌, ◌⊎◌, inl, inr, ℕ, ◌/◌, ℤ, pos, List, [], ◌∷◌, length, slice_get, false, if◌then◌else◌, None, Some, Ok, Err, Result, refl, sym, ap, subst, ◌∙◌}
use Rattle.sqlite.specs.declared.types.Value.TheVariants.{Null, Int, Text}
use Rattle.sqlite.specs.Order.{Row}
use Rattle.sqlite.specs.Ops.{unary}
use Rattle.sqlite.specs.Table.{Table}
use Rattle.sqlite.specs.Term.{Term}
use Rattle.sqlite.specs.Tree.{Trees}
use Rattle.sqlite.specs.Kind.TheVariants.{Integer}
use Rattle.sqlite.specs.Source.TheVariants.{Values}
use Rattle.sqlite.specs.Command.TheVariants.{Insert}
use Rattle.sqlite.specs.Edit.{Edit, edit_of, next_rowid, Applies}
use Rattle.sqlite.specs.Cast.{cast}
use Rattle.sqlite.specs.Rowids.TheVariants.{Chosen}
use Rattle.sqlite_schema.specs.declared.schema.Keys.TheVariants.{Enforced}
use Rattle.sqlite.specs.Does.{Tally, Does, AtPlace, OnRows}
use Rattle.sqlite.specs.Rows.{Written, stamped}
use Rattle.sqlite.specs.Listing.{understood}
use Rattle.sqlite.specs.Effect.{Database, IsDatabase, value_rows}
use Rattle.sqlite.specs.State.{State, mode_of, Executes}
use Rattle.sqlite.proofs.Callers.{statement_of, runs_as, one_step}
use Rattle.sg_lists.proofs.Bools.{cond_same}
use Rattle.sg_keeper.specs.declared.rows.ChangeRow.{ChangeRow}
use Rattle.sg_keeper.specs.declared.rows.ChangeRow.TheVariants.{Ballot, Stage, Claim, Void}
use Rattle.sg_keeper.specs.declared.rows.DoneRow.{DoneRow}
use Rattle.sg_store.specs.Tables.{setup, ballot, stage, claim, done, voided, schema_of}
use Rattle.sg_store.proofs.Rows as rows

cast_null : cast Integer Null ≡ Null
unfolding unary
cast_null = cond_same _ Null

cast_int : (n : ℤ) → cast Integer (Int n) ≡ Int n
unfolding unary
cast_int n = cond_same _ (Int n)

-- a part that gave a value did not stop on the way
pub went : {B E R : Type 0} {b : B} {Stops : E → Type 0} → ((stop : E) × Stops stop × (Ok b ≡ Err stop)) ⊎ R → R
went (inl stopped) = absurd (let e = stopped.2 in cc)
went (inr on) = on

pub same_value : {B E : Type 0} {a b : B} → ◌≡◌ {A = Result B E} (Ok a) (Ok b) → a ≡ b
same_value e = cc

-- one row is added to one of the tables
pub record Adds (table : Table) (row : Row) (was is : State) : Type 0 where
  pub schema : is.now.schema ≡ schema_of 6
  pub edit : Edit
  pub applies : Applies (schema_of 6) Enforced was.now.trees edit is.now.trees
  pub table_is : edit.table ≡ table
  pub news : edit.news ≡ row ∷ []
  pub gone : edit.gone ≡ []
  pub sound : IsDatabase is.now
  pub mode : is.in_transaction ≡ was.in_transaction
  pub commits : is.committed ≡ (if was.in_transaction then was.committed else is.now)

-- the statement that adds a row of these values to the table at this place, which counts no rowids
module _ (at : ℕ) (base : Table) (text : List ℕ) (terms : List Term) (found : slice_get (schema_of 6).tables at ≡ Some (record base { is_counted = false })) (inserts : rows.Inserts text at terms) where
  abbrev table : Table
  table = record base { is_counted = false }

  -- the values for these parameters, cast and with a rowid, are this row
  abbrev Makes : Row → Row → Trees → Type 0
  Makes params row db = (edit_of db table [] Chosen 0 (value_rows (stamped table params) (length terms) (length terms / length terms) terms)).news ≡ row ∷ []

  adds : (params row : Row) (old new : State) (count : ℕ) → Makes params row old.now.trees → old.now.schema ≡ schema_of 6 → Executes text params old new (Ok count) → Adds table row old new
  adds params row old new count makes has h =
      let db = old.now.trees in
      let command = Insert at (Values terms (length terms)) in
      let w = runs_as text params old new (schema_of 6) has command inserts.is inserts.plain count h in
      let whole = statement_of text (understood (schema_of 6) text) in
      let does = subst (λ s. Does old.step_limit (mode_of old) params (record old.now { schema = s }) whole None command (Ok (w.tally, new.now))) has w.changed in
      let did = went (subst (λ it. AtPlace (λ t. OnRows (record { limit = old.step_limit; keys = Enforced; schema = schema_of 6; table = t; params = params }) (mode_of old) None command db) it (Ok (w.tally, new.now))) found does) in
      let now = ap (λ (p : Tally × Database). p.1) (same_value (went (went did.2).2).2) in
      let given = went did.1 in
      let written = went (went given.2).2 in
      let counted = went written.2 in
      let trees : did.0.trees ≡ written.0 = ap (λ (it : Written). it.trees) (same_value counted.2) ∙ same_value counted.1 in
      let edit = edit_of db table [] Chosen 0 given.0 in
      let applies = one_step (schema_of 6) Enforced db written.0 edit refl written.1 in
      let all : new.now.trees ≡ written.0 = ap (λ (d : Database). d.trees) now ∙ trees in
      record {
        schema = ap (λ (d : Database). d.schema) now;
        edit = edit;
        applies = subst (λ next. Applies (schema_of 6) Enforced db edit next) (sym all) applies;
        table_is = refl;
        news = ap (λ sources. (edit_of db table [] Chosen 0 sources).news) given.1.1 ∙ makes;
        gone = refl;
        sound = w.sound;
        mode = w.shown.mode;
        commits = w.shown.committed_is;
      }

-- THE SIX STATEMENTS

abbrev pub setup_kept : List ℕ → Row
setup_kept body = Int (pos 1) ∷ Null ∷ Text body ∷ []

pub adds_setup : (body : List ℕ) (old new : State) (count : ℕ) → old.now.schema ≡ schema_of 6 → Executes rows.insert_setup (Text body ∷ []) old new (Ok count) → Adds setup (setup_kept body) old new
adds_setup body old new count = adds 0 setup rows.insert_setup rows.setup_terms refl rows.setup_inserts (Text body ∷ []) (setup_kept body) old new count (rw (cast_null, cast_int (pos 1)) refl)

abbrev pub table_of : ChangeRow → Table
table_of (Ballot row) = ballot
table_of (Stage row) = stage
table_of (Claim row) = claim
table_of (Void row) = voided

abbrev pub insert_of : ChangeRow → List ℕ
insert_of (Ballot row) = rows.insert_ballot
insert_of (Stage row) = rows.insert_stage
insert_of (Claim row) = rows.insert_claim
insert_of (Void row) = rows.insert_voided

-- what is given to the statement
abbrev pub row_given : ChangeRow → Row
row_given (Ballot row) = Int row.ballot ∷ Int row.fate ∷ Text row.detail ∷ []
row_given (Stage row) = Int row.step ∷ Text row.detail ∷ []
row_given (Claim row) = Int row.claim ∷ Int row.ballot ∷ Int row.race ∷ Int row.code ∷ []
row_given (Void row) = Int row.ballot ∷ []

-- what the tree keeps: the key is the rowid, and the column that has it is empty
abbrev pub row_kept : ChangeRow → Row
row_kept (Ballot row) = Int row.ballot ∷ Null ∷ Int row.fate ∷ Text row.detail ∷ []
row_kept (Stage row) = Int row.step ∷ Null ∷ Text row.detail ∷ []
row_kept (Claim row) = Int row.claim ∷ Null ∷ Int row.ballot ∷ Int row.race ∷ Int row.code ∷ []
row_kept (Void row) = Int row.ballot ∷ Null ∷ []

pub adds_row : (row : ChangeRow) (old new : State) (count : ℕ) → old.now.schema ≡ schema_of 6 → Executes (insert_of row) (row_given row) old new (Ok count) → Adds (table_of row) (row_kept row) old new
adds_row (Ballot row) old new count =
    adds 1 ballot rows.insert_ballot rows.ballot_terms refl rows.ballot_inserts (row_given (Ballot row)) (row_kept (Ballot row)) old new count (rw (cast_null, cast_int row.ballot, cast_int row.fate) refl)
adds_row (Stage row) old new count = adds 2 stage rows.insert_stage rows.stage_terms refl rows.stage_inserts (row_given (Stage row)) (row_kept (Stage row)) old new count (rw (cast_null, cast_int row.step) refl)
adds_row (Claim row) old new count =
    adds 3 claim rows.insert_claim rows.claim_terms refl rows.claim_inserts (row_given (Claim row)) (row_kept (Claim row)) old new count (rw (cast_null, cast_int row.claim, cast_int row.ballot, cast_int row.race, cast_int row.code) refl)
adds_row (Void row) old new count = adds 5 voided rows.insert_voided rows.voided_terms refl rows.voided_inserts (row_given (Void row)) (row_kept (Void row)) old new count (rw (cast_null, cast_int row.ballot) refl)

abbrev pub done_given : DoneRow → Row
done_given row = Int row.station ∷ Int row.number ∷ Text row.act ∷ []

-- its rowid is the next one
abbrev pub done_kept : Trees → DoneRow → Row
done_kept db row = Int (next_rowid (db 4)) ∷ done_given row

pub adds_done : (row : DoneRow) (old new : State) (count : ℕ) → old.now.schema ≡ schema_of 6 → Executes rows.insert_done (done_given row) old new (Ok count) → Adds done (done_kept old.now.trees row) old new
adds_done row old new count = adds 4 done rows.insert_done rows.done_terms refl rows.done_inserts (done_given row) (done_kept old.now.trees row) old new count (rw (cast_null, cast_int row.station, cast_int row.number) refl)
