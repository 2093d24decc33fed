-- What one insert, and two in one transaction, do to the rows that are told.
use Rattle.std.proofs.Common.{◌≡◌, ℕ, List, [], ◌∷◌, true, if◌then◌else◌, None, Result, Ok, Err, OnOk, OnErr, IsTrue, false, refl, sym, ap, subst, ◌∙◌, arith}
use Rattle.sqlite.specs.declared.types.Value.TheVariants.{Text}
use Rattle.sqlite.specs.declared.error.Error.{Error}
use Rattle.sqlite.specs.Store.{Ghosts}
use Rattle.sqlite.specs.Tree.{Trees}
use Rattle.sqlite.specs.Effect.{Database, IsDatabase}
use Rattle.sqlite.specs.State.{Executes, HasCleanDisk}
use Rattle.sqlite.specs.Held.{Held, state}
use Rattle.sqlite_schema.specs.Rules.{Obeys}
use Rattle.sg_keeper.specs.declared.rows.Change.{Change}
use Rattle.sg_keeper.specs.declared.rows.ChangeRow.{ChangeRow}
use Rattle.sg_keeper.specs.declared.rows.ChangeRow.TheVariants.{Ballot, Stage, Claim, Void}
use Rattle.sg_keeper.specs.declared.rows.DoneRow.{DoneRow}
use Rattle.sg_keeper.specs.Rows.{IsNewChange, with_setup, with_row, with_change, is_new_row, is_new, done_is}
use Rattle.sg_store.specs.Tables.{schema_of}
use Rattle.sg_store.specs.Told.{IsSure, HasTables, rows_of, rows_in}
use Rattle.sg_store.specs.inside.Steps.{Changes}
use Rattle.sg_store.specs.inside.Two.{RanTwo}
use Rattle.sg_store.proofs.Adds.{table_of, insert_of, row_given, done_given, adds_setup, adds_row, adds_done}
use Rattle.sg_store.proofs.Frames.{with_done, keeps_setup, keeps_row, keeps_done}
use Rattle.sg_store.proofs.Lists.{AreKeyed}
use Rattle.sg_store.proofs.Refusals.{refused}
use Rattle.sg_store.proofs.Rows.{insert_setup, insert_done}
use Rattle.sg_store.proofs.Shapes.{AreShaped, shaped}

-- the rowids of the row's table are integers
keyed : (row : ChangeRow) (db : Trees) → AreShaped db → AreKeyed (db (table_of row).tree)
keyed (Ballot row) db shapes = shapes.ballot.1
keyed (Stage row) db shapes = shapes.stage.1
keyed (Claim row) db shapes = shapes.claim.1
keyed (Void row) db shapes = shapes.voided.1

module _ {S : Type 0} (g : Ghosts S) where
  -- the six tables are there, be it inside a transaction
  record Stands (held : Held S) : Type 0 where
    pub sure : IsSure g
    pub schema : held.schema ≡ schema_of 6
    pub sound : IsDatabase (state g held).now

  row_added : (row : ChangeRow) (old new : Held S) (count : ℕ) → Stands old → Executes (insert_of row) (row_given row) (state g old) (state g new) (Ok count)
      → Stands new × (is_new_row (rows_in g old) row ≡ true) × (rows_in g new ≡ with_row (rows_in g old) row)
  row_added row old new count has h =
      let adds = adds_row row (state g old) (state g new) count has.schema h in
      let keeps = keeps_row row (state g old) (state g new) has.schema (keyed row (state g old).now.trees (shaped g has.sure old has.sound has.schema)) adds in
      (record { sure = has.sure; schema = adds.schema; sound = adds.sound }, keeps.0, keeps.1)

  done_added : (row : DoneRow) (old new : Held S) (count : ℕ) → Stands old → Executes insert_done (done_given row) (state g old) (state g new) (Ok count) → Stands new × (is_new done_is row (rows_in g old).dones ≡ true) × (rows_in g new ≡ with_done (rows_in g old) row)
  done_added row old new count has h =
      let adds = adds_done row (state g old) (state g new) count has.schema h in
      let before = (shaped g has.sure old has.sound has.schema).done in
      let after = (shaped g has.sure new adds.sound adds.schema).done in
      let keeps = keeps_done row (state g old) (state g new) has.schema before.0 before.1 after.0 after.1 adds in
      (record { sure = has.sure; schema = adds.schema; sound = adds.sound }, keeps.0, keeps.1)

  pub six : (held : Held S) → HasTables g 6 held → held.schema ≡ schema_of 6
  six held has = let all : has.count ≡ 6 = omega (arith, has.low, has.high) in subst (λ n. held.schema ≡ schema_of n) all has.schema

  -- nothing has changed
  pub unchanged : (least : ℕ) (old new : Held S) → HasTables g least old → (state g new).now ≡ (state g old).now → (state g new).committed ≡ (state g old).committed → new.in_transaction ≡ false → HasTables g least new
  unchanged least old new has now committed settled =
      record { sure = has.sure; count = has.count; low = has.low; high = has.high; schema = ap (λ (d : Database). d.schema) now ∙ has.schema; settled = settled; same = now ∙ has.same ∙ sym committed; sound = subst IsDatabase (sym now) has.sound }

  pub setup_changes : (body : List ℕ) (old new : Held S) (r : Result ℕ Error) → (HasTables g 6 old → Executes insert_setup (Text body ∷ []) (state g old) (state g new) r)
      → Changes g (λ rows. rows.setup ≡ None) (λ rows. with_setup rows body) old new r
  setup_changes body old new (Err e) h has =
      let as_before = refused insert_setup (Text body ∷ []) (state g old) (state g new) e (has.sure.stands new) has.same has.settled (h has) in
      (unchanged 6 old new has as_before.now as_before.committed as_before.settled, ap rows_of as_before.now)
  setup_changes body old new (Ok count) h has =
      let adds = adds_setup body (state g old) (state g new) count (six old has) (h has) in (
        record { sure = has.sure; count = 6; low = omega arith; high = omega arith; schema = adds.schema; settled = adds.mode ∙ has.settled; same = sym (adds.commits ∙ ap (λ b. if b then (state g old).committed else (state g new).now) has.settled); sound = adds.sound },
        keeps_setup body (state g old) (state g new) (six old has) (subst (λ s. Obeys s (state g old).now.trees) (six old has) has.sound.obeys) (shaped g has.sure old has.sound (six old has)).setup.1 adds,
      )

  -- what both statements of a change do, in one transaction
  pub both_change : {T : Type 0} (change : Change) (old new : Held S) (r : Result T Error)
      → (HasCleanDisk (state g new) → OnOk r (RanTwo g (insert_of change.row) (row_given change.row) insert_done (done_given change.done) old (state g new).committed))
      → (HasCleanDisk (state g new) → OnOk r ((state g new).now ≡ (state g new).committed))
      → (HasCleanDisk (state g new) → IsTrue (state g new).is_open → OnErr r (((state g new).now ≡ (state g old).now) × ((state g new).committed ≡ (state g old).committed)))
      → (old.in_transaction ≡ false → new.in_transaction ≡ false) → Changes g (λ rows. IsNewChange rows change) (λ rows. with_change rows change) old new r
  both_change change old new (Err e) both same neither settled has =
      let as_before = neither (has.sure.clean new) (has.sure.stands new) in
      (unchanged 6 old new has as_before.0 as_before.1 (settled has.settled), ap rows_of as_before.0)
  both_change change old new (Ok done) both same neither settled has =
      let ran = both (has.sure.clean new) in
      let now : (state g new).now ≡ (state g ran.last).now = same (has.sure.clean new) ∙ ran.is in
      let begun : Stands (record old { in_transaction = true }) = record { sure = has.sure; schema = six old has; sound = has.sound } in
      let mid = row_added change.row (record old { in_transaction = true }) ran.mid ran.counts.0 begun ran.one in
      let last = done_added change.done ran.mid ran.last ran.counts.1 mid.0 ran.two in (
        record { sure = has.sure; count = 6; low = omega arith; high = omega arith; schema = ap (λ (d : Database). d.schema) now ∙ last.0.schema; settled = settled has.settled; same = same (has.sure.clean new); sound = subst IsDatabase (sym now) last.0.sound },
        (
          record { row = mid.1; done = subst (λ list. is_new done_is change.done list ≡ true) (ap (λ rows. rows.dones) mid.2 ∙ same_dones change.row) last.1 },
          ap rows_of now ∙ last.2 ∙ ap (λ rows. with_done rows change.done) mid.2 ∙ both_rows change.row,
        ),
      )
    where
      both_rows : (row : ChangeRow) → with_done (with_row (rows_in g old) row) change.done ≡ with_change (rows_in g old) (record { row = row; done = change.done })
      both_rows (Ballot row) = refl
      both_rows (Stage row) = refl
      both_rows (Claim row) = refl
      both_rows (Void row) = refl

      same_dones : (row : ChangeRow) → (with_row (rows_in g old) row).dones ≡ (rows_in g old).dones
      same_dones (Ballot row) = refl
      same_dones (Stage row) = refl
      same_dones (Claim row) = refl
      same_dones (Void row) = refl
