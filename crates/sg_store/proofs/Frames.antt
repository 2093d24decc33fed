-- What each insert does to the rows.
use Rattle.std.proofs.Common.{◌≡◌, ◌≢◌, ℕ, pos, ◌==◌, List, [], ◌∷◌, ◌++◌, Bool, true, false, not, ◌&&◌, None, Some, refl, sym, ap, subst, ◌∙◌, true≢false}
use Rattle.std.proofs.lemmas.Bool.{eqb-false, or_parts}
use Rattle.std.specs.List.{AllByRecursion, IsDistinct}
use Rattle.std.specs.Ordering.{is_eq}
use Rattle.sqlite.specs.declared.types.Value.{Value}
use Rattle.sqlite.specs.declared.types.Value.TheVariants.{Int}
use Rattle.sqlite.specs.Collation.TheVariants.{Binary}
use Rattle.sqlite.specs.Ops.{binary, from_truth, is_false}
use Rattle.sqlite.specs.Order.{Row, value_cmp}
use Rattle.sqlite.specs.Table.{Table}
use Rattle.sqlite.specs.Tree.{Trees, put_row, IsTable, rowid}
use Rattle.sqlite.specs.View.{is_int}
use Rattle.sqlite.specs.Edit.{Applies, Edit, is_taken}
use Rattle.sqlite.specs.Effect.{Database}
use Rattle.sqlite.specs.State.{State}
use Rattle.sqlite_schema.specs.declared.schema.Constraint.TheVariants.{Check}
use Rattle.sqlite_schema.specs.declared.schema.Keys.TheVariants.{Enforced}
use Rattle.sqlite_schema.specs.Rules.{Obeys, passes}
use Rattle.sqlite_sql.specs.declared.ops.BinaryOp.TheVariants.{Compare}
use Rattle.sqlite_sql.specs.declared.ops.CompareOp.TheVariants.{Eq}
use Rattle.sg_keeper.specs.declared.rows.ChangeRow.{ChangeRow}
use Rattle.sg_keeper.specs.declared.rows.ChangeRow.TheVariants.{Ballot, Stage, Claim, Void}
use Rattle.sg_keeper.specs.declared.rows.Rows as keeper
use Rattle.sg_keeper.specs.declared.rows.DoneRow.{DoneRow}
use Rattle.sg_keeper.specs.Rows.{with_setup, with_row, is_new_row, put, ballot_before, ballot_is, stage_before, stage_is, claim_before, claim_is, void_before, void_is, done_before, done_is, is_new}
use Rattle.sg_store.specs.Tables.{setup, done, schema_of}
use Rattle.sg_store.specs.Told.{rows_of, ballot_of, stage_of, claim_of, void_of, done_of}
use Rattle.sg_store.proofs.Adds.{Adds, table_of, setup_kept, row_kept, done_given, done_kept}
use Rattle.sg_store.proofs.Lists.{AreKeyed, AreRowids, rowids_lower, rowids_same, new_mapped, put_mapped, put_last, in_place-push}
use Rattle.sg_store.proofs.Dones.{stamp_cmp, stamp_total, IsStamped, all_stamped, apart, not_null, stamp_new}
use Rattle.sg_store.proofs.Places.{same_key, free_of}

-- the rows with one more of an act
abbrev pub with_done : keeper.Rows → DoneRow → keeper.Rows
with_done rows done = record rows { dones = put done_before done rows.dones }

-- the table has one row more, whose rowid was not taken, and the others are as before
pub record Puts (table : Table) (row : Row) (old new : Trees) : Type 0 where
  pub fresh : is_taken (old table.tree) row ≡ false
  pub put : new table.tree ≡ put_row row (old table.tree)
  pub others : AllByRecursion (λ t. (t.tree == table.tree) ≡ false → new t.tree ≡ old t.tree) (schema_of 6).tables

puts : (table : Table) (row : Row) (old new : State) → Adds table row old new → Puts table row old.now.trees new.now.trees
puts table row old new adds =
    let is : adds.edit ≡ record { table = table; gone = []; news = row ∷ [] } = rw (← adds.table_is, ← adds.gone, ← adds.news) refl in
    let applies = subst (λ (e : Edit). Applies (schema_of 6) Enforced old.now.trees e new.now.trees) is adds.applies in
    record { fresh = untaken (is_taken (old.now.trees table.tree) row) applies.fresh; put = applies.rows; others = each (schema_of 6).tables applies.tables }
  where
    untaken : (b : Bool) → (not b && true) ≡ true → b ≡ false
    untaken true h = absurd (true≢false (sym h))
    untaken false h = refl

    each : (tables : List Table) → AllByRecursion (λ t. t.tree ≢ table.tree → new.now.trees t.tree ≡ old.now.trees t.tree) tables → AllByRecursion (λ t. (t.tree == table.tree) ≡ false → new.now.trees t.tree ≡ old.now.trees t.tree) tables
    each [] all = tt
    each (t ∷ tables) all = (λ other. all.0 (eqb-false t.tree table.tree other), each tables all.1)

-- the rows of the trees, where the six tables are there
abbrev pub rows_by : Trees → keeper.Rows
rows_by db = rows_of (record { schema = schema_of 6; trees = db })

pub whole : (db : Database) → db.schema ≡ schema_of 6 → rows_of db ≡ rows_by db.trees
whole db has = ap (λ s. rows_of (record db { schema = s })) has

-- What an insert tells of the rows of the trees holds of those of the databases: they fitted, and this is the change.
framed : (table : Table) (row : Row) (Fits : keeper.Rows → Type 0) (change : keeper.Rows → keeper.Rows) (old new : State) → old.now.schema ≡ schema_of 6 → (adds : Adds table row old new)
    → (Puts table row old.now.trees new.now.trees → Fits (rows_by old.now.trees) × (rows_by new.now.trees ≡ change (rows_by old.now.trees))) → Fits (rows_of old.now) × (rows_of new.now ≡ change (rows_of old.now))
framed table row Fits change old new has adds is =
    let it = is (puts table row old new adds) in (subst Fits (sym (whole old.now has)) it.0, whole new.now adds.schema ∙ it.1 ∙ sym (ap change (whole old.now has)))

-- THE SETUP

-- the CHECK of the table lets no other key than 1
only_one : (v : Value) → is_int v ≡ true → (not (is_false (binary (Compare Eq Binary) v (Int (pos 1)))) && true) ≡ true → is_eq (value_cmp v (Int (pos 1))) ≡ true
unfolding binary
only_one v k checked = passed (is_eq (value_cmp v (Int (pos 1)))) (rw (not_null v k) at checked)
  where
    passed : (b : Bool) → (not (is_false (from_truth (Some b))) && true) ≡ true → b ≡ true
    passed true h = refl
    passed false h = absurd (true≢false (sym h))

setup_empty : (db : Trees) → Obeys (schema_of 6) db → AreKeyed (db 0) → is_taken (db 0) (setup_kept []) ≡ false → db 0 ≡ []
setup_empty db obeys keyed fresh = go (db 0) keyed (obeys.rules Check).0 fresh
  where
    go : (rows : List Row) → AreKeyed rows → AllByRecursion (λ r. passes Check (schema_of 6) db setup r ≡ true) rows → is_taken rows (setup_kept []) ≡ false → rows ≡ []
    go [] keyed checked fresh = refl
    go (r ∷ rows) keyed checked fresh = absurd (true≢false (sym (only_one (rowid r) keyed.0 checked.0) ∙ (or_parts _ _ fresh).0))

pub keeps_setup : (body : List ℕ) (old new : State) → old.now.schema ≡ schema_of 6 → Obeys (schema_of 6) old.now.trees → AreKeyed (old.now.trees 0) → Adds setup (setup_kept body) old new
    → ((rows_of old.now).setup ≡ None) × (rows_of new.now ≡ with_setup (rows_of old.now) body)
keeps_setup body old new has obeys keyed adds =
    framed setup (setup_kept body) (λ rows. rows.setup ≡ None) (λ rows. with_setup rows body) old new has adds
    (λ k. let empty = setup_empty old.now.trees obeys keyed k.fresh in (rw empty refl, rw (k.others.1.0 refl, k.others.1.1.0 refl, k.others.1.1.1.0 refl, k.others.1.1.1.1.0 refl, k.others.1.1.1.1.1.0 refl, k.put, empty) refl))

-- THE OTHER TABLES

-- a row of each of the four tables whose key is the rowid
row_in : (row : ChangeRow) (old new : Trees) → AreKeyed (old (table_of row).tree) → Puts (table_of row) (row_kept row) old new → (is_new_row (rows_by old) row ≡ true) × (rows_by new ≡ with_row (rows_by old) row)
row_in (Ballot row) old new keyed k =
    let ids : AreRowids ballot_of ballot_before ballot_is = record { place = rowids_lower; key = rowids_same } in
    let free = new_mapped ballot_of ballot_before ballot_is ids (row_kept (Ballot row)) (old 1) refl keyed k.fresh in
    let here = put_mapped ballot_of ballot_before ballot_is ids (row_kept (Ballot row)) (old 1) refl keyed free in
    (free, rw (k.others.0 refl, k.others.1.1.0 refl, k.others.1.1.1.0 refl, k.others.1.1.1.1.0 refl, k.others.1.1.1.1.1.0 refl, k.put, here) refl)
row_in (Stage row) old new keyed k =
    let ids : AreRowids stage_of stage_before stage_is = record { place = rowids_lower; key = rowids_same } in
    let free = new_mapped stage_of stage_before stage_is ids (row_kept (Stage row)) (old 2) refl keyed k.fresh in
    let here = put_mapped stage_of stage_before stage_is ids (row_kept (Stage row)) (old 2) refl keyed free in
    (free, rw (k.others.0 refl, k.others.1.0 refl, k.others.1.1.1.0 refl, k.others.1.1.1.1.0 refl, k.others.1.1.1.1.1.0 refl, k.put, here) refl)
row_in (Claim row) old new keyed k =
    let ids : AreRowids claim_of claim_before claim_is = record { place = rowids_lower; key = rowids_same } in
    let free = new_mapped claim_of claim_before claim_is ids (row_kept (Claim row)) (old 3) refl keyed k.fresh in
    let here = put_mapped claim_of claim_before claim_is ids (row_kept (Claim row)) (old 3) refl keyed free in
    (free, rw (k.others.0 refl, k.others.1.0 refl, k.others.1.1.0 refl, k.others.1.1.1.1.0 refl, k.others.1.1.1.1.1.0 refl, k.put, here) refl)
row_in (Void row) old new keyed k =
    let ids : AreRowids void_of void_before void_is = record { place = rowids_lower; key = rowids_same } in
    let free = new_mapped void_of void_before void_is ids (row_kept (Void row)) (old 6) refl keyed k.fresh in
    let here = put_mapped void_of void_before void_is ids (row_kept (Void row)) (old 6) refl keyed free in
    (free, rw (k.others.0 refl, k.others.1.0 refl, k.others.1.1.0 refl, k.others.1.1.1.0 refl, k.others.1.1.1.1.0 refl, k.put, here) refl)

pub keeps_row : (row : ChangeRow) (old new : State) → old.now.schema ≡ schema_of 6 → AreKeyed (old.now.trees (table_of row).tree) → Adds (table_of row) (row_kept row) old new
    → (is_new_row (rows_of old.now) row ≡ true) × (rows_of new.now ≡ with_row (rows_of old.now) row)
keeps_row row old new has keyed adds = framed (table_of row) (row_kept row) (λ rows. is_new_row rows row ≡ true) (λ rows. with_row rows row) old new has adds (row_in row old.now.trees new.now.trees keyed)

-- no row of an act had the stamp, since each of them differs from each other one afterwards
pub keeps_done : (row : DoneRow) (old new : State) → old.now.schema ≡ schema_of 6 → IsTable (old.now.trees 4) → AreKeyed (old.now.trees 4) → IsTable (new.now.trees 4) → AreKeyed (new.now.trees 4) → Adds done (done_kept old.now.trees row) old new
    → (is_new done_is row (rows_of old.now).dones ≡ true) × (rows_of new.now ≡ with_done (rows_of old.now) row)
keeps_done row old new has up keyed rises are_keyed adds =
    let db = old.now.trees in
    let kept = done_kept db row in
    let last = put_last (done_given row) (db 4) up keyed in
    framed done kept (λ rows. is_new done_is row rows.dones ≡ true) (λ rows. with_done rows row) old new has adds (λ k.
    let obeys = subst (λ s. Obeys s new.now.trees) adds.schema adds.sound.obeys in
    let apart_now = subst (IsDistinct (same_key stamp_cmp stamp_total)) (k.put ∙ last) (apart new.now.trees obeys rises are_keyed) in
    let stamps = subst (AllByRecursion IsStamped) (k.put ∙ last) (all_stamped new.now.trees obeys rises are_keyed) in
    let free = stamp_new kept (db 4) (refl, refl) (all_front IsStamped (db 4) (kept ∷ []) stamps) (free_of stamp_cmp stamp_total (db 4) kept [] apart_now) in
    (free, rw (k.others.0 refl, k.others.1.0 refl, k.others.1.1.0 refl, k.others.1.1.1.0 refl, k.others.1.1.1.1.1.0 refl, k.put, last, in_place-push done_of done_before (db 4) kept) refl))
  where
    all_front : (P : Row → Type 0) (xs ys : List Row) → AllByRecursion P (xs ++ ys) → AllByRecursion P xs
    all_front P [] ys all = tt
    all_front P (x ∷ xs) ys all = (all.0, all_front P xs ys all.1)
