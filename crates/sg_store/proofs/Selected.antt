-- What the selections give of the rows that are told.
use Rattle.std.proofs.Common.{◌≡◌, inl, inr, ℕ, List, [], ◌∷◌, map, option_map, slice_get, Some, None, Result, Ok, Err, IfOk, IfErr, false, refl, sym, ap, subst, ◌∙◌, Option, IsTrue}
use Rattle.std.specs.declared.vec.Vec.{Vec}
use Rattle.std.specs.declared.alloc.Global.{Global}
use Rattle.sqlite.specs.declared.error.Error.{Error}
use Rattle.sqlite.specs.Order.{Row}
use Rattle.sqlite.specs.Store.{Ghosts}
use Rattle.sqlite.specs.Query.{Query}
use Rattle.sqlite.specs.Term.{Term}
use Rattle.sqlite.specs.Tree.{Trees, IsTable}
use Rattle.sqlite.specs.State.{State, Shown, ShowsRows, FailsToQuery, IsNotRun, FailsToShow}
use Rattle.sqlite.specs.Held.{Held, state}
use Rattle.sqlite.specs.Listing.{understood}
use Rattle.sqlite.specs.Clock.{timed}
use Rattle.sqlite.proofs.Callers.{IsPlain}
use Rattle.sqlite_keyed.proofs.ListLemmas.{map-map}
use Rattle.sqlite_schema.specs.declared.command.Returning.{Returning}
use Rattle.sqlite_schema.specs.Rules.{Obeys}
use Rattle.sg_keeper.specs.declared.rows.Rows.{Rows}
use Rattle.sg_keeper.specs.Rows.{done_before}
use Rattle.sg_store.specs.Tables.{schema_of}
use Rattle.sg_store.specs.Told.{HasTables, rows_of, rows_in, text_at, in_place, done_of}
use Rattle.sg_store.specs.inside.Shown.{setup_in, ballot_in, stage_in, claim_in, void_in, done_in}
use Rattle.sg_store.specs.inside.Steps.{Keeps}
use Rattle.sg_store.proofs.Rows as rows
use Rattle.sg_store.proofs.Refusals.{Same, unchanged_same, undone_same}
use Rattle.sg_store.proofs.Shapes.{AreShaped, shaped}
use Rattle.sg_store.proofs.Commits.{unchanged, six}
use Rattle.sg_store.proofs.Frames.{rows_by, whole}
use Rattle.sg_store.proofs.Places.{before_by, in_place_settles, map_in_place}
use Rattle.sg_store.proofs.Dones.{stamp_cmp, stamp_total, IsStamped, all_stamped, apart, same_stamps}
use Rattle.sg_store.proofs.Queries.{all_shown, shown_by, keyed_shown}

shown_same : (sql : List ℕ) (old new : State) (found : List Row) → IsPlain (understood old.now.schema sql) → old.in_transaction ≡ false → Shown sql [] old new found → Same old new
unfolding Shown
shown_same sql old new found plain out h =
    let none = (subst IsPlain h.1.is plain).0 in
    let full = timed [] h.0.formats h.1.now in
    let it = subst (ShowsRows old new sql h.0 full found) none h.2 in
    unchanged_same old new out it.3

failed_same : (sql : List ℕ) (old new : State) (e : Error) → IsTrue new.is_open → old.now ≡ old.committed → old.in_transaction ≡ false → FailsToQuery sql [] old new e → Same old new
unfolding FailsToQuery IsNotRun
failed_same sql old new e stands same out (inl (inl h)) = unchanged_same old new out h.1
failed_same sql old new e stands same out (inl (inr h)) = undone_same old new stands same h.3
failed_same sql old new e stands same out (inr h) = go h.0.returning h.2
  where
    go : (o : Option Returning) → FailsToShow old new sql h.0 (timed [] h.0.formats h.1.now) e o → Same old new
    go None k = unchanged_same old new out k.3
    go (Some what) (inl k) = unchanged_same old new out k.1
    go (Some what) (inr k) = undone_same old new stands same k.3

module _ {S : Type 0} (g : Ghosts S) where
  pub kept : (sql : List ℕ) (query : Query) (names : List (List ℕ)) (selects : rows.Selects sql query names) {T : Type 0} (items : T → List Row) (old new : Held S) (r : Result T Error)
      → (HasTables g 6 old → IfOk r (λ found. Shown sql [] (state g old) (state g new) (items found))) → (HasTables g 6 old → IfErr r (FailsToQuery sql [] (state g old) (state g new))) → Keeps g old new
  kept sql query names selects items old new (Ok found) ok err has =
      let same = shown_same sql (state g old) (state g new) (items found) (subst (λ s. IsPlain (understood s sql)) (sym (six g old has)) selects.means.plain) has.settled (ok has) in
      (unchanged g 6 old new has same.now same.committed same.settled, ap rows_of same.now)
  kept sql query names selects items old new (Err e) ok err has =
      let same = failed_same sql (state g old) (state g new) e (has.sure.stands new) has.same has.settled (err has) in
      (unchanged g 6 old new has same.now same.committed same.settled, ap rows_of same.now)

  -- what is read of a selection's rows is this part of those that are told
  abbrev Reads : {B : Type 0} → List ℕ → (List Row → B) → (Rows → B) → Type 0
  Reads sql read part =
      (old new : Held S) (r : Result (Vec Row Global) Error) → (HasTables g 6 old → IfOk r (λ found. Shown sql [] (state g old) (state g new) found.items)) → HasTables g 6 old → IfOk r (λ found. read found.items ≡ part (rows_in g old))

  shapes : (held : Held S) → HasTables g 6 held → AreShaped (state g held).now.trees
  shapes held has = shaped g has.sure held has.sound (six g held has)

  reads_by_key : (tree : ℕ) (columns : List Term) (sql : List ℕ) (names : List (List ℕ)) → rows.Selects sql (rows.by_key tree columns) names → {B : Type 0} (read : List Row → B) (part : Rows → B)
      → ((db : Trees) → read (map (shown_by columns) (db tree)) ≡ part (rows_by db)) → ((held : Held S) → HasTables g 6 held → IsTable ((state g held).now.trees tree)) → Reads sql read part
  reads_by_key tree columns sql names selects read part is_part in_order old new (Err e) h has = tt
  reads_by_key tree columns sql names selects read part is_part in_order old new (Ok found) h has =
      ap read (keyed_shown tree columns sql names selects (state g old) (state g new) found.items (six g old has) (in_order old has) (h has)) ∙ is_part (state g old).now.trees ∙ sym (ap part (whole (state g old).now (six g old has)))

  first_text : (xs : List Row) → setup_in (map (shown_by rows.setup_columns) xs) ≡ option_map (λ row. text_at row 2) (slice_get xs 0)
  first_text [] = refl
  first_text (x ∷ xs) = refl

  pub setup_selected : Reads rows.select_setup setup_in (λ rows. rows.setup)
  setup_selected = reads_by_key 0 rows.setup_columns rows.select_setup _ rows.setup_selects setup_in (λ rows. rows.setup) (λ db. first_text (db 0)) (λ held has. (shapes held has).setup.0)

  pub ballot_selected : Reads rows.select_ballot (map ballot_in) (λ rows. rows.ballots)
  ballot_selected =
      reads_by_key 1 rows.ballot_columns rows.select_ballot _ rows.ballot_selects (map ballot_in) (λ rows. rows.ballots) (λ db. map-map ballot_in (shown_by rows.ballot_columns) (db 1)) (λ held has. (shapes held has).ballot.0)

  pub stage_selected : Reads rows.select_stage (map stage_in) (λ rows. rows.stages)
  stage_selected = reads_by_key 2 rows.stage_columns rows.select_stage _ rows.stage_selects (map stage_in) (λ rows. rows.stages) (λ db. map-map stage_in (shown_by rows.stage_columns) (db 2)) (λ held has. (shapes held has).stage.0)

  pub claim_selected : Reads rows.select_claim (map claim_in) (λ rows. rows.claims)
  claim_selected = reads_by_key 3 rows.claim_columns rows.select_claim _ rows.claim_selects (map claim_in) (λ rows. rows.claims) (λ db. map-map claim_in (shown_by rows.claim_columns) (db 3)) (λ held has. (shapes held has).claim.0)

  pub voided_selected : Reads rows.select_voided (map void_in) (λ rows. rows.voids)
  voided_selected =
      reads_by_key 6 rows.voided_columns rows.select_voided _ rows.voided_selects (map void_in) (λ rows. rows.voids) (λ db. map-map void_in (shown_by rows.voided_columns) (db 6)) (λ held has. (shapes held has).voided.0)

  -- the rows of acts, whose order is not that of the tree
  pub done_selected : Reads rows.select_done (map done_in) (λ rows. rows.dones)
  done_selected old new (Err e) h has = tt
  done_selected old new (Ok found) h has =
      let db = (state g old).now.trees in
      let shape = (shapes old has).done in
      let obeys : Obeys (schema_of 6) db = subst (λ s. Obeys s db) (six g old has) has.sound.obeys in
      let stamps = all_stamped db obeys shape.0 shape.1 in
      let settled = in_place_settles stamp_cmp stamp_total (db 4) (apart db obeys shape.0 shape.1) in
      let sorted = in_place (before_by stamp_cmp) (db 4) in
      let shown = all_shown 4 rows.done_columns rows.done_keys rows.select_done _ rows.done_selects (state g old) (state g new) found.items sorted (six g old has) settled.same settled.up (h has) in
      ap (map done_in) shown ∙ map-map done_in _ sorted ∙ map_in_place stamp_cmp stamp_total done_of done_before IsStamped same_stamps (db 4) stamps ∙ sym (ap (λ r. r.dones) (whole (state g old).now (six g old has)))
