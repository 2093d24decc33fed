-- The rows that are told rise by their keys.
use Rattle.std.proofs.Common.{◌≡◌, List, [], ◌∷◌, map, Bool, true, IsTrue, IfOk, Result, Ok, Err, Ordering, Less, sym, ap, subst, ◌∙◌}
use Rattle.std.specs.List.{AllByRecursion}
use Rattle.std.specs.Cmp.{IsTotalOrder}
use Rattle.std.specs.Ordering.{is_gt, ordering_reverse}
use Rattle.std.proofs.lemmas.Cmp.{on_total}
use Rattle.sqlite.specs.Order.{Row, value_cmp}
use Rattle.sqlite.specs.Store.{Ghosts}
use Rattle.sqlite.specs.Held.{Held, state}
use Rattle.sqlite.specs.Tree.{IsAscending, IsTable, rowid}
use Rattle.sqlite.specs.View.{is_int}
use Rattle.sqlite_schema.specs.Rules.{Obeys}
use Rattle.sqlite_value.proofs.OrderLemmas.{value_cmp_total}
use Rattle.sg_keeper.specs.declared.rows.Rows.{Rows}
use Rattle.sg_keeper.specs.Rows.{ballot_before, claim_before, done_before, stage_before, void_before}
use Rattle.sg_keeper.specs.Laws.{BeforeAll, Rises, RowsRise}
use Rattle.sg_store.specs.Tables.{schema_of}
use Rattle.sg_store.specs.Told.{HasTables, ballot_of, claim_of, done_of, in_place, rows_in, rows_of, stage_of, void_of}
use Rattle.sg_store.proofs.Commits.{six}
use Rattle.sg_store.proofs.Dones.{stamp_cmp, stamp_total, IsStamped, all_stamped, apart, same_stamps}
use Rattle.sg_store.proofs.Frames.{whole}
use Rattle.sg_store.proofs.Lists.{AreKeyed, rowids_lower}
use Rattle.sg_store.proofs.Places.{before_by, all_in_place, in_place_settles, map_in_place}
use Rattle.sg_store.proofs.Shapes.{shaped}

-- the list of a rising list rises, where the order of its keys is that of the elements
module _ {X A : Type 0} (f : X → A) (R : X → X → Ordering) (total : IsTotalOrder R) (before : A → A → Bool) (P : X → Type 0) (agree : (x y : X) → P x → P y → before (f x) (f y) ≡ before_by R x y) where
  each_behind : (x : X) (ys : List X) → P x → AllByRecursion P ys → AllByRecursion (λ y. R x y ≡ Less) ys → BeforeAll before (f x) (map f ys)
  each_behind x [] here all up = tt
  each_behind x (y ∷ ys) here all up = (agree x y here all.0 ∙ ap is_gt (total.antisymm y x ∙ ap ordering_reverse up.0), each_behind x ys here all.1 up.1)

  pub mapped_rises : (xs : List X) → AllByRecursion P xs → IsAscending (λ a b. R a b ≡ Less) xs → Rises before (map f xs)
  mapped_rises [] all up = tt
  mapped_rises (x ∷ xs) all up = (each_behind x xs all.0 all.1 up.0, mapped_rises xs all.1 up.1)

-- the rowid is an integer
abbrev IsKeyed : Row → Type 0
IsKeyed row = IsTrue (is_int (rowid row))

-- the order of the rowids
abbrev rowid_cmp : Row → Row → Ordering
rowid_cmp a b = value_cmp (rowid a) (rowid b)

keyed_rises : {A : Type 0} (f : Row → A) (before : A → A → Bool) → ((r s : Row) → is_int (rowid r) ≡ true → is_int (rowid s) ≡ true → before (f s) (f r) ≡ is_gt (value_cmp (rowid r) (rowid s)))
    → (rows : List Row) → IsTable rows → AreKeyed rows → Rises before (map f rows)
keyed_rises f before place rows up keyed = mapped_rises f rowid_cmp (on_total rowid value_cmp_total) before IsKeyed (λ x y p q. place y x q p) rows keyed up

module _ {S : Type 0} (g : Ghosts S) where
  -- with all six tables, the rows rise
  pub rows_rise : (held : Held S) → HasTables g 6 held → RowsRise (rows_in g held)
  rows_rise held has =
      let db = (state g held).now.trees in
      let trees = shaped g has.sure held has.sound (six g held has) in
      let obeys : Obeys (schema_of 6) db = subst (λ s. Obeys s db) (six g held has) has.sound.obeys in
      let stamps = all_stamped db obeys trees.done.0 trees.done.1 in
      let settled = in_place_settles stamp_cmp stamp_total (db 4) (apart db obeys trees.done.0 trees.done.1) in
      let sorted = in_place (before_by stamp_cmp) (db 4) in
      let dones : Rises done_before (map done_of sorted) = mapped_rises done_of stamp_cmp stamp_total done_before IsStamped same_stamps sorted (all_in_place stamp_cmp stamp_total IsStamped (db 4) stamps) settled.up in
      let all : RowsRise (rows_of (record { schema = schema_of 6; trees = db })) = record {
        ballots = keyed_rises ballot_of ballot_before rowids_lower (db 1) trees.ballot.0 trees.ballot.1;
        stages = keyed_rises stage_of stage_before rowids_lower (db 2) trees.stage.0 trees.stage.1;
        claims = keyed_rises claim_of claim_before rowids_lower (db 3) trees.claim.0 trees.claim.1;
        voids = keyed_rises void_of void_before rowids_lower (db 6) trees.voided.0 trees.voided.1;
        dones = subst (Rises done_before) (map_in_place stamp_cmp stamp_total done_of done_before IsStamped same_stamps (db 4) stamps) dones;
      } in
      subst RowsRise (sym (whole (state g held).now (six g held has))) all

  -- so do rows that are equal to them
  pub loaded_rises : {E : Type 0} (held : Held S) (r : Result Rows E) → (HasTables g 6 held → IfOk r (λ loaded. loaded ≡ rows_in g held)) → HasTables g 6 held → IfOk r RowsRise
  loaded_rises held (Ok rows) found has = subst RowsRise (sym (found has)) (rows_rise held has)
  loaded_rises held (Err e) found has = tt
