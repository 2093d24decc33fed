-- The rows of acts: their stamps are integers, and no two are the same.
use Rattle.std.proofs.Common.{◌≡◌, inl, inr, ℕ, ℤ, codes, List, [], ◌∷◌, map, Bool, true, false, not, ◌&&◌, ◌||◌, int_lt, Ordering, Less, Equal, Greater, int_cmp, arith, refl, sym, ap, subst, ◌∙◌, true≢false}
use Rattle.std.specs.List.{AllByRecursion, IsDistinct, list_any}
use Rattle.std.specs.Cmp.{IsTotalOrder}
use Rattle.std.specs.Ordering.{is_eq, is_gt, int_eq, ordering_then}
use Rattle.std.proofs.lemmas.Int.{ints}
use Rattle.std.proofs.lemmas.Cmp.{on_total, then_total}
use Rattle.std.proofs.lemmas.Bool.{and_parts, and_from, or_from, cases_Bool}
use Rattle.sqlite.specs.declared.types.Value.{Value}
use Rattle.sqlite.specs.declared.types.Value.TheVariants.{Null, Int, Real, Text, Blob}
use Rattle.sqlite.specs.Order.{Row, column, value_cmp}
use Rattle.sqlite.specs.Ops.{binary, is_null}
use Rattle.sqlite.specs.Tree.{Trees, IsTable, rowid}
use Rattle.sqlite.specs.View.{is_int}
use Rattle.sqlite.specs.Collation.TheVariants.{Binary}
use Rattle.sqlite.specs.Edit.{id_in}
use Rattle.sqlite_schema.specs.declared.schema.Constraint.TheVariants.{Datatype, NotNull, Unique}
use Rattle.sqlite_schema.specs.Rules.{suits, passes, clashes, agree, differ, equal, Obeys}
use Rattle.sqlite_value.specs.Keys.{first_key, plain}
use Rattle.sqlite_value.proofs.OrderLemmas.{value_cmp-Int, value_cmp_total}
use Rattle.sqlite_rules.specs.Lists.{Has}
use Rattle.sqlite_rules.proofs.TableLemmas.{int_is}
use Rattle.sqlite_rules.proofs.ListLemmas.{all_has, all_from, some_from}
use Rattle.sg_keeper.specs.Rows.{done_before, done_is, is_new}
use Rattle.sg_store.specs.Tables.{whole, done, schema_of}
use Rattle.sg_store.specs.Told.{done_of, in_place}
use Rattle.sg_store.proofs.Lists.{AreKeyed}
use Rattle.sg_store.proofs.Places.{before_by, same_key, all_in_place, map_in_place}

-- the order of the selection, on the rows of the tree
abbrev pub stamp_cmp : Row → Row → Ordering
stamp_cmp a b = ordering_then (value_cmp (column a 1) (column b 1)) (ordering_then (value_cmp (column a 2) (column b 2)) Equal)

-- rows that all tie
ties_total : IsTotalOrder {K = Row} (λ a b. Equal)
ties_total = record { antisymm = λ x y. refl; trans = λ x y z p q. absurd cc; congr = λ x y z p. refl }

pub stamp_total : IsTotalOrder stamp_cmp
stamp_total = then_total (on_total (λ r. column r 1) value_cmp_total) (then_total (on_total (λ r. column r 2) value_cmp_total) ties_total)

-- the stamp is two integers
abbrev pub IsStamped : Row → Type 0
IsStamped row = (is_int (column row 1) ≡ true) × (is_int (column row 2) ≡ true)

whole_value : (name : List ℕ) (v : Value) → suits (whole name true) v ≡ true → not (is_null v) ≡ true → is_int v ≡ true
whole_value name Null fits there = absurd (true≢false (sym there))
whole_value name (Int n) fits there = refl
whole_value name (Real x) fits there = absurd (true≢false (sym fits))
whole_value name (Text t) fits there = absurd (true≢false (sym fits))
whole_value name (Blob b) fits there = absurd (true≢false (sym fits))

stamped : (schema_trees : Trees) (row : Row) → passes Datatype (schema_of 6) schema_trees done row ≡ true → passes NotNull (schema_of 6) schema_trees done row ≡ true → IsStamped row
stamped db [] typed there = absurd (true≢false (sym there))
stamped db (id ∷ []) typed there = absurd (true≢false (sym there))
stamped db (id ∷ station ∷ []) typed there = absurd (true≢false (sym (and_parts (not (is_null station)) false there).1))
stamped db (id ∷ station ∷ number ∷ rest) typed there =
    let fits = (and_parts _ _ typed).0 in
    let first = and_parts (suits (whole (codes "station") true) station) _ fits in
    let second = and_parts (suits (whole (codes "number") true) number) _ first.1 in
    let here = and_parts (not (is_null station)) _ there in
    let also = and_parts (not (is_null number)) _ here.1 in
    (whole_value (codes "station") station first.0 here.0, whole_value (codes "number") number second.0 also.0)

pub not_null : (v : Value) → is_int v ≡ true → is_null v ≡ false
not_null Null h = absurd (true≢false (sym h))
not_null (Int n) h = refl
not_null (Real x) h = refl
not_null (Text t) h = refl
not_null (Blob b) h = refl

ints_equal : (a b : Value) → is_int a ≡ true → is_int b ≡ true → value_cmp a b ≡ Equal → equal Binary a b ≡ true
unfolding binary
ints_equal a b k l same = rw (not_null a k, not_null b l, same) refl

ints_differ : (a b : Value) → is_int a ≡ true → is_int b ≡ true → value_cmp a b ≡ Less → differ a b ≡ true
unfolding binary
ints_differ a b k l less = rw (not_null a k, not_null b l, less) refl

tied : (o p : Ordering) → is_eq (ordering_then o (ordering_then p Equal)) ≡ true → (o ≡ Equal) × (p ≡ Equal)
tied Less p h = absurd (true≢false (sym h))
tied Equal Less h = absurd (true≢false (sym h))
tied Equal Equal h = (refl, refl)
tied Equal Greater h = absurd (true≢false (sym h))
tied Greater p h = absurd (true≢false (sym h))

agrees : (x y : Row) → IsStamped x → IsStamped y → is_eq (stamp_cmp x y) ≡ true → agree plain (1 ∷ 2 ∷ []) x (1 ∷ 2 ∷ []) y ≡ true
unfolding first_key
agrees x y p q h =
    let both = tied (value_cmp (column x 1) (column y 1)) (value_cmp (column x 2) (column y 2)) h in
    rw (ints_equal (column x 1) (column y 1) p.0 q.0 both.0, ints_equal (column x 2) (column y 2) p.1 q.1 both.1) refl

module _ (db : Trees) (obeys : Obeys (schema_of 6) db) (up : IsTable (db 4)) (keyed : AreKeyed (db 4)) where
  pub all_stamped : AllByRecursion IsStamped (db 4)
  all_stamped = all_from IsStamped (db 4) (λ row h. stamped db row
      (all_has (λ r. passes Datatype (schema_of 6) db done r ≡ true) (db 4) row (obeys.rules Datatype).1.1.1.1.0 h)
      (all_has (λ r. passes NotNull (schema_of 6) db done r ≡ true) (db 4) row (obeys.rules NotNull).1.1.1.1.0 h))

  no_clash : (row : Row) → Has (db 4) row → clashes plain (1 ∷ 2 ∷ []) (db 4) row ≡ false
  no_clash row h = off (clashes plain (1 ∷ 2 ∷ []) (db 4) row) (all_has (λ r. passes Unique (schema_of 6) db done r ≡ true) (db 4) row (obeys.rules Unique).1.1.1.1.0 h)
    where
      off : (b : Bool) → (not b && true) ≡ true → b ≡ false
      off true h = absurd (true≢false (sym h))
      off false h = refl

  apart_from : (xs : List Row) → ((z : Row) → Has xs z → Has (db 4) z) → IsTable xs → IsDistinct (same_key stamp_cmp stamp_total) xs
  unfolding IsDistinct
  apart_from [] within rises = tt
  apart_from (x ∷ xs) within rises = (all_from _ xs each, apart_from xs (λ z h. within z (inr h)) rises.1)
    where
      each : (y : Row) → Has xs y → same_key stamp_cmp stamp_total x y ≡ false
      each y there = elim (cases_Bool (is_eq (stamp_cmp x y))) [
        | inl same ↦
            let hx = within x (inl refl) in
            let hy = within y (inr there) in
            let less = all_has (λ r. value_cmp (rowid x) (rowid r) ≡ Less) xs y rises.0 there in
            let stamps = λ (z : Row) (h : Has (db 4) z). all_has IsStamped (db 4) z all_stamped h in
            let ids = λ (z : Row) (h : Has (db 4) z). all_has (λ r. is_int (rowid r) ≡ true) (db 4) z keyed h in
            let clash = some_from (λ other. agree plain (1 ∷ 2 ∷ []) other (1 ∷ 2 ∷ []) y && differ (rowid other) (rowid y)) (db 4) x hx
            (and_from _ _ (agrees x y (stamps x hx) (stamps y hy) same) (ints_differ (rowid x) (rowid y) (ids x hx) (ids y hy) less)) in
            absurd (true≢false (sym clash ∙ no_clash y hy))
        | inr other ↦ other
      ]

  pub apart : IsDistinct (same_key stamp_cmp stamp_total) (db 4)
  apart = apart_from (db 4) (λ z h. h) up

-- a stamp before another one, by the order of the two the other way round
stamps_lower : (s t n m : ℤ) → (int_lt s t || (int_eq s t && int_lt n m)) ≡ is_gt (ordering_then (int_cmp t s) (ordering_then (int_cmp m n) Equal))
stamps_lower s t n m = grind (arith, ints)

ints_cmp : (v w : Value) → is_int v ≡ true → is_int w ≡ true → int_cmp (id_in v) (id_in w) ≡ value_cmp v w
ints_cmp v w k l = sym (ap (λ x. value_cmp x w) (int_is v k) ∙ ap (λ x. value_cmp (Int (id_in v)) x) (int_is w l) ∙ value_cmp-Int (id_in v) (id_in w))

pub same_stamps : (a b : Row) → IsStamped a → IsStamped b → done_before (done_of a) (done_of b) ≡ before_by stamp_cmp a b
same_stamps a b p q =
    let first : int_cmp (id_in (column b 1)) (id_in (column a 1)) ≡ value_cmp (column b 1) (column a 1) = ints_cmp (column b 1) (column a 1) q.0 p.0 in
    let second : int_cmp (id_in (column b 2)) (id_in (column a 2)) ≡ value_cmp (column b 2) (column a 2) = ints_cmp (column b 2) (column a 2) q.1 p.1 in
    stamps_lower (id_in (column a 1)) (id_in (column b 1)) (id_in (column a 2)) (id_in (column b 2)) ∙ rw (first, second) refl

-- the same stamp, by the order of the two
one_stamp : (s t n m : ℤ) → (int_eq s t && int_eq n m) ≡ is_eq (ordering_then (int_cmp s t) (ordering_then (int_cmp n m) Equal))
one_stamp s t n m = grind (arith, ints)

is_stamp : (a b : Row) → IsStamped a → IsStamped b → done_is (done_of a) (done_of b) ≡ is_eq (stamp_cmp a b)
is_stamp a b p q = one_stamp (id_in (column a 1)) (id_in (column b 1)) (id_in (column a 2)) (id_in (column b 2)) ∙ rw (ints_cmp (column a 1) (column b 1) p.0 q.0, ints_cmp (column a 2) (column b 2) p.1 q.1) refl

-- a row whose stamp no row has is new among the rows of acts
pub stamp_new : (row : Row) (rows : List Row) → IsStamped row → AllByRecursion IsStamped rows → AllByRecursion (λ r. same_key stamp_cmp stamp_total r row ≡ false) rows → is_new done_is (done_of row) (in_place done_before (map done_of rows)) ≡ true
stamp_new row rows here all free =
    let sorted = in_place (before_by stamp_cmp) rows in
    subst (λ l. is_new done_is (done_of row) l ≡ true) (map_in_place stamp_cmp stamp_total done_of done_before IsStamped same_stamps rows all)
    (ap not (none sorted (all_in_place stamp_cmp stamp_total IsStamped rows all) (all_in_place stamp_cmp stamp_total (λ r. same_key stamp_cmp stamp_total r row ≡ false) rows free)))
  where
    none : (rows : List Row) → AllByRecursion IsStamped rows → AllByRecursion (λ r. same_key stamp_cmp stamp_total r row ≡ false) rows → list_any (λ kept. done_is kept (done_of row)) (map done_of rows) ≡ false
    none [] all free = refl
    none (r ∷ rows) all free = or_from _ _ (is_stamp r row all.0 here ∙ free.0) (none rows all.1 free.1)
