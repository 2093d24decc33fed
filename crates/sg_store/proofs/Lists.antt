-- Rows put into a tree, and into the list that stands for it.
use Rattle.std.proofs.Common.{◌≡◌, ℤ, pos, ◌+ℤ◌, ◌<ℤ◌, List, [], ◌∷◌, ◌++◌, map, fold, Bool, true, false, not, ◌||◌, cond, int_lt, IsTrue, Ordering, Less, Equal, Greater, int_cmp, refl, sym, ap, ap₂, ◌∙◌, arith}
use Rattle.std.specs.List.{AllByRecursion, list_any}
use Rattle.std.specs.Ordering.{match_ordering, is_eq, is_gt, int_eq}
use Rattle.std.specs.Cmp.{int_cmp_is}
use Rattle.std.proofs.lemmas.List.{map-append}
use Rattle.std.proofs.lemmas.List.Sums.{fold-append}
use Rattle.std.proofs.lemmas.Int.{ints}
use Rattle.std.proofs.lemmas.Bool.Decides.{nat_tests}
use Rattle.sqlite.specs.declared.types.Value.TheVariants.{Int}
use Rattle.sqlite.specs.Order.{Row, value_cmp}
use Rattle.sqlite.specs.Tree.{put_row, rowid, IsTable}
use Rattle.sqlite.specs.View.{is_int}
use Rattle.sqlite.specs.Edit.{id_in, is_taken, next_rowid}
use Rattle.sqlite_value.proofs.OrderLemmas.{value_cmp-Int}
use Rattle.sqlite_rules.proofs.TableLemmas.{int_is}
use Rattle.sg_lists.proofs.Bools.{not_or_parts}
use Rattle.sg_keeper.specs.Rows.{put, is_new}
use Rattle.sg_store.specs.Told.{in_place}

abbrev pub AreKeyed : List Row → Type 0
AreKeyed = AllByRecursion (λ r. IsTrue (is_int (rowid r)))

-- the order by rowid is that of the integers
pub rowids_cmp : (r s : Row) → is_int (rowid r) ≡ true → is_int (rowid s) ≡ true → int_cmp (id_in (rowid r)) (id_in (rowid s)) ≡ value_cmp (rowid r) (rowid s)
rowids_cmp r s k l = sym (ap (λ v. value_cmp v (rowid s)) (int_is (rowid r) k) ∙ ap (λ v. value_cmp (Int (id_in (rowid r))) v) (int_is (rowid s) l) ∙ value_cmp-Int (id_in (rowid r)) (id_in (rowid s)))

-- whether an integer is lower, by the order of the two the other way round
pub lower_by : (a b : ℤ) → int_lt b a ≡ is_gt (int_cmp a b)
lower_by a b = grind (arith, ints)

-- the tests of a list's keys are those of the rowids
pub record AreRowids {A : Type 0} (f : Row → A) (before same : A → A → Bool) : Type 0 where
  pub place : (r s : Row) → is_int (rowid r) ≡ true → is_int (rowid s) ≡ true → before (f s) (f r) ≡ is_gt (value_cmp (rowid r) (rowid s))
  pub key : (r s : Row) → is_int (rowid r) ≡ true → is_int (rowid s) ≡ true → same (f r) (f s) ≡ is_eq (value_cmp (rowid r) (rowid s))

-- it is so for a key that is the rowid
pub rowids_lower : (r s : Row) → is_int (rowid r) ≡ true → is_int (rowid s) ≡ true → int_lt (id_in (rowid s)) (id_in (rowid r)) ≡ is_gt (value_cmp (rowid r) (rowid s))
rowids_lower r s k l = lower_by (id_in (rowid r)) (id_in (rowid s)) ∙ ap is_gt (rowids_cmp r s k l)

pub rowids_same : (r s : Row) → is_int (rowid r) ≡ true → is_int (rowid s) ≡ true → int_eq (id_in (rowid r)) (id_in (rowid s)) ≡ is_eq (value_cmp (rowid r) (rowid s))
rowids_same r s k l = ap is_eq (rowids_cmp r s k l)

-- a row with a new key is put at its place in the tree and in the list alike
pub put_mapped : {A : Type 0} (f : Row → A) (before same : A → A → Bool) → AreRowids f before same
    → (new : Row) (rows : List Row) → is_int (rowid new) ≡ true → AreKeyed rows → is_new same (f new) (map f rows) ≡ true → map f (put_row new rows) ≡ put before (f new) (map f rows)
put_mapped f before same ids new [] keyed all free = refl
put_mapped f before same ids new (r ∷ rows) keyed all free =
    rw (ids.place r new all.0 keyed) (go (value_cmp (rowid r) (rowid new)) (sym (ids.key r new all.0 keyed) ∙ parts.0) (put_mapped f before same ids new rows keyed all.1 parts.1))
  where
    parts : (same (f r) (f new) ≡ false) × (is_new same (f new) (map f rows) ≡ true)
    parts = not_or_parts (same (f r) (f new)) (list_any (λ kept. same kept (f new)) (map f rows)) free

    go : (o : Ordering) → is_eq o ≡ false → map f (put_row new rows) ≡ put before (f new) (map f rows)
        → map f (match_ordering o (r ∷ put_row new rows) (new ∷ rows) (new ∷ r ∷ rows)) ≡ cond (is_gt o) (f new ∷ f r ∷ map f rows) (f r ∷ put before (f new) (map f rows))
    go Less apart rest = ap (λ l. f r ∷ l) rest
    go Equal apart rest = absurd cc
    go Greater apart rest = refl

-- a row whose rowid is not taken has a new key
pub new_mapped : {A : Type 0} (f : Row → A) (before same : A → A → Bool) → AreRowids f before same → (new : Row) (rows : List Row) → is_int (rowid new) ≡ true → AreKeyed rows → is_taken rows new ≡ false → is_new same (f new) (map f rows) ≡ true
new_mapped f before same ids new rows keyed all free = ap not (same_taken rows all ∙ free)
  where
    same_taken : (rows : List Row) → AreKeyed rows → list_any (λ kept. same kept (f new)) (map f rows) ≡ is_taken rows new
    same_taken [] all = refl
    same_taken (r ∷ rows) all = ap₂ ◌||◌ (ids.key r new all.0 keyed) (same_taken rows all.1)

-- ---- a row whose rowid is chosen goes to the end

lower_than : (a b c : ℤ) → int_cmp a b ≡ Less → b <ℤ c → a <ℤ c
lower_than a b c p q = grind (arith, ints, nat_tests)

abbrev step_rowid : ℤ → Row → ℤ
step_rowid n r = id_in (rowid r) +ℤ pos 1

below_next : (x : Row) (rows : List Row) → IsTable (x ∷ rows) → AreKeyed (x ∷ rows) → AllByRecursion (λ r. id_in (rowid r) <ℤ fold step_rowid (step_rowid (pos 1) x) rows) (x ∷ rows)
below_next x [] up keyed = (omega (arith, ints), tt)
below_next x (y ∷ rows) up keyed =
    let later = below_next y rows up.1 keyed.1 in
    let lower = rw (int_is (rowid x) keyed.0, int_is (rowid y) keyed.1.0, value_cmp-Int (id_in (rowid x)) (id_in (rowid y))) at up.0.0 in
    (lower_than (id_in (rowid x)) (id_in (rowid y)) _ lower later.0, later)

put_behind : (id : ℤ) (rest : Row) (rows : List Row) → AreKeyed rows → AllByRecursion (λ r. id_in (rowid r) <ℤ id) rows → put_row (Int id ∷ rest) rows ≡ rows ++ (Int id ∷ rest) ∷ []
put_behind id rest [] keyed low = refl
put_behind id rest (r ∷ rows) keyed low =
    let less : value_cmp (rowid r) (Int id) ≡ Less = ap (λ v. value_cmp v (Int id)) (int_is (rowid r) keyed.0) ∙ value_cmp-Int (id_in (rowid r)) id ∙ sym (int_cmp_is (id_in (rowid r)) id Less low.0) in
    rw less (ap (λ l. r ∷ l) (put_behind id rest rows keyed.1 low.1))

pub put_last : (rest : Row) (rows : List Row) → IsTable rows → AreKeyed rows → put_row (Int (next_rowid rows) ∷ rest) rows ≡ rows ++ (Int (next_rowid rows) ∷ rest) ∷ []
put_last rest [] up keyed = refl
put_last rest (x ∷ rows) up keyed = put_behind (next_rowid (x ∷ rows)) rest (x ∷ rows) keyed (below_next x rows up keyed)

-- one more row at the end of the tree is one more in its place in the list
pub in_place-push : {A : Type 0} (f : Row → A) (before : A → A → Bool) (rows : List Row) (row : Row) → in_place before (map f (rows ++ row ∷ [])) ≡ put before (f row) (in_place before (map f rows))
in_place-push f before rows row = ap (in_place before) (map-append f rows (row ∷ [])) ∙ fold-append (λ l r. put before r l) [] (map f rows) (f row ∷ [])
