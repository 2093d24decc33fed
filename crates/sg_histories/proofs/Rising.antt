-- Rows that rise, where new ones are put among them, and where they are judged one by one.
use Rattle.std.proofs.Common.{◌≡◌, ◌+◌, Bool, true, false, ◌&&◌, cond, List, [], ◌∷◌, ◌++◌, count_by, None, refl, sym, ◌∙◌, arith, subst}
use Rattle.std.specs.List.{list_all, list_any}
use Rattle.std.specs.Ordering.{int_eq}
use Rattle.std.specs.Prelude.{ℤ, int_lt}
use Rattle.std.proofs.lemmas.Grind.{common_steps}
use Rattle.std.proofs.lemmas.Int.{ints}
use Rattle.std.proofs.lemmas.List.{append_assoc}
use Rattle.sg_lists.proofs.Bools.{not_or_parts}
use Rattle.sg_lists.proofs.Integers.{pairs_total, pairs_trans}
use Rattle.sg_lists.proofs.Options.{is_none-true}
use Rattle.sg_plan.specs.Limits.{each_keeps, first_bad}
use Rattle.sg_plan.proofs.Lists.{first_bad-each}
use Rattle.sg_keeper.specs.Rows.{ballot_before, ballot_is, done_before, done_is, is_new, put, void_before, void_is}
use Rattle.sg_histories.specs.ValidRows.{climbs}
use Rattle.sg_histories.proofs.Pairing.{BeforeAll, Rises}

-- keys in an order: of two that differ one is lower
pub record IsOrder {A : Type 0} (before same : A → A → Bool) : Type 0 where
  pub trans : (a b c : A) → before a b ≡ true → before b c ≡ true → before a c ≡ true
  pub other : (a b : A) → same b a ≡ false → before a b ≡ false → before b a ≡ true

pub ballot_order : IsOrder ballot_before ballot_is
ballot_order = record {
  trans = λ a b c h k. ints_trans a.ballot b.ballot c.ballot h k;
  other = λ a b h k. ints_other a.ballot b.ballot h k;
}
  where
    ints_trans : (a b c : ℤ) → int_lt a b ≡ true → int_lt b c ≡ true → int_lt a c ≡ true
    ints_trans a b c h k = grind (arith, ints, h, k)

    ints_other : (a b : ℤ) → int_eq b a ≡ false → int_lt a b ≡ false → int_lt b a ≡ true
    ints_other a b h k = grind (arith, ints, h, k)

pub void_order : IsOrder void_before void_is
void_order = record {
  trans = λ a b c h k. ints_trans a.ballot b.ballot c.ballot h k;
  other = λ a b h k. ints_other a.ballot b.ballot h k;
}
  where
    ints_trans : (a b c : ℤ) → int_lt a b ≡ true → int_lt b c ≡ true → int_lt a c ≡ true
    ints_trans a b c h k = grind (arith, ints, h, k)

    ints_other : (a b : ℤ) → int_eq b a ≡ false → int_lt a b ≡ false → int_lt b a ≡ true
    ints_other a b h k = grind (arith, ints, h, k)

pub done_order : IsOrder done_before done_is
done_order = record {
  trans = λ a b c h k. pairs_trans a.station b.station c.station a.number b.number c.number h k;
  other = λ a b h k. pairs_total a.station b.station a.number b.number k h;
}

-- PUT

pub before_more : {A : Type 0} (before same : A → A → Bool) → IsOrder before same → (row x : A) (xs : List A) → before row x ≡ true → BeforeAll before x xs → BeforeAll before row xs
before_more before same order row x [] h k = tt
before_more before same order row x (y ∷ ys) h k = (order.trans row x y h k.0, before_more before same order row x ys h k.1)

before_put : {A : Type 0} (before : A → A → Bool) (x row : A) (xs : List A) → before x row ≡ true → BeforeAll before x xs → BeforeAll before x (put before row xs)
before_put before x row [] h k = (h, tt)
before_put before x row (y ∷ ys) h k = by_order (before row y) (before_put before x row ys h k.1)
  where
    by_order : (b : Bool) → BeforeAll before x (put before row ys) → BeforeAll before x (cond b (row ∷ y ∷ ys) (y ∷ put before row ys))
    by_order true ih = (h, k)
    by_order false ih = (k.0, ih)

-- a new row put into rows that rise
pub put_rises : {A : Type 0} (before same : A → A → Bool) → IsOrder before same → (row : A) (rows : List A) → is_new same row rows ≡ true → Rises before rows → Rises before (put before row rows)
put_rises before same order row [] new rises = (tt, tt)
put_rises before same order row (x ∷ xs) new rises =
    let parts = not_or_parts (same x row) (list_any (λ kept. same kept row) xs) new in
    by_order (before row x) refl parts.0 (put_rises before same order row xs parts.1 rises.1)
  where
    by_order : (b : Bool) → before row x ≡ b → same x row ≡ false → Rises before (put before row xs) → Rises before (cond b (row ∷ x ∷ xs) (x ∷ put before row xs))
    by_order true e differ ih = ((e, before_more before same order row x xs e rises.0), rises)
    by_order false e differ ih = (before_put before x row xs (order.other row x differ e) rises.0, ih)

-- a test of all rows, and a count
pub all_put : {A : Type 0} (before : A → A → Bool) (p : A → Bool) (row : A) (rows : List A) → p row ≡ true → list_all p rows ≡ true → list_all p (put before row rows) ≡ true
all_put before p row [] h k = rw h refl
all_put before p row (x ∷ xs) h k = by_order (before row x) (p x) refl k (λ rest. all_put before p row xs h rest)
  where
    by_order : (b c : Bool) → p x ≡ c → (c && list_all p xs) ≡ true → (list_all p xs ≡ true → list_all p (put before row xs) ≡ true) → list_all p (cond b (row ∷ x ∷ xs) (x ∷ put before row xs)) ≡ true
    by_order true true e k ih = rw (h, e, k) refl
    by_order false true e k ih = rw (e, ih k) refl
    by_order b false e k ih = cc

pub count_put : {A : Type 0} (before : A → A → Bool) (p : A → Bool) (row : A) (rows : List A) → count_by p (put before row rows) ≡ cond (p row) 1 0 + count_by p rows
count_put before p row [] = grind (arith, common_steps)
count_put before p row (x ∷ xs) = by_order (before row x) (count_put before p row xs)
  where
    by_order : (b : Bool) → count_by p (put before row xs) ≡ cond (p row) 1 0 + count_by p xs → count_by p (cond b (row ∷ x ∷ xs) (x ∷ put before row xs)) ≡ cond (p row) 1 0 + count_by p (x ∷ xs)
    by_order true ih = grind (arith, common_steps)
    by_order false ih = grind (arith, common_steps, ih)

-- JUDGING

pub climbs_last : {A : Type 0} (before : A → A → Bool) (xs : List A) (x row : A) → climbs before (xs ++ x ∷ []) row ≡ before x row
climbs_last before [] x row = refl
climbs_last before (y ∷ []) x row = refl
climbs_last before (y ∷ z ∷ xs) x row = climbs_last before (z ∷ xs) x row

-- the first of the rows is behind the earlier ones
abbrev pub Starts : {A : Type 0} → (A → A → Bool) → List A → List A → Type 0
Starts before earlier [] = Unit {0}
Starts before earlier (x ∷ xs) = climbs before earlier x ≡ true

starts_next : {A : Type 0} (before : A → A → Bool) (earlier : List A) (x : A) (xs : List A) → BeforeAll before x xs → Starts before (earlier ++ x ∷ []) xs
starts_next before earlier x [] h = tt
starts_next before earlier x (y ∷ ys) h = climbs_last before earlier x y ∙ h.0

-- rows that rise keep a test that holds of each row that climbs
pub each_of : {A : Type 0} (before : A → A → Bool) (keeps : List A → A → Bool) (rows earlier rest : List A) → rows ≡ earlier ++ rest → Starts before earlier rest → Rises before rest
    → ((front : List A) (x : A) (back : List A) → rows ≡ front ++ x ∷ back → climbs before front x ≡ true → keeps front x ≡ true)
    → each_keeps keeps earlier rest ≡ true
each_of before keeps rows earlier [] is starts rises each = refl
each_of before keeps rows earlier (x ∷ rest) is starts rises each =
    let here : keeps earlier x ≡ true = each earlier x rest is starts in
    let next : rows ≡ (earlier ++ x ∷ []) ++ rest = is ∙ sym (append_assoc earlier (x ∷ []) rest) in
    let ih = each_of before keeps rows (earlier ++ x ∷ []) rest next (starts_next before earlier x rest rises.0) rises.1 each in
    rw (here) ih

starts_first : {A : Type 0} (before : A → A → Bool) (rows : List A) → Starts before [] rows
starts_first before [] = tt
starts_first before (x ∷ xs) = refl

pub none_bad : {A : Type 0} (before : A → A → Bool) (keeps : List A → A → Bool) (rows : List A) → Rises before rows
    → ((front : List A) (x : A) (back : List A) → rows ≡ front ++ x ∷ back → climbs before front x ≡ true → keeps front x ≡ true)
    → first_bad keeps [] rows ≡ None
none_bad before keeps rows rises each =
    is_none-true (first_bad keeps [] rows) (first_bad-each keeps [] rows ∙ each_of before keeps rows [] rows refl (starts_first before rows) rises each)

-- a test of all rows at one of them
pub all_inside : {A : Type 0} (p : A → Bool) (rows front : List A) (x : A) (back : List A) → rows ≡ front ++ x ∷ back → list_all p rows ≡ true → p x ≡ true
all_inside {A} p rows front x back is all = inside front (subst (λ (l : List A). list_all p l ≡ true) is all)
  where
    here : (a b : Bool) → (a && b) ≡ true → a ≡ true
    here true b e = refl
    here false b e = cc

    later : (a b : Bool) → (a && b) ≡ true → b ≡ true
    later true b e = e
    later false b e = cc

    inside : (front : List A) → list_all p (front ++ x ∷ back) ≡ true → p x ≡ true
    inside [] k = here (p x) (list_all p back) k
    inside (y ∷ front) k = inside front (later (p y) (list_all p (front ++ x ∷ back)) k)
