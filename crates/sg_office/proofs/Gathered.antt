-- Rows in the order of their keys: the text at a stamp, one more row, and one less.
use Rattle.std.proofs.Common.{◌≡◌, ℕ, Bool, true, false, ◌||◌, not, cond, List, [], ◌∷◌, ◌++◌, ◌⊎◌, inl, inr, Option, Some, None, refl, ap, sym, subst, ◌∙◌, arith}
use Rattle.std.proofs.lemmas.Int.{ints}
use Rattle.std.specs.List.{list_any}
use Rattle.std.specs.Prelude.{pos}
use Rattle.sg_keeper.specs.Rows.{done_before, done_is, is_new, put}
use Rattle.sg_keeper.specs.declared.rows.DoneRow.{DoneRow}
use Rattle.sg_histories.specs.Standing.{text_at}
use Rattle.sg_office.specs.Acts.{without}
use Rattle.sg_office.specs.inside.Runs.{AreApart, Inserted, gathered}

-- KEYS

one_before : (a b : DoneRow) → done_is a b ≡ false → done_before a b ≡ not (done_before b a)
one_before a b other = grind (arith, ints, other)

-- what comes before a row, and a row that doesn't, stand so to each other
between : (a b x : DoneRow) → done_before a x ≡ true → done_before b x ≡ false → done_before a b ≡ true
between a b x lower higher = grind (arith, ints, lower, higher)

flipped : (a b : DoneRow) → done_is a b ≡ done_is b a
flipped a b = grind (arith, ints)

-- rows of one key are alike to a third one
alike : (a b x : DoneRow) → done_is a b ≡ true → done_is x b ≡ done_is x a
alike a b x same = grind (arith, ints, same)

-- where no row has the key of this one, neither the first row nor one behind it has it
pub first_new : (done x : DoneRow) (xs : List DoneRow) → is_new done_is done (x ∷ xs) ≡ true → (done_is x done ≡ false) × (is_new done_is done xs ≡ true)
first_new done x xs new = parts (done_is x done) (list_any (λ kept. done_is kept done) xs) new
  where
    parts : (a b : Bool) → not (a || b) ≡ true → (a ≡ false) × (not b ≡ true)
    parts true b e = absurd cc
    parts false b e = (refl, e)

more_new : (done x : DoneRow) (xs : List DoneRow) → done_is x done ≡ false → is_new done_is done xs ≡ true → is_new done_is done (x ∷ xs) ≡ true
more_new done x xs other new = ap (λ b. not (b || list_any (λ kept. done_is kept done) xs)) other ∙ new

-- ONE ROW PUT IN

put_first : (a x : DoneRow) (xs : List DoneRow) → done_before a x ≡ true → put done_before a (x ∷ xs) ≡ a ∷ x ∷ xs
put_first a x xs before = ap (λ b. cond b (a ∷ x ∷ xs) (x ∷ put done_before a xs)) before

put_later : (a x : DoneRow) (xs : List DoneRow) → done_before a x ≡ false → put done_before a (x ∷ xs) ≡ x ∷ put done_before a xs
put_later a x xs after = ap (λ b. cond b (a ∷ x ∷ xs) (x ∷ put done_before a xs)) after

-- the row that comes first is put in first
put_both : (a b : DoneRow) (xs : List DoneRow) → put done_before b xs ≡ b ∷ xs → put done_before a xs ≡ a ∷ xs → done_before a b ≡ true → done_before b a ≡ false
    → put done_before a (put done_before b xs) ≡ put done_before b (put done_before a xs)
put_both a b xs b_first a_first before after =
    ap (put done_before a) b_first ∙ (put_first a b xs before
    ∙ sym (ap (put done_before b) a_first ∙ (put_later b a xs after ∙ ap (λ l. a ∷ l) b_first)))

-- a row that comes before x, and one that doesn't
put_across : (a b x : DoneRow) (xs : List DoneRow) → done_before a x ≡ true → done_before b x ≡ false → done_before b a ≡ false
    → put done_before a (put done_before b (x ∷ xs)) ≡ put done_before b (put done_before a (x ∷ xs))
put_across a b x xs a_before b_after after =
    ap (put done_before a) (put_later b x xs b_after) ∙ (put_first a x (put done_before b xs) a_before
    ∙ sym (ap (put done_before b) (put_first a x xs a_before) ∙ (put_later b a (x ∷ xs) after ∙ ap (λ l. a ∷ l) (put_later b x xs b_after))))

-- it is one which of two rows with different keys is put in first
put_commutes : (a b : DoneRow) (xs : List DoneRow) → done_is a b ≡ false → put done_before a (put done_before b xs) ≡ put done_before b (put done_before a xs)
put_commutes a b [] other = by_order (done_before a b) refl
  where
    by_order : (r : Bool) → done_before a b ≡ r → put done_before a (b ∷ []) ≡ put done_before b (a ∷ [])
    by_order true e = put_first a b [] e ∙ sym (put_later b a [] (one_before b a (flipped b a ∙ other) ∙ ap not e))
    by_order false e = put_later a b [] e ∙ sym (put_first b a [] (one_before b a (flipped b a ∙ other) ∙ ap not e))
put_commutes a b (x ∷ xs) other = by_order (done_before a x) (done_before b x) (done_before a b) refl refl refl (put_commutes a b xs other)
  where
    by_order : (p q r : Bool) → done_before a x ≡ p → done_before b x ≡ q → done_before a b ≡ r
        → put done_before a (put done_before b xs) ≡ put done_before b (put done_before a xs)
        → put done_before a (put done_before b (x ∷ xs)) ≡ put done_before b (put done_before a (x ∷ xs))
    by_order true true true p q r rest = put_both a b (x ∷ xs) (put_first b x xs q) (put_first a x xs p) r (one_before b a (flipped b a ∙ other) ∙ ap not r)
    by_order true true false p q r rest = sym (put_both b a (x ∷ xs) (put_first a x xs p) (put_first b x xs q) (one_before b a (flipped b a ∙ other) ∙ ap not r) r)
    by_order true false r p q r_is rest = put_across a b x xs p q (one_before b a (flipped b a ∙ other) ∙ ap not (between a b x p q))
    by_order false true r p q r_is rest = sym (put_across b a x xs q p (one_before a b other ∙ ap not (between b a x q p)))
    by_order false false r p q r_is rest =
        ap (put done_before a) (put_later b x xs q) ∙ (put_later a x (put done_before b xs) p ∙ (ap (λ l. x ∷ l) rest
        ∙ sym (ap (put done_before b) (put_later a x xs p) ∙ put_later b x (put done_before a xs) q)))

swapped : (a b c : Bool) → (a || (b || c)) ≡ (b || (a || c))
swapped true true c = refl
swapped true false c = refl
swapped false true c = refl
swapped false false c = refl

-- a test passes where it passes the row or another one
any_put : (test : DoneRow → Bool) (row : DoneRow) (xs : List DoneRow) → list_any test (put done_before row xs) ≡ (test row || list_any test xs)
any_put test row [] = refl
any_put test row (x ∷ xs) = by_order (done_before row x) (any_put test row xs)
  where
    by_order : (b : Bool) → list_any test (put done_before row xs) ≡ (test row || list_any test xs)
        → list_any test (cond b (row ∷ x ∷ xs) (x ∷ put done_before row xs)) ≡ (test row || (test x || list_any test xs))
    by_order true rest = refl
    by_order false rest = ap (λ b. test x || b) rest ∙ swapped (test x) (test row) (list_any test xs)

any_gathered : (test : DoneRow → Bool) (rows : List DoneRow) → list_any test (gathered rows) ≡ list_any test rows
any_gathered test [] = refl
any_gathered test (x ∷ xs) = any_put test x (gathered xs) ∙ ap (λ b. test x || b) (any_gathered test xs)

-- a key is new among the rows in whatever order
pub new_gathered : (done : DoneRow) (rows : List DoneRow) → is_new done_is done (gathered rows) ≡ is_new done_is done rows
new_gathered done rows = ap (λ b. not b) (any_gathered (λ kept. done_is kept done) rows)

-- TEXTS

-- the first text, or else the other
abbrev pub or_else : Option (List ℕ) → Option (List ℕ) → Option (List ℕ)
or_else None other = other
or_else (Some text) other = Some text

-- a row that asks for the text at a stamp
abbrev pub asked : ℕ → ℕ → DoneRow
asked station number = record { station = pos station; number = pos number; act = [] }

text_put : (station number : ℕ) (row : DoneRow) (xs : List DoneRow) → is_new done_is row xs ≡ true
    → text_at station number (put done_before row xs) ≡ cond (done_is row (asked station number)) (Some row.act) (text_at station number xs)
text_put station number row [] new = refl
text_put station number row (x ∷ xs) new = by_order (done_before row x) (text_put station number row xs parts.1)
  where
    parts : (done_is x row ≡ false) × (is_new done_is row xs ≡ true)
    parts = first_new row x xs new

    by_test : (s t : Bool) → done_is row (asked station number) ≡ s → done_is x (asked station number) ≡ t
        → cond t (Some x.act) (cond s (Some row.act) (text_at station number xs)) ≡ cond s (Some row.act) (cond t (Some x.act) (text_at station number xs))
    by_test true true row_is x_is = let clash : false ≡ true = sym parts.0 ∙ (sym (alike row (asked station number) x row_is) ∙ x_is) in (absurd cc)
    by_test true false row_is x_is = refl
    by_test false t row_is x_is = refl

    by_order : (b : Bool) → text_at station number (put done_before row xs) ≡ cond (done_is row (asked station number)) (Some row.act) (text_at station number xs)
        → text_at station number (cond b (row ∷ x ∷ xs) (x ∷ put done_before row xs))
        ≡ cond (done_is row (asked station number)) (Some row.act) (text_at station number (x ∷ xs))
    by_order true rest = refl
    by_order false rest =
        ap (λ o. cond (done_is x (asked station number)) (Some x.act) o) rest ∙ by_test (done_is row (asked station number)) (done_is x (asked station number)) refl refl

-- the text at a stamp is that among the rows in whatever order
pub text_gathered : (station number : ℕ) (rows : List DoneRow) → AreApart rows → text_at station number (gathered rows) ≡ text_at station number rows
text_gathered station number [] apart = refl
text_gathered station number (x ∷ xs) apart =
    text_put station number x (gathered xs) (new_gathered x xs ∙ apart.0)
    ∙ ap (λ o. cond (done_is x (asked station number)) (Some x.act) o) (text_gathered station number xs apart.1)

-- ONE MORE ROW

any_among : (test : DoneRow → Bool) (row : DoneRow) (front rest : List DoneRow) → list_any test (front ++ row ∷ rest) ≡ (test row || list_any test (front ++ rest))
any_among test row [] rest = refl
any_among test row (x ∷ xs) rest = ap (λ b. test x || b) (any_among test row xs rest) ∙ swapped (test x) (test row) (list_any test (xs ++ rest))

put_among : (row : DoneRow) (front rest : List DoneRow) → is_new done_is row (front ++ rest) ≡ true → gathered (front ++ row ∷ rest) ≡ put done_before row (gathered (front ++ rest))
put_among row [] rest new = refl
put_among row (x ∷ xs) rest new =
    let parts = first_new row x (xs ++ rest) new in
    ap (put done_before x) (put_among row xs rest parts.1) ∙ put_commutes x row (gathered (xs ++ rest)) parts.0

apart_among : (row : DoneRow) (front rest : List DoneRow) → is_new done_is row (front ++ rest) ≡ true → AreApart (front ++ rest) → AreApart (front ++ row ∷ rest)
apart_among row [] rest new apart = (new, apart)
apart_among row (x ∷ xs) rest new apart =
    let parts = first_new row x (xs ++ rest) new in (
      ap not (any_among (λ kept. done_is kept x) row xs rest) ∙ more_new x row (xs ++ rest) (flipped row x ∙ parts.0) apart.0,
      apart_among row xs rest parts.1 apart.1,
    )

-- rows with one more among them, whose key is new
pub row_in : (row : DoneRow) (old new : List DoneRow) → Inserted row old new → AreApart old → is_new done_is row (gathered old) ≡ true
    → (gathered new ≡ put done_before row (gathered old)) × AreApart new
row_in row old new i apart is_new_row =
    let among : is_new done_is row (i.front ++ i.rest) ≡ true = ap (is_new done_is row) (sym i.old_is) ∙ (sym (new_gathered row old) ∙ is_new_row) in (
      ap gathered i.new_is ∙ (put_among row i.front i.rest among ∙ ap (λ l. put done_before row (gathered l)) (sym i.old_is)),
      subst AreApart (sym i.new_is) (apart_among row i.front i.rest among (subst AreApart i.old_is apart)),
    )

-- more rows in front of them and behind
pub inserted_behind : (row : DoneRow) (front old new : List DoneRow) → Inserted row old new → Inserted row (front ++ old) (front ++ new)
inserted_behind row [] old new i = i
inserted_behind row (x ∷ xs) old new i =
    let more = inserted_behind row xs old new i in
    record { front = x ∷ more.front; rest = more.rest; old_is = ap (λ l. x ∷ l) more.old_is; new_is = ap (λ l. x ∷ l) more.new_is }

pub joined : {A : Type 0} (a b c : List A) → (a ++ b) ++ c ≡ a ++ (b ++ c)
joined [] b c = refl
joined (x ∷ xs) b c = ap (λ l. x ∷ l) (joined xs b c)

pub inserted_before : (row : DoneRow) (old new more : List DoneRow) → Inserted row old new → Inserted row (old ++ more) (new ++ more)
inserted_before row old new more i = record {
  front = i.front;
  rest = i.rest ++ more;
  old_is = ap (λ l. l ++ more) i.old_is ∙ joined i.front i.rest more;
  new_is = ap (λ l. l ++ more) i.new_is ∙ joined i.front (row ∷ i.rest) more;
}

-- ONE ROW LESS

-- rows that have no such key stay as they are
pub without_none : (done : DoneRow) (rows : List DoneRow) → is_new done_is done rows ≡ true → without done rows ≡ rows
without_none done [] new = refl
without_none done (x ∷ xs) new =
    let parts = first_new done x xs new in
    ap (λ b. cond b xs (x ∷ without done xs)) parts.0 ∙ ap (λ l. x ∷ l) (without_none done xs parts.1)

-- a row of the key that is put in is the one that is taken out
pub without_put : (done row : DoneRow) (xs : List DoneRow) → done_is row done ≡ true → is_new done_is row xs ≡ true → without done (put done_before row xs) ≡ xs
without_put done row [] same new = ap (λ b. cond b [] (row ∷ [])) same
without_put done row (x ∷ xs) same new = by_order (done_before row x) (without_put done row xs same parts.1)
  where
    parts : (done_is x row ≡ false) × (is_new done_is row xs ≡ true)
    parts = first_new row x xs new

    by_order : (b : Bool) → without done (put done_before row xs) ≡ xs → without done (cond b (row ∷ x ∷ xs) (x ∷ put done_before row xs)) ≡ x ∷ xs
    by_order true rest = ap (λ b. cond b (x ∷ xs) (row ∷ without done (x ∷ xs))) same
    by_order false rest =
        ap (λ b. cond b (put done_before row xs) (x ∷ without done (put done_before row xs))) (alike row done x same ∙ parts.0) ∙ ap (λ l. x ∷ l) rest

new_without : (done row : DoneRow) (xs : List DoneRow) → is_new done_is row xs ≡ true → is_new done_is row (without done xs) ≡ true
new_without done row [] new = refl
new_without done row (x ∷ xs) new = by_test (done_is x done) (new_without done row xs parts.1)
  where
    parts : (done_is x row ≡ false) × (is_new done_is row xs ≡ true)
    parts = first_new row x xs new

    by_test : (b : Bool) → is_new done_is row (without done xs) ≡ true → is_new done_is row (cond b xs (x ∷ without done xs)) ≡ true
    by_test true rest = parts.1
    by_test false rest = more_new row x (without done xs) parts.0 rest

pub apart_without : (done : DoneRow) (rows : List DoneRow) → AreApart rows → AreApart (without done rows)
apart_without done [] apart = tt
apart_without done (x ∷ xs) apart = by_test (done_is x done) (apart_without done xs apart.1)
  where
    by_test : (b : Bool) → AreApart (without done xs) → AreApart (cond b xs (x ∷ without done xs))
    by_test true rest = apart.1
    by_test false rest = (new_without done x xs apart.0, rest)

-- where a row of the key stands, which is the first one
record Standing (done : DoneRow) (rows : List DoneRow) : Type 0 where
  front : List DoneRow
  row : DoneRow
  rest : List DoneRow
  has_key : done_is row done ≡ true
  rows_are : rows ≡ front ++ row ∷ rest
  left_are : without done rows ≡ front ++ rest

-- a row of the key stands among the rows, or none
stands : (done : DoneRow) (rows : List DoneRow) → Standing done rows ⊎ (is_new done_is done rows ≡ true)
stands done [] = inr refl
stands done (x ∷ xs) = by_test (done_is x done) refl (stands done xs)
  where
    by_test : (b : Bool) → done_is x done ≡ b → Standing done xs ⊎ (is_new done_is done xs ≡ true) → Standing done (x ∷ xs) ⊎ (is_new done_is done (x ∷ xs) ≡ true)
    by_test true e rest = inl (record { front = []; row = x; rest = xs; has_key = e; rows_are = refl; left_are = ap (λ b. cond b xs (x ∷ without done xs)) e })
    by_test false e (inl s) = inl (record {
      front = x ∷ s.front;
      row = s.row;
      rest = s.rest;
      has_key = s.has_key;
      rows_are = ap (λ l. x ∷ l) s.rows_are;
      left_are = ap (λ b. cond b xs (x ∷ without done xs)) e ∙ ap (λ l. x ∷ l) s.left_are;
    })
    by_test false e (inr new) = inr (more_new done x xs e new)

-- the key of a row among others is new among those
new_among : (row : DoneRow) (front rest : List DoneRow) → AreApart (front ++ row ∷ rest) → is_new done_is row (front ++ rest) ≡ true
new_among row [] rest apart = apart.0
new_among row (x ∷ xs) rest apart =
    let parts = first_new x row (xs ++ rest) (sym (ap not (any_among (λ kept. done_is kept x) row xs rest)) ∙ apart.0) in
    more_new row x (xs ++ rest) (flipped x row ∙ parts.0) (new_among row xs rest apart.1)

-- rows that are apart, without the one that has the key, in whatever order
pub row_out : (done : DoneRow) (rows : List DoneRow) → AreApart rows → gathered (without done rows) ≡ without done (gathered rows)
row_out done rows apart = by_place (stands done rows)
  where
    by_place : Standing done rows ⊎ (is_new done_is done rows ≡ true) → gathered (without done rows) ≡ without done (gathered rows)
    by_place (inl s) =
        let new : is_new done_is s.row (s.front ++ s.rest) ≡ true = new_among s.row s.front s.rest (subst AreApart s.rows_are apart) in
        ap gathered s.left_are
        ∙ sym (ap (λ l. without done (gathered l)) s.rows_are
        ∙ (ap (without done) (put_among s.row s.front s.rest new)
        ∙ without_put done s.row (gathered (s.front ++ s.rest)) s.has_key (new_gathered s.row (s.front ++ s.rest) ∙ new)))
    by_place (inr new) = ap gathered (without_none done rows new) ∙ sym (without_none done (gathered rows) (new_gathered done rows ∙ new))

-- a key that is new among rows is new among the last of them
pub new_behind : (done : DoneRow) (front rest : List DoneRow) → is_new done_is done (front ++ rest) ≡ true → is_new done_is done rest ≡ true
new_behind done [] rest new = new
new_behind done (x ∷ xs) rest new = new_behind done xs rest (first_new done x (xs ++ rest) new).1

-- of rows that are apart, one with the key leaves both parts
pub without_both : (done : DoneRow) (front rest : List DoneRow) → AreApart (front ++ rest) → without done (front ++ rest) ≡ without done front ++ without done rest
without_both done [] rest apart = refl
without_both done (x ∷ xs) rest apart = by_test (done_is x done) refl (without_both done xs rest apart.1)
  where
    by_test : (b : Bool) → done_is x done ≡ b → without done (xs ++ rest) ≡ without done xs ++ without done rest
        → cond b (xs ++ rest) (x ∷ without done (xs ++ rest)) ≡ cond b xs (x ∷ without done xs) ++ without done rest
    by_test true same others =
        ap (λ l. xs ++ l) (sym (without_none done rest (new_behind done xs rest (same_new (xs ++ rest) apart.0))))
      where
        same_new : (rows : List DoneRow) → is_new done_is x rows ≡ true → is_new done_is done rows ≡ true
        same_new [] new = refl
        same_new (y ∷ ys) new =
            let parts = first_new x y ys new in
            more_new done y ys (alike x done y same ∙ parts.0) (same_new ys parts.1)
    by_test false other others = ap (λ l. x ∷ l) others

-- the text at a stamp is among the first rows, or else among the others
pub text_both : (station number : ℕ) (front rest : List DoneRow) → text_at station number (front ++ rest) ≡ or_else (text_at station number front) (text_at station number rest)
text_both station number [] rest = refl
text_both station number (x ∷ xs) rest =
    ap (λ o. cond (done_is x (asked station number)) (Some x.act) o) (text_both station number xs rest)
    ∙ by_test (done_is x (asked station number))
  where
    by_test : (b : Bool) → cond b (Some x.act) (or_else (text_at station number xs) (text_at station number rest)) ≡ or_else (cond b (Some x.act) (text_at station number xs)) (text_at station number rest)
    by_test true = refl
    by_test false = refl
