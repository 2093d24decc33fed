-- A stable sort of rows that don't fall, and of others behind them, puts each of these in at its place.
use Rattle.std.proofs.Common.{◌≡◌, ℕ, zero, suc, ◌<◌, ◌≤◌, Bool, true, false, ◌&&◌, not, cond, List, [], ◌∷◌, ◌++◌, length, get_or, filter, refl, sym, ap, ◌∙◌, true≢false, suc-le-suc, zero-le}
use Rattle.std.proofs.lemmas.Bool.{and_parts, cond-false, cond-true, not-true}
use Rattle.std.proofs.lemmas.List.{append-nil, append_assoc}
use Rattle.std.proofs.lemmas.List.Elements.{filter-append}
use Rattle.std.proofs.lemmas.List.Sorted.{sorted_far}
use Rattle.std.specs.Cmp.{IsStrictWeakOrder}
use Rattle.std.specs.List.Sorted.{IsSortedBy, IsStableBy, ties}
use Rattle.sg_keeper.specs.Rows.{put}
use Rattle.sg_keeper.specs.inside.Later.{put_all}

module _ {A : Type 0} (before : A → A → Bool) (order : IsStrictWeakOrder before) where
  -- none of these comes before the item
  abbrev NoneBelow : A → List A → Type 0
  NoneBelow x [] = Unit {0}
  NoneBelow x (y ∷ ys) = (before y x ≡ false) × NoneBelow x ys

  -- no item comes before one in front of it
  abbrev NeverFalls : List A → Type 0
  NeverFalls [] = Unit {0}
  NeverFalls (x ∷ xs) = NoneBelow x xs × NeverFalls xs

  -- SORTED LISTS

  none_below_at : (x : A) (ys : List A) → ((j : ℕ) → j < length ys → before (get_or ys j x) x ≡ false) → NoneBelow x ys
  none_below_at x [] h = tt
  none_below_at x (y ∷ ys) h = (h zero (suc-le-suc zero-le), none_below_at x ys (λ j lt. h (suc j) (suc-le-suc lt)))

  from_far : (xs : List A) → ((i j : ℕ) (d : A) → i ≤ j → j < length xs → before (get_or xs j d) (get_or xs i d) ≡ false) → NeverFalls xs
  from_far [] far = tt
  from_far (x ∷ xs) far = (
    none_below_at x xs (λ j lt. far zero (suc j) x zero-le (suc-le-suc lt)),
    from_far xs (λ i j d le lt. far (suc i) (suc j) d (suc-le-suc le) (suc-le-suc lt)),
  )

  from_sorted : (xs : List A) → IsSortedBy before xs → NeverFalls xs
  from_sorted xs up = from_far xs (sorted_far before order xs up)

  -- ONE ROW PUT IN

  below_chain : (x y : A) (zs : List A) → before y x ≡ false → NoneBelow y zs → NoneBelow x zs
  below_chain x y [] h all = tt
  below_chain x y (z ∷ zs) h all = (order.chain z y x all.0 h, below_chain x y zs h all.1)

  none_below_put : (x row : A) (ys : List A) → before row x ≡ false → NoneBelow x ys → NoneBelow x (put before row ys)
  none_below_put x row [] h all = (h, tt)
  none_below_put x row (y ∷ ys) h all = by_place (before row y) (none_below_put x row ys h all.1)
    where
      by_place : (b : Bool) → NoneBelow x (put before row ys) → NoneBelow x (cond b (row ∷ y ∷ ys) (y ∷ put before row ys))
      by_place true rest = (h, all)
      by_place false rest = (all.0, rest)

  put_never_falls : (row : A) (ys : List A) → NeverFalls ys → NeverFalls (put before row ys)
  put_never_falls row [] up = (tt, tt)
  put_never_falls row (y ∷ ys) up = by_place (before row y) refl (put_never_falls row ys up.1)
    where
      by_place : (b : Bool) → before row y ≡ b → NeverFalls (put before row ys) → NeverFalls (cond b (row ∷ y ∷ ys) (y ∷ put before row ys))
      by_place true e rest = ((order.one_way row y e, below_chain row y ys (order.one_way row y e) up.0), up)
      by_place false e rest = (none_below_put y row ys e up.0, rest)

  -- ROWS OF ONE KEY

  tied : (x y : A) → ties before x y ≡ true → (before x y ≡ false) × (before y x ≡ false)
  tied x y t = let parts = and_parts (not (before x y)) (not (before y x)) t in (not-true _ parts.0, not-true _ parts.1)

  tied_from : (x y : A) → before x y ≡ false → before y x ≡ false → ties before x y ≡ true
  tied_from x y p q = ap (λ b. not b && not (before y x)) p ∙ ap not q

  itself : (x : A) → before x x ≡ false
  itself x = by_test (before x x) refl
    where
      by_test : (b : Bool) → before x x ≡ b → before x x ≡ false
      by_test true e = order.one_way x x e
      by_test false e = e

  -- an item behind one that is behind the row is no lower than the row
  still_behind : (row y z : A) → before row y ≡ true → before z y ≡ false → before row z ≡ true
  still_behind row y z h g = by_test (before row z) refl
    where
      by_test : (b : Bool) → before row z ≡ b → before row z ≡ true
      by_test true e = e
      by_test false e = absurd (true≢false (sym h ∙ order.chain row z y e g))

  -- what has the row's key does not have that of an item behind it
  not_tied : (x row z : A) → ties before x row ≡ true → before row z ≡ true → ties before x z ≡ false
  not_tied x row z t above = by_test (before x z) refl
    where
      by_test : (b : Bool) → before x z ≡ b → ties before x z ≡ false
      by_test true e = ap (λ b. not b && not (before z x)) e
      by_test false e = absurd (true≢false (sym above ∙ order.chain row x z (tied x row t).1 e))

  none_tied : (x row y : A) (ys : List A) → ties before x row ≡ true → before row y ≡ true → NoneBelow y ys → filter (ties before x) ys ≡ []
  none_tied x row y [] t above all = refl
  none_tied x row y (z ∷ zs) t above all =
      cond-false _ _ _ (not_tied x row z t (still_behind row y z above all.0)) ∙ none_tied x row y zs t above all.1

  filter_last : (x row : A) (ys : List A) → filter (ties before x) (ys ++ row ∷ []) ≡ filter (ties before x) ys ++ cond (ties before x row) (row ∷ []) []
  filter_last x row ys = filter-append (ties before x) ys (row ∷ [])

  -- put in before a higher one
  filter_first : (x row y : A) (ys : List A) → before row y ≡ true → NoneBelow y ys → filter (ties before x) (row ∷ y ∷ ys) ≡ filter (ties before x) (y ∷ ys ++ row ∷ [])
  filter_first x row y ys above all = by_tie (ties before x row) refl ∙ sym (filter_last x row (y ∷ ys))
    where
      by_tie : (b : Bool) → ties before x row ≡ b → cond b (row ∷ filter (ties before x) (y ∷ ys)) (filter (ties before x) (y ∷ ys)) ≡ filter (ties before x) (y ∷ ys) ++ cond b (row ∷ []) []
      by_tie true t =
          let none : filter (ties before x) (y ∷ ys) ≡ [] = cond-false _ _ _ (not_tied x row y t above) ∙ none_tied x row y ys t above all in
          ap (λ l. row ∷ l) none ∙ sym (ap (λ l. l ++ row ∷ []) none)
      by_tie false t = sym (append-nil _)

  -- a row that is put in is the last one of its key
  filter_put : (x row : A) (ys : List A) → NeverFalls ys → filter (ties before x) (put before row ys) ≡ filter (ties before x) (ys ++ row ∷ [])
  filter_put x row [] up = refl
  filter_put x row (y ∷ ys) up = by_place (before row y) refl (filter_put x row ys up.1)
    where
      by_place : (b : Bool) → before row y ≡ b → filter (ties before x) (put before row ys) ≡ filter (ties before x) (ys ++ row ∷ [])
          → filter (ties before x) (cond b (row ∷ y ∷ ys) (y ∷ put before row ys)) ≡ filter (ties before x) (y ∷ ys ++ row ∷ [])
      by_place true e rest = filter_first x row y ys e up.0
      by_place false e rest = ap (λ l. cond (ties before x y) (y ∷ l) l) rest

  -- ALL ROWS PUT IN

  all_never_falls : (rows later : List A) → NeverFalls rows → NeverFalls (put_all before rows later)
  all_never_falls rows [] up = up
  all_never_falls rows (y ∷ ys) up = all_never_falls (put before y rows) ys (put_never_falls y rows up)

  filter_all : (x : A) (rows later : List A) → NeverFalls rows → filter (ties before x) (put_all before rows later) ≡ filter (ties before x) (rows ++ later)
  filter_all x rows [] up = ap (filter (ties before x)) (sym (append-nil rows))
  filter_all x rows (y ∷ ys) up =
      let p = ties before x in
      filter_all x (put before y rows) ys (put_never_falls y rows up)
      ∙ (filter-append p (put before y rows) ys
      ∙ (ap (λ l. l ++ filter p ys) (filter_put x y rows up)
      ∙ (sym (filter-append p (rows ++ y ∷ []) ys) ∙ ap (filter p) (append_assoc rows (y ∷ []) ys))))

  -- ONE ORDER

  -- rows with the key of y stand among these, none of which is below z
  found : (y z : A) (us : List A) (w : A) (ws : List A) → NoneBelow z us → filter (ties before y) us ≡ w ∷ ws → before y z ≡ false
  found y z [] w ws all e = cc
  found y z (u ∷ us) w ws all e = by_tie (ties before y u) refl (λ more. found y z us w ws all.1 more)
    where
      by_tie : (b : Bool) → ties before y u ≡ b → (filter (ties before y) us ≡ w ∷ ws → before y z ≡ false) → before y z ≡ false
      by_tie true t rest = order.chain y u z (tied y u t).0 all.0
      by_tie false t rest = rest (sym (cond-false _ _ _ t) ∙ e)

  kept : (x y : A) (ys : List A) → ties before x y ≡ true → filter (ties before x) (y ∷ ys) ≡ y ∷ filter (ties before x) ys
  kept x y ys t = cond-true _ _ _ t

  dropped : (x y : A) (ys : List A) → ties before x y ≡ false → filter (ties before x) (y ∷ ys) ≡ filter (ties before x) ys
  dropped x y ys t = cond-false _ _ _ t

  tied_itself : (x : A) → ties before x x ≡ true
  tied_itself x = tied_from x x (itself x) (itself x)

  one_order : (ys zs : List A) → NeverFalls ys → NeverFalls zs → ((x : A) → filter (ties before x) ys ≡ filter (ties before x) zs) → ys ≡ zs
  one_order [] [] left right same = refl
  one_order [] (z ∷ zs) left right same = let clash = same z ∙ kept z z zs (tied_itself z) in cc
  one_order (y ∷ ys) [] left right same = let clash = sym (same y) ∙ kept y y ys (tied_itself y) in cc
  one_order (y ∷ ys) (z ∷ zs) left right same = ap (λ w. w ∷ ys) head ∙ ap (λ l. z ∷ l) (one_order ys zs left.1 right.1 tails)
    where
      at_y : filter (ties before y) (y ∷ ys) ≡ y ∷ filter (ties before y) ys
      at_y = kept y y ys (tied_itself y)

      at_z : filter (ties before z) (z ∷ zs) ≡ z ∷ filter (ties before z) zs
      at_z = kept z z zs (tied_itself z)

      up : before y z ≡ false
      up = found y z (z ∷ zs) y (filter (ties before y) ys) (itself z, right.0) (sym (same y) ∙ at_y)

      down : before z y ≡ false
      down = found z y (y ∷ ys) z (filter (ties before z) zs) (itself y, left.0) (same z ∙ at_z)

      head : y ≡ z
      head = let heads = sym at_y ∙ (same y ∙ kept y z zs (tied_from y z up down)) in cc

      tails : (x : A) → filter (ties before x) ys ≡ filter (ties before x) zs
      tails x = by_tie (ties before x y) refl
        where
          by_tie : (b : Bool) → ties before x y ≡ b → filter (ties before x) ys ≡ filter (ties before x) zs
          by_tie true t = let both = sym (kept x y ys t) ∙ (same x ∙ kept x z zs (ap (ties before x) (sym head) ∙ t)) in cc
          by_tie false t = sym (dropped x y ys t) ∙ (same x ∙ dropped x z zs (ap (ties before x) (sym head) ∙ t))

  pub stable_is_put_all : (rows later sorted : List A) → IsSortedBy before rows → IsSortedBy before sorted → IsStableBy before (rows ++ later) sorted → sorted ≡ put_all before rows later
  stable_is_put_all rows later sorted first up stable =
      let rows_up = from_sorted rows first in
      one_order sorted (put_all before rows later) (from_sorted sorted up) (all_never_falls rows later rows_up)
      (λ x. stable x ∙ sym (filter_all x rows later rows_up))

-- tests that agree put rows in at the same places
put_alike : {A : Type 0} (f g : A → A → Bool) → ((a b : A) → f a b ≡ g a b) → (row : A) (xs : List A) → put f row xs ≡ put g row xs
put_alike f g alike row [] = refl
put_alike f g alike row (x ∷ xs) = ap (λ b. cond b (row ∷ x ∷ xs) (x ∷ put f row xs)) (alike row x) ∙ ap (λ l. cond (g row x) (row ∷ x ∷ xs) (x ∷ l)) (put_alike f g alike row xs)

pub put_all_alike : {A : Type 0} (f g : A → A → Bool) → ((a b : A) → f a b ≡ g a b) → (rows later : List A) → put_all f rows later ≡ put_all g rows later
put_all_alike f g alike rows [] = refl
put_all_alike f g alike rows (y ∷ ys) = ap (λ l. put_all f l ys) (put_alike f g alike y rows) ∙ put_all_alike f g alike (put g y rows) ys
