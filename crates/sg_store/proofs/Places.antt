-- Elements put in their places, one after another, are the one rising list of them.
use Rattle.std.proofs.Common.{◌≡◌, append-nil, List, [], ◌∷◌, ◌++◌, map, fold, Bool, true, false, cond, Ordering, Less, Equal, Greater, refl, ap, ◌∙◌}
use Rattle.std.specs.List.{AllByRecursion, IsDistinct}
use Rattle.std.specs.List.Sorted.{IsPermutation}
use Rattle.std.specs.Cmp.{IsTotalOrder}
use Rattle.std.specs.Ordering.{is_eq, is_gt, ordering_reverse}
use Rattle.std.proofs.lemmas.Map.Keys.{IsDistinct-IsPermutation}
use Rattle.std.proofs.lemmas.List.Sorted.{IsPermutation-refl, IsPermutation-trans, IsPermutation-cons, IsPermutation-middle, IsPermutation-append_left}
use Rattle.sqlite.specs.Tree.{IsAscending}
use Rattle.sqlite_trees.proofs.ListLemmas.{all_weaker}
use Rattle.sg_keeper.specs.Rows.{put}
use Rattle.sg_store.specs.Told.{in_place}

-- the first element comes before the second one in this order
abbrev pub before_by : {X : Type 0} → (X → X → Ordering) → X → X → Bool
before_by R x y = is_gt (R y x)

module _ {X : Type 0} (R : X → X → Ordering) (total : IsTotalOrder R) where
  abbrev Rises : List X → Type 0
  Rises = IsAscending (λ a b. R a b ≡ Less)

  abbrev pub same_key : X → X → Bool
  same_key a b = is_eq (R a b)

  flips : (x y : X) → same_key x y ≡ same_key y x
  flips x y = rw (total.antisymm x y) (go (R y x))
    where
      go : (o : Ordering) → is_eq (ordering_reverse o) ≡ is_eq o
      go Less = refl
      go Equal = refl
      go Greater = refl

  -- an element put at its place
  abbrev placed : X → List X → List X
  placed = put (before_by R)

  placed_permutes : (x : X) (ys : List X) → IsPermutation (x ∷ ys) (placed x ys)
  placed_permutes x [] = IsPermutation-refl (x ∷ [])
  placed_permutes x (y ∷ ys) = go (is_gt (R y x)) (placed_permutes x ys)
    where
      go : (b : Bool) → IsPermutation (x ∷ ys) (placed x ys) → IsPermutation (x ∷ y ∷ ys) (cond b (x ∷ y ∷ ys) (y ∷ placed x ys))
      go true rest = IsPermutation-refl (x ∷ y ∷ ys)
      go false rest = IsPermutation-trans (x ∷ y ∷ ys) (y ∷ x ∷ ys) (y ∷ placed x ys) (IsPermutation-middle (x ∷ []) y ys) (IsPermutation-cons y (x ∷ ys) (placed x ys) rest)

  all_placed : (P : X → Type 0) (x : X) (ys : List X) → P x → AllByRecursion P ys → AllByRecursion P (placed x ys)
  all_placed P x [] here all = (here, tt)
  all_placed P x (y ∷ ys) here all = go (is_gt (R y x)) (all_placed P x ys here all.1)
    where
      go : (b : Bool) → AllByRecursion P (placed x ys) → AllByRecursion P (cond b (x ∷ y ∷ ys) (y ∷ placed x ys))
      go true rest = (here, all)
      go false rest = (all.0, rest)

  placed_rises : (x : X) (ys : List X) → AllByRecursion (λ y. same_key y x ≡ false) ys → Rises ys → Rises (placed x ys)
  placed_rises x [] free up = (tt, tt)
  placed_rises x (y ∷ ys) free up = go (R y x) refl free.0 (placed_rises x ys free.1 up.1)
    where
      go : (o : Ordering) → R y x ≡ o → same_key y x ≡ false → Rises (placed x ys) → Rises (cond (is_gt o) (x ∷ y ∷ ys) (y ∷ placed x ys))
      go Less is apart rest = (all_placed (λ z. R y z ≡ Less) x ys is up.0, rest)
      go Equal is apart rest = absurd (let e = rw is at apart in cc)
      go Greater is apart rest =
          let above = total.antisymm x y ∙ ap ordering_reverse is in
          ((above, all_weaker (λ z. R y z ≡ Less) (λ z. R x z ≡ Less) (λ z. total.trans x y z above) ys up.0), up)

  -- no element before another one has its key
  pub free_of : (acc : List X) (x : X) (xs : List X) → IsDistinct same_key (acc ++ x ∷ xs) → AllByRecursion (λ y. same_key y x ≡ false) acc
  unfolding IsDistinct
  free_of [] x xs apart = tt
  free_of (a ∷ acc) x xs apart = (at acc apart.0, free_of acc x xs apart.1)
    where
      at : (more : List X) → AllByRecursion (λ y. same_key a y ≡ false) (more ++ x ∷ xs) → same_key a x ≡ false
      at [] all = all.0
      at (m ∷ more) all = at more all.1

  -- from elements in their places on
  pub record Settled (acc xs : List X) : Type 0 where
    pub up : Rises (fold (λ l x. placed x l) acc xs)
    pub same : IsPermutation (acc ++ xs) (fold (λ l x. placed x l) acc xs)

  settles : (acc xs : List X) → Rises acc → IsDistinct same_key (acc ++ xs) → Settled acc xs
  settles acc [] up apart = record { up = up; same = rw append-nil (IsPermutation-refl acc) }
  settles acc (x ∷ xs) up apart =
      let one = placed_permutes x acc in
      let moved = IsPermutation-trans (acc ++ x ∷ xs) ((x ∷ acc) ++ xs) (placed x acc ++ xs) (IsPermutation-middle acc x xs) (IsPermutation-append_left xs (x ∷ acc) (placed x acc) one) in
      let rest = settles (placed x acc) xs (placed_rises x acc (free_of acc x xs apart) up) (IsDistinct-IsPermutation same_key flips (acc ++ x ∷ xs) (placed x acc ++ xs) moved apart) in
      record { up = rest.up; same = IsPermutation-trans (acc ++ x ∷ xs) (placed x acc ++ xs) _ moved rest.same }

  pub in_place_settles : (xs : List X) → IsDistinct same_key xs → Settled [] xs
  in_place_settles xs apart = settles [] xs tt apart

  all_settled : (P : X → Type 0) (acc xs : List X) → AllByRecursion P acc → AllByRecursion P xs → AllByRecursion P (fold (λ l x. placed x l) acc xs)
  all_settled P acc [] has all = has
  all_settled P acc (x ∷ xs) has all = all_settled P (placed x acc) xs (all_placed P x acc all.0 has) all.1

  -- what holds of all elements holds of them in their places
  pub all_in_place : (P : X → Type 0) (xs : List X) → AllByRecursion P xs → AllByRecursion P (in_place (before_by R) xs)
  all_in_place P xs all = all_settled P [] xs tt all

  -- the list that a function makes of them is in its places too
  module _ {A : Type 0} (f : X → A) (before : A → A → Bool) (P : X → Type 0) (agree : (x y : X) → P x → P y → before (f x) (f y) ≡ before_by R x y) where
    map_placed : (x : X) (ys : List X) → P x → AllByRecursion P ys → map f (placed x ys) ≡ put before (f x) (map f ys)
    map_placed x [] here all = refl
    map_placed x (y ∷ ys) here all = rw (agree x y here all.0) (go (is_gt (R y x)) (map_placed x ys here all.1))
      where
        go : (b : Bool) → map f (placed x ys) ≡ put before (f x) (map f ys)
            → map f (cond b (x ∷ y ∷ ys) (y ∷ placed x ys)) ≡ cond b (f x ∷ f y ∷ map f ys) (f y ∷ put before (f x) (map f ys))
        go true rest = refl
        go false rest = ap (λ l. f y ∷ l) rest

    map_settled : (acc xs : List X) → AllByRecursion P acc → AllByRecursion P xs → map f (fold (λ l x. placed x l) acc xs) ≡ fold (λ l x. put before x l) (map f acc) (map f xs)
    map_settled acc [] has all = refl
    map_settled acc (x ∷ xs) has all = map_settled (placed x acc) xs (all_placed P x acc all.0 has) all.1 ∙ ap (λ l. fold (λ l x. put before x l) l (map f xs)) (map_placed x acc all.0 has)

    pub map_in_place : (xs : List X) → AllByRecursion P xs → map f (in_place (before_by R) xs) ≡ in_place before (map f xs)
    map_in_place xs all = map_settled [] xs tt all
