-- A list that takes places one to one to numbers, and its inverse.
use Rattle.std.proofs.Common.{◌≡◌, ◌≢◌, ℕ, ◌+◌, ◌<◌, ◌≤◌, ◌==◌, eqb, false, inl, inr, List, length, get_or, set, take, slice_get, slice_index, Some, sym, ap, ◌∙◌, arith}
use Rattle.std.specs.List.{position_or_len}
use Rattle.std.proofs.lemmas.Bool.{cases_eq, eq-eqb, ne_eqb}
use Rattle.std.proofs.lemmas.List.{get_or-set_other, get_or-set_same, get_or-take, get_or_default, length-take-le, same_lists}
use Rattle.std.proofs.lemmas.List.Sums.{position_or_len_is}
use Rattle.std.proofs.lemmas.Option.{get_or_from_slice_get, slice_get-get_or, slice_get_within}
use Rattle.sg_streams.specs.Order.{HasOnePlace, IsOneToOne}
use Rattle.sg_tables.specs.inside.Kept.{inverse}
use Rattle.sg_tables.proofs.Lists.{get_or-map_below, length-map_below}

-- the number at a place is below n
pub one_to_one-below : (n : ℕ) (list : List ℕ) → IsOneToOne n list → (i : ℕ) → i < n → slice_index list i < n
one_to_one-below n list is i inside = is.below i 0 (omega (arith, is.many))

-- two places of one number are one
pub one_to_one-same : (n : ℕ) (list : List ℕ) → IsOneToOne n list → (i j : ℕ) → i < n → j < n → slice_index list i ≡ slice_index list j → i ≡ j
one_to_one-same n list is i j first second same =
    let x = slice_index list i in
    let only : HasOnePlace list x = is.places x (one_to_one-below n list is i first) in
    let here : slice_get list i ≡ Some x = slice_get-get_or list i 0 (omega (arith, is.many)) in
    let there : slice_get list j ≡ Some x = slice_get-get_or list j 0 (omega (arith, is.many)) ∙ ap (λ y. Some y) (sym same) in
    only.alone i here ∙ sym (only.alone j there)

-- the place of a number
pub record PlaceIn (n : ℕ) (list : List ℕ) (x : ℕ) : Type 0 where
  pub place : ℕ
  pub within : place < n
  pub is : slice_index list place ≡ x

pub one_to_one-place : (n : ℕ) (list : List ℕ) → IsOneToOne n list → (x : ℕ) → x < n → PlaceIn n list x
one_to_one-place n list is x less =
    let only = is.places x less in
    record {
      place = only.place;
      within = omega (arith, slice_get_within list only.place x only.found, is.many);
      is = get_or_from_slice_get list only.place x 0 only.found;
    }

-- and the first place where it is found
pub first_place : (n : ℕ) (list : List ℕ) → IsOneToOne n list → (place x : ℕ) → place < n → slice_index list place ≡ x
    → position_or_len (λ y. y == x) list ≡ place
first_place n list is place x within found =
    position_or_len_is (λ y. eqb y x) list place 0 (omega (arith, is.many)) before (λ inside. eq-eqb (get_or list place 0) x found)
  where
    before : (k : ℕ) → k < place → eqb (get_or list k 0) x ≡ false
    before k less = ne_eqb (get_or list k 0) x (λ same. omega (arith, one_to_one-same n list is k place (omega arith) within (same ∙ sym found)))

-- one more place is written into the inverse
pub inverse-more : (order places : List ℕ) (at : ℕ) → IsOneToOne (length order) order → length order ≤ length places → at < length order
    → ((k : ℕ) → k < at → slice_index places (slice_index order k) ≡ k)
    → (k : ℕ) → k < at + 1 → slice_index (set places (slice_index order at) at) (slice_index order k) ≡ k
inverse-more order places at is fits inside before k less =
    elim (cases_eq k at) [
      | inl here ↦
          let room : slice_index order at < length places = omega (arith, one_to_one-below (length order) order is at inside, fits) in
          rw here (get_or-set_same places (slice_index order at) at 0 room)
      | inr other ↦
          let apart : slice_index order k ≢ slice_index order at = λ same. other (one_to_one-same (length order) order is k at (omega (arith, less, inside)) inside same) in
          get_or-set_other places (slice_index order at) (slice_index order k) at 0 apart ∙ before k (omega (arith, less, other))
    ]

-- all places are written
pub inverse-all : (order places : List ℕ) → IsOneToOne (length order) order → length order ≤ length places
    → ((k : ℕ) → k < length order → slice_index places (slice_index order k) ≡ k) → take (length order) places ≡ inverse order
inverse-all order places is fits each =
    same_lists (take (length order) places) (inverse order) (many ∙ sym (length-map_below first (length order))) same
  where
    first : ℕ → ℕ
    first x = position_or_len (λ y. y == x) order

    many : length (take (length order) places) ≡ length order
    many = length-take-le (length order) places fits

    same : (x d : ℕ) → x < length (take (length order) places) → get_or (take (length order) places) x d ≡ get_or (inverse order) x d
    same x d inside =
        let less : x < length order = omega (arith, many, inside) in
        let at = one_to_one-place (length order) order is x less in
        let written : slice_index places x ≡ at.place = ap (slice_index places) (sym at.is) ∙ each at.place at.within in
        get_or-take (length order) places x d less
        ∙ get_or_default places x d 0 (omega (arith, less, fits))
        ∙ written
        ∙ sym (first_place (length order) order is at.place x at.within at.is)
        ∙ sym (get_or-map_below first (length order) x d less)
