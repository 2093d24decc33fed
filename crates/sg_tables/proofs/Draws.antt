-- What the streams give is what the tables' definitions say.
use Rattle.std.proofs.Common.{◌≡◌, ◌⊎◌, ℕ, ◌+◌, ◌-◌, ◌<◌, ◌≤◌, List, ◌∷◌, [], ◌++◌, length, map, replicate, take, slice_get, Some, inl, inr, sym, ap, ◌∙◌, arith}
use Rattle.std.proofs.lemmas.Bool.{cases_lt}
use Rattle.std.proofs.lemmas.List.{get_or_at, get_or_append_left, length_push, take_at}
use Rattle.std.proofs.lemmas.Option.{slice_get-get_or, slice_get_within, get_or_from_slice_get}
use Rattle.sg_plan.specs.Ballots.{candidates_of, entries_of, rows_of}
use Rattle.sg_plan.specs.declared.plan.Plan.{Plan}
use Rattle.sg_streams.specs.Numbers.{numbers_below}
use Rattle.sg_streams.specs.Order.{IsOneToOne, order_of}
use Rattle.sg_streams.specs.RowCodes.{row_codes}
use Rattle.sg_streams.specs.Streams.{stream_number}
use Rattle.sg_streams.proofs.Drawn.{codes_of-many, row_codes-are}
use Rattle.sg_streams.proofs.OneOrders.{length-IsOrder, one_to_one, order_of-IsOrder}
use Rattle.sg_tables.specs.inside.Kept.{KeepRaces, KeepsRace, columns_of_row, inverse}
use Rattle.sg_tables.specs.Tables.{codes_of_row, column_showing, lefts_of, place_rows_of, shown_in_row}
use Rattle.sg_tables.specs.declared.race_lists.RaceLists.{RaceLists}

-- the codes of a ballot row
pub codes_drawn : (plan : Plan) (seed : List ℕ) (race row k stream : ℕ) (drawn : List ℕ) → (plan.version ≡ 1) ⊎ (plan.version ≡ 2)
    → k ≡ candidates_of plan race → candidates_of plan race ≤ 16 → stream ≡ stream_number 1 race row
    → drawn ≡ row_codes plan.version seed stream k ++ replicate (16 - k) 0 → take k drawn ≡ codes_of_row plan seed race row
unfolding codes_of_row
codes_drawn plan seed race row k stream drawn known is few at value =
    let many = codes_of-many plan.version known in
    let codes = row_codes plan.version seed stream k in
    let long : length codes ≡ k = (row_codes-are plan.version seed stream k (omega arith)).many in
    ap (take k) value
    ∙ take_at codes (replicate (16 - k) 0) k long
    ∙ ap (λ s. row_codes plan.version seed s k) at
    ∙ ap (λ n. row_codes plan.version seed (stream_number 1 race row) n) is

-- what a ballot row shows
pub shown_drawn : (plan : Plan) (seed : List ℕ) (race row k stream : ℕ) (drawn : List ℕ)
    → k ≡ candidates_of plan race → stream ≡ stream_number 2 race row → drawn ≡ order_of seed stream k ++ replicate (16 - k) 0
    → take k drawn ≡ shown_in_row plan seed race row
unfolding shown_in_row
shown_drawn plan seed race row k stream drawn is at value =
    ap (take k) value
    ∙ take_at (order_of seed stream k) (replicate (16 - k) 0) k (length-IsOrder seed stream k _ (order_of-IsOrder seed stream k))
    ∙ ap (λ s. order_of seed s k) at
    ∙ ap (order_of seed (stream_number 2 race row)) is

pub length-shown_in_row : (plan : Plan) (seed : List ℕ) (race row : ℕ) → length (shown_in_row plan seed race row) ≡ candidates_of plan race
unfolding shown_in_row
length-shown_in_row plan seed race row = length-IsOrder seed (stream_number 2 race row) (candidates_of plan race) _ (order_of-IsOrder seed (stream_number 2 race row) (candidates_of plan race))

pub shown_in_row-one_to_one : (plan : Plan) (seed : List ℕ) (race row : ℕ) → IsOneToOne (candidates_of plan race) (shown_in_row plan seed race row)
unfolding shown_in_row
shown_in_row-one_to_one plan seed race row = one_to_one seed (stream_number 2 race row) (candidates_of plan race) _ (order_of-IsOrder seed (stream_number 2 race row) (candidates_of plan race))

-- its columns by candidate
pub inverse-shown : (plan : Plan) (seed : List ℕ) (race row : ℕ) → inverse (shown_in_row plan seed race row) ≡ columns_of_row plan seed race row
unfolding column_showing
inverse-shown plan seed race row = ap (λ n. map (column_showing plan seed race row) (numbers_below n)) (length-shown_in_row plan seed race row)

pub columns_drawn : (plan : Plan) (seed : List ℕ) (race row k : ℕ) (drawn places : List ℕ)
    → k ≡ candidates_of plan race → drawn ≡ shown_in_row plan seed race row → take (length drawn) places ≡ inverse drawn
    → take k places ≡ columns_of_row plan seed race row
columns_drawn plan seed race row k drawn places is value written =
    let long : length drawn ≡ k = ap length value ∙ length-shown_in_row plan seed race row ∙ sym is in
    ap (λ n. take n places) (sym long) ∙ written ∙ ap inverse value ∙ inverse-shown plan seed race row

-- the orders of a race's places and of its rows
pub places_drawn : (plan : Plan) (seed : List ℕ) (race k rows : ℕ) (lists : List (List ℕ)) → k ≡ candidates_of plan race → rows ≡ rows_of plan race
    → lists ≡ map (λ index. order_of seed (stream_number 3 race index) rows) (numbers_below k)
    → lists ≡ map (place_rows_of plan seed race) (numbers_below (candidates_of plan race))
unfolding place_rows_of
places_drawn plan seed race k rows lists is many value =
    value
    ∙ ap (λ n. map (λ index. order_of seed (stream_number 3 race index) n) (numbers_below k)) many
    ∙ ap (λ n. map (place_rows_of plan seed race) (numbers_below n)) is

pub lefts_drawn : (plan : Plan) (seed : List ℕ) (race n : ℕ) (lists : List (List ℕ)) → n ≡ entries_of plan race
    → lists ≡ map (λ index. order_of seed (stream_number 4 race index) n) (numbers_below plan.instances)
    → lists ≡ map (lefts_of plan seed race) (numbers_below plan.instances)
unfolding lefts_of
lefts_drawn plan seed race n lists many value =
    value ∙ ap (λ k. map (λ index. order_of seed (stream_number 4 race index) k) (numbers_below plan.instances)) many

-- one race more is kept
pub keep_races-more : (plan : Plan) (seed : List ℕ) (race : ℕ) (races longer : List RaceLists) (lists : RaceLists) → length races ≡ race
    → KeepRaces plan seed races → KeepsRace plan seed race lists → longer ≡ races ++ lists ∷ [] → KeepRaces plan seed longer
keep_races-more plan seed race races longer lists many each kept added other found at =
    let there : slice_get (races ++ lists ∷ []) other ≡ Some found = ap (λ l. slice_get l other) (sym added) ∙ at in
    let inside : other < length races + 1 = omega (arith, slice_get_within (races ++ lists ∷ []) other found there, length_push races lists) in
    let item = get_or_from_slice_get (races ++ lists ∷ []) other found lists there in
    elim (cases_lt other (length races)) [
      | inl before ↦
          let same = get_or_append_left races (lists ∷ []) lists other before in
          each other found (slice_get-get_or races other lists before ∙ ap (λ x. Some x) (sym same ∙ item))
      | inr last ↦
          let is : length races ≡ other = omega arith in
          let new : lists ≡ found = sym (get_or_at races lists [] lists other is) ∙ item in
          let number : race ≡ other = sym many ∙ is in
          rw (← new, ← number) kept
    ]
