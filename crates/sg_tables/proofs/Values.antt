-- How large the values of the tables are, and what they have to do with one another.
use Rattle.std.proofs.Common.{◌≡◌, ◌⊎◌, ℕ, ◌+◌, ◌*◌, ◌/◌, ◌%◌, ◌<◌, ◌≤◌, List, length, slice_index, ap, ◌∙◌, arith}
use Rattle.std.proofs.lemmas.Nat.{div-add-mod', div-mul-add, div_below, mod-mul-add, mod_below, mul-add-lt}
use Rattle.sg_plan.specs.Ballots.{candidates_of, entries_of, rows_of}
use Rattle.sg_plan.specs.Codes.{codes_of}
use Rattle.sg_plan.specs.declared.plan.Plan.{Plan}
use Rattle.sg_streams.specs.Order.{IsOneToOne}
use Rattle.sg_streams.specs.Streams.{stream_number}
use Rattle.sg_streams.proofs.Drawn.{codes_of-many, row_codes-are}
use Rattle.sg_streams.proofs.OneOrders.{one_to_one, order_of-IsOrder}
use Rattle.sg_tables.specs.inside.Kept.{columns_of_row}
use Rattle.sg_tables.specs.Tables.{code_beside, codes_of_row, column_showing, entry_showing, left_of, lefts_of, path_of, place_row, place_rows_of, shown_by, shown_in_row}
use Rattle.sg_tables.proofs.Draws.{shown_in_row-one_to_one}
use Rattle.sg_tables.proofs.Inverses.{first_place, one_to_one-below, one_to_one-place}
use Rattle.sg_tables.proofs.Lists.{length-map_below}

-- ENTRIES AS ROWS AND COLUMNS

-- an entry's ballot row and column
pub record EntryAt (plan : Plan) (race entry : ℕ) : Type 0 where
  pub row : entry / candidates_of plan race < rows_of plan race
  pub column : entry % candidates_of plan race < candidates_of plan race
  pub is : entry / candidates_of plan race * candidates_of plan race + entry % candidates_of plan race ≡ entry

pub entry_split : (plan : Plan) (race entry : ℕ) → 0 < candidates_of plan race → entry < entries_of plan race → EntryAt plan race entry
entry_split plan race entry some below = record {
  row = div_below entry (candidates_of plan race) (rows_of plan race) some below;
  column = mod_below entry (candidates_of plan race) some;
  is = div-add-mod' entry (candidates_of plan race);
}

-- the number of a row and a column
pub record NumberAt (plan : Plan) (race row column : ℕ) : Type 0 where
  pub below : row * candidates_of plan race + column < entries_of plan race
  pub row_is : (row * candidates_of plan race + column) / candidates_of plan race ≡ row
  pub column_is : (row * candidates_of plan race + column) % candidates_of plan race ≡ column

pub number_at : (plan : Plan) (race row column : ℕ) → row < rows_of plan race → column < candidates_of plan race → NumberAt plan race row column
number_at plan race row column above within = record {
  below = omega (arith, mul-add-lt row (candidates_of plan race) column (rows_of plan race) above within, turned (rows_of plan race) (candidates_of plan race));
  row_is = div-mul-add row (candidates_of plan race) column within;
  column_is = mod-mul-add row (candidates_of plan race) column within;
}
  where
    turned : (a b : ℕ) → a * b ≡ b * a
    turned a b = omega arith

-- CODES

pub length-codes_of_row : (plan : Plan) (seed : List ℕ) (race row : ℕ) → (plan.version ≡ 1) ⊎ (plan.version ≡ 2) → candidates_of plan race ≤ 16
    → length (codes_of_row plan seed race row) ≡ candidates_of plan race
unfolding codes_of_row
length-codes_of_row plan seed race row known few =
    let many = codes_of-many plan.version known in
    (row_codes-are plan.version seed (stream_number 1 race row) (candidates_of plan race) (omega arith)).many

-- the code beside a candidate is one of the version
pub code_beside-below : (plan : Plan) (seed : List ℕ) (race row candidate : ℕ) → (plan.version ≡ 1) ⊎ (plan.version ≡ 2) → candidates_of plan race ≤ 16
    → candidate < candidates_of plan race → code_beside plan seed race row candidate < codes_of plan.version
unfolding code_beside codes_of_row
code_beside-below plan seed race row candidate known few less =
    let many = codes_of-many plan.version known in
    let codes = row_codes-are plan.version seed (stream_number 1 race row) (candidates_of plan race) (omega arith) in
    codes.below candidate 0 (omega (arith, codes.many))

-- WHAT ENTRIES SHOW

pub length-columns_of_row : (plan : Plan) (seed : List ℕ) (race row : ℕ) → length (columns_of_row plan seed race row) ≡ candidates_of plan race
length-columns_of_row plan seed race row = length-map_below (column_showing plan seed race row) (candidates_of plan race)

pub shown_by-below : (plan : Plan) (seed : List ℕ) (race entry : ℕ) → 0 < candidates_of plan race → shown_by plan seed race entry < candidates_of plan race
unfolding shown_by
shown_by-below plan seed race entry some =
    let row = entry / candidates_of plan race in
    one_to_one-below (candidates_of plan race) (shown_in_row plan seed race row) (shown_in_row-one_to_one plan seed race row)
    (entry % candidates_of plan race) (mod_below entry (candidates_of plan race) some)

-- the column that shows a candidate
pub record ColumnShows (plan : Plan) (seed : List ℕ) (race row candidate : ℕ) : Type 0 where
  pub within : column_showing plan seed race row candidate < candidates_of plan race
  pub is : slice_index (shown_in_row plan seed race row) (column_showing plan seed race row candidate) ≡ candidate

pub column_shows : (plan : Plan) (seed : List ℕ) (race row candidate : ℕ) → candidate < candidates_of plan race → ColumnShows plan seed race row candidate
unfolding column_showing
column_shows plan seed race row candidate less =
    let list = shown_in_row plan seed race row in
    let both = shown_in_row-one_to_one plan seed race row in
    let at = one_to_one-place (candidates_of plan race) list both candidate less in
    let first = first_place (candidates_of plan race) list both at.place candidate at.within at.is in
    record { within = rw first at.within; is = rw first at.is }

-- what the number of a row and a column shows
pub shown_at : (plan : Plan) (seed : List ℕ) (race row column : ℕ) → column < candidates_of plan race
    → shown_by plan seed race (row * candidates_of plan race + column) ≡ slice_index (shown_in_row plan seed race row) column
unfolding shown_by
shown_at plan seed race row column within =
    ap (λ r. slice_index (shown_in_row plan seed race r) ((row * candidates_of plan race + column) % candidates_of plan race)) (div-mul-add row (candidates_of plan race) column within)
    ∙ ap (slice_index (shown_in_row plan seed race row)) (mod-mul-add row (candidates_of plan race) column within)

-- the entry that shows a candidate
pub entry_showing-below : (plan : Plan) (seed : List ℕ) (race row candidate : ℕ) → row < rows_of plan race → candidate < candidates_of plan race
    → entry_showing plan seed race row candidate < entries_of plan race
unfolding entry_showing
entry_showing-below plan seed race row candidate above less =
    (number_at plan race row (column_showing plan seed race row candidate) above (column_shows plan seed race row candidate less).within).below

-- PLACES AND POINTERS

pub place_rows_of-one_to_one : (plan : Plan) (seed : List ℕ) (race candidate : ℕ) → IsOneToOne (rows_of plan race) (place_rows_of plan seed race candidate)
unfolding place_rows_of
place_rows_of-one_to_one plan seed race candidate = one_to_one seed (stream_number 3 race candidate) (rows_of plan race) _ (order_of-IsOrder seed (stream_number 3 race candidate) (rows_of plan race))

pub lefts_of-one_to_one : (plan : Plan) (seed : List ℕ) (race instance : ℕ) → IsOneToOne (entries_of plan race) (lefts_of plan seed race instance)
unfolding lefts_of
lefts_of-one_to_one plan seed race instance = one_to_one seed (stream_number 4 race instance) (entries_of plan race) _ (order_of-IsOrder seed (stream_number 4 race instance) (entries_of plan race))

pub place_row-below : (plan : Plan) (seed : List ℕ) (race row candidate : ℕ) → row < rows_of plan race → place_row plan seed race row candidate < rows_of plan race
unfolding place_row
place_row-below plan seed race row candidate above = one_to_one-below (rows_of plan race) (place_rows_of plan seed race candidate) (place_rows_of-one_to_one plan seed race candidate) row above

pub left_of-below : (plan : Plan) (seed : List ℕ) (race instance row : ℕ) → row < entries_of plan race → left_of plan seed race instance row < entries_of plan race
unfolding left_of
left_of-below plan seed race instance row below = one_to_one-below (entries_of plan race) (lefts_of plan seed race instance) (lefts_of-one_to_one plan seed race instance) row below

-- a path is a place of the race
pub path_of-below : (plan : Plan) (seed : List ℕ) (race entry : ℕ) → 0 < candidates_of plan race → entry < entries_of plan race → path_of plan seed race entry < entries_of plan race
unfolding path_of
path_of-below plan seed race entry some below =
    let at = entry_split plan race entry some below in
    (number_at plan race (place_row plan seed race (entry / candidates_of plan race) (shown_by plan seed race entry)) (shown_by plan seed race entry)
    (place_row-below plan seed race (entry / candidates_of plan race) (shown_by plan seed race entry) at.row) (shown_by-below plan seed race entry some)).below
