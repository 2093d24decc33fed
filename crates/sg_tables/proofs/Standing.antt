-- What stands in the lists of a race.
use Rattle.std.proofs.Common.{◌≡◌, ℕ, ◌+◌, ◌*◌, ◌/◌, ◌%◌, ◌<◌, List, length, map, slice_get, slice_index, Some, refl, sym, ap, ◌∙◌, arith}
use Rattle.std.specs.List.{flat_map}
use Rattle.std.proofs.lemmas.Option.{get_or_from_slice_get, same_Some}
use Rattle.sg_plan.specs.Ballots.{candidates_of, entries_of, rows_of}
use Rattle.sg_plan.specs.declared.plan.Plan.{Plan}
use Rattle.sg_streams.specs.Numbers.{numbers_below}
use Rattle.sg_tables.specs.inside.Kept.{KeepsRace, columns_of_row}
use Rattle.sg_tables.specs.Tables.{code_beside, codes_of_row, column_showing, shown_by, shown_in_row}
use Rattle.sg_tables.specs.declared.race_lists.RaceLists.{RaceLists}
use Rattle.sg_tables.proofs.Draws.{length-shown_in_row}
use Rattle.sg_tables.proofs.Lists.{get_or-flat_below, get_or-map_below, length-flat_below, slice_get-map_below}
use Rattle.sg_tables.proofs.Sizes.{Sizes}
use Rattle.sg_tables.proofs.Values.{entry_split, length-codes_of_row, length-columns_of_row, number_at}

-- where an entry, a row and a column, or a row and a candidate stand in a list of all of them
pub record Stands (list : List ℕ) (at value : ℕ) : Type 0 where
  pub within : at < length list
  pub is : slice_index list at ≡ value

-- a value that was read there
pub stands_read : (list : List ℕ) (at value read : ℕ) → Stands list at value → slice_get list at ≡ Some read → read ≡ value
stands_read list at value read stands found = sym (get_or_from_slice_get list at read 0 found) ∙ stands.is

-- the number of a row and a column is small
pub number_small : (plan : Plan) (race row column width : ℕ) → Sizes plan race → width ≡ candidates_of plan race → row < rows_of plan race → column < candidates_of plan race
    → row * width + column < 200000
number_small plan race row column width small is above within =
    let number = number_at plan race row column above within in
    rw is (omega (arith, number.below, small.entries))

-- a list of rows of one width
stands_flat : (plan : Plan) (race : ℕ) (f : ℕ → List ℕ) → ((row : ℕ) → length (f row) ≡ candidates_of plan race)
    → (row column : ℕ) → row < rows_of plan race → column < candidates_of plan race
    → (list : List ℕ) (width : ℕ) → list ≡ flat_map f (numbers_below (rows_of plan race)) → width ≡ candidates_of plan race
    → Stands list (row * width + column) (slice_index (f row) column)
stands_flat plan race f each row column above within list width kept is =
    let k = candidates_of plan race in
    let number = number_at plan race row column above within in
    let long = length-flat_below f k each (rows_of plan race) in
    rw (kept, is) (record {
      within = omega (arith, number.below, long);
      is = get_or-flat_below f k each (rows_of plan race) row column 0 above within;
    })

pub code_stands : (plan : Plan) (seed : List ℕ) (race : ℕ) (lists : RaceLists) → Sizes plan race → KeepsRace plan seed race lists
    → (row candidate : ℕ) → row < rows_of plan race → candidate < candidates_of plan race
    → Stands lists.codes (row * lists.candidates + candidate) (code_beside plan seed race row candidate)
unfolding code_beside
code_stands plan seed race lists small kept row candidate above within =
    stands_flat plan race (codes_of_row plan seed race) (λ r. length-codes_of_row plan seed race r small.version small.candidates)
    row candidate above within lists.codes lists.candidates kept.codes kept.candidates

pub column_stands : (plan : Plan) (seed : List ℕ) (race : ℕ) (lists : RaceLists) → KeepsRace plan seed race lists
    → (row candidate : ℕ) → row < rows_of plan race → candidate < candidates_of plan race
    → Stands lists.columns (row * lists.candidates + candidate) (column_showing plan seed race row candidate)
column_stands plan seed race lists kept row candidate above within =
    let at = stands_flat plan race (columns_of_row plan seed race) (length-columns_of_row plan seed race)
    row candidate above within lists.columns lists.candidates kept.columns kept.candidates in
    record { within = at.within; is = at.is ∙ get_or-map_below (column_showing plan seed race row) (candidates_of plan race) candidate 0 within }

pub shown_stands : (plan : Plan) (seed : List ℕ) (race : ℕ) (lists : RaceLists) → Sizes plan race → KeepsRace plan seed race lists
    → (entry : ℕ) → entry < entries_of plan race → Stands lists.shown entry (shown_by plan seed race entry)
unfolding shown_by
shown_stands plan seed race lists small kept entry below =
    let k = candidates_of plan race in
    let split = entry_split plan race entry small.some_candidate below in
    let at = stands_flat plan race (shown_in_row plan seed race) (length-shown_in_row plan seed race)
    (entry / k) (entry % k) split.row split.column lists.shown k kept.shown refl in
    rw split.is at at

-- a list for each of the first numbers
pub lists_stand : (f : ℕ → List ℕ) (n at : ℕ) (lists : List (List ℕ)) (read : List ℕ) → lists ≡ map f (numbers_below n) → at < n
    → slice_get lists at ≡ Some read → read ≡ f at
lists_stand f n at lists read kept less found =
    same_Some read (f at) (sym found ∙ ap (λ l. slice_get l at) kept ∙ slice_get-map_below f n at less)
