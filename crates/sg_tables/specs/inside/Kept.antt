-- How the code keeps the tables. No reader needs to believe this: the calls' contracts speak of `Tables` alone.
use Rattle.std.specs.Prelude.{◌≡◌, ◌<◌, ◌==◌, ℕ, List, length, map, slice_get, Some, None}
use Rattle.std.specs.List.{flat_map, position_or_len}
use Rattle.sg_plan.specs.Ballots.{candidates_of, rows_of}
use Rattle.sg_plan.specs.Limits.{fault_of}
use Rattle.sg_plan.specs.declared.plan.Plan.{Plan}
use Rattle.sg_streams.specs.Numbers.{numbers_below}
use Rattle.sg_streams.specs.OpeningKeys.{KeyPlace}
use Rattle.sg_streams.specs.Streams.{stream_number}
use Rattle.sg_tables.specs.Tables.{codes_of_row, column_showing, lefts_of, place_rows_of, shown_in_row}
use Rattle.sg_tables.specs.declared.race_lists.RaceLists.{RaceLists}

-- the codes of the first ballot rows, one row after another
abbrev pub kept_codes : Plan → List ℕ → ℕ → ℕ → List ℕ
kept_codes plan seed race rows = flat_map (codes_of_row plan seed race) (numbers_below rows)

-- the candidates that the first ballot rows show
abbrev pub kept_shown : Plan → List ℕ → ℕ → ℕ → List ℕ
kept_shown plan seed race rows = flat_map (shown_in_row plan seed race) (numbers_below rows)

-- the place of each number in a list of the first numbers
abbrev pub inverse : List ℕ → List ℕ
inverse list = map (λ x. position_or_len (λ y. y == x) list) (numbers_below (length list))

-- the columns of a ballot row by candidate: the inverse of what it shows by column
abbrev pub columns_of_row : Plan → List ℕ → ℕ → ℕ → List ℕ
columns_of_row plan seed race row = map (column_showing plan seed race row) (numbers_below (candidates_of plan race))

-- the columns of the first ballot rows
abbrev pub kept_columns : Plan → List ℕ → ℕ → ℕ → List ℕ
kept_columns plan seed race rows = flat_map (columns_of_row plan seed race) (numbers_below rows)

-- the lists of a race are those of its tables
pub record KeepsRace (plan : Plan) (seed : List ℕ) (race : ℕ) (lists : RaceLists) : Type 0 where
  pub candidates : lists.candidates ≡ candidates_of plan race
  pub codes : lists.codes ≡ kept_codes plan seed race (rows_of plan race)
  pub shown : lists.shown ≡ kept_shown plan seed race (rows_of plan race)
  pub columns : lists.columns ≡ kept_columns plan seed race (rows_of plan race)
  pub place_rows : lists.place_rows ≡ map (place_rows_of plan seed race) (numbers_below (candidates_of plan race))
  pub lefts : lists.lefts ≡ map (lefts_of plan seed race) (numbers_below plan.instances)

-- the first races have their lists
abbrev pub KeepRaces : Plan → List ℕ → List RaceLists → Type 0
KeepRaces plan seed races = (race : ℕ) (lists : RaceLists) → slice_get races race ≡ Some lists → KeepsRace plan seed race lists

-- all races of a plan without a fault have their lists
pub record Keeps (plan : Plan) (seed : List ℕ) (races : List RaceLists) : Type 0 where
  pub limits : fault_of plan ≡ None
  pub many : length races ≡ length plan.races
  pub each : KeepRaces plan seed races

-- a walk over the openings of a race: its keys are those of a stream, and the next is that of the item
pub record KeepsKeys (plan : Plan) (seed : List ℕ) (purpose race index item : ℕ) (keys : KeyPlace) : Type 0 where
  pub limits : fault_of plan ≡ None
  pub within : race < length plan.races
  pub keys_are : keys ≡ record { seed = seed; stream = stream_number purpose race index; item = item }
