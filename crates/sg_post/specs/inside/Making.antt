-- Flags, places and totals as they are made from marks.
use Rattle.std.specs.Prelude.{◌≡◌, ℕ, ◌%◌, ◌<◌, ◌==◌, Bool, false, ◌&&◌, List, [], length, map, slice_index_or, count_by}
use Rattle.std.specs.List.{list_any}
use Rattle.sg_plan.specs.Ballots.{candidates_of, entries_of}
use Rattle.sg_plan.specs.declared.plan.Plan.{Plan}
use Rattle.sg_streams.specs.Numbers.{numbers_below}
use Rattle.sg_tables.specs.Tables.{left_of, path_of}

-- a list for each race, with an item for each of its entries
pub record HaveEntries (plan : Plan) (lists : List (List Bool)) : Type 0 where
  pub many : length lists ≡ length plan.races
  pub each : (race : ℕ) → race < length plan.races → length (slice_index_or lists race []) ≡ entries_of plan race

-- the bit at this place
abbrev pub has_bit : List Bool → ℕ → Bool
has_bit bits at = slice_index_or bits at false

-- the bits of a race
abbrev pub of_race : List (List Bool) → ℕ → List Bool
of_race lists race = slice_index_or lists race []

-- a marked entry leads to the place
abbrev pub leads_to : Plan → List ℕ → ℕ → List Bool → ℕ → ℕ → Bool
leads_to plan seed race marks place entry = path_of plan seed race entry == place && has_bit marks entry

-- the flags of an instance by the marks of its race
abbrev pub flags_by : Plan → List ℕ → ℕ → List Bool → ℕ → List Bool
flags_by plan seed race marks instance = map (λ row. has_bit marks (left_of plan seed race instance row)) (numbers_below (entries_of plan race))

-- the flags of a race by its marks
abbrev pub race_flags_by : Plan → List ℕ → List (List Bool) → ℕ → List (List Bool)
race_flags_by plan seed marks race = map (flags_by plan seed race (of_race marks race)) (numbers_below plan.instances)

-- the places that the first entries set
abbrev pub places_by : Plan → List ℕ → ℕ → List Bool → ℕ → List Bool
places_by plan seed race marks count = map (λ place. list_any (leads_to plan seed race marks place) (numbers_below count)) (numbers_below (entries_of plan race))

-- the places of a race by its marks
abbrev pub race_places_by : Plan → List ℕ → List (List Bool) → ℕ → List Bool
race_places_by plan seed marks race = places_by plan seed race (of_race marks race) (entries_of plan race)

-- the place is set, and in the column of the candidate, where the race has so many
abbrev pub is_vote : List Bool → ℕ → ℕ → ℕ → Bool
is_vote places candidates candidate place = place % candidates == candidate && has_bit places place

-- the total of a candidate by the places of a race
abbrev pub total_by : List Bool → ℕ → ℕ → ℕ
total_by places candidates candidate = count_by (is_vote places candidates candidate) (numbers_below (length places))

-- the votes of each candidate among the first places
abbrev pub votes_by : List Bool → ℕ → ℕ → List ℕ
votes_by places candidates count = map (λ candidate. count_by (is_vote places candidates candidate) (numbers_below count)) (numbers_below candidates)

-- the totals of a race by its places
abbrev pub race_totals_by : Plan → List (List Bool) → ℕ → List ℕ
race_totals_by plan places race = map (total_by (of_race places race) (candidates_of plan race)) (numbers_below (candidates_of plan race))
