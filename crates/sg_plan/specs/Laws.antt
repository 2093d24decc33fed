-- What follows from a plan's limits and from the numbering of its ballots, entries, places and rows
-- (this project's rules for the record).
use Rattle.std.specs.Prelude.{◌≡◌, ℕ, ◌/◌, ◌%◌, ◌<◌, ◌≤◌, ◌↔◌, true, length, None}
use Rattle.sg_plan.specs.Ballots.{IsBallotOf, all_entries, ballot_has, ballot_row, ballots_of, candidates_of, entries_of, entry_at, entry_place, r_rows, row_place, rows_of, votes_of}
use Rattle.sg_plan.specs.Limits.{KeepsLimits, fault_of, most_ballots, most_rows, plan_keeps}
use Rattle.sg_plan.specs.declared.plan.Plan.{Plan}

-- LIMITS

-- a plan has no fault exactly where it keeps its limits
abbrev pub LimitsAreTold : Type 0
LimitsAreTold = (plan : Plan) → (fault_of plan ≡ None) ↔ KeepsLimits plan

-- and where it passes the tests of its parts
abbrev pub KeepingIsTold : Type 0
KeepingIsTold = (plan : Plan) → (plan_keeps plan ≡ true) ↔ (fault_of plan ≡ None)

-- how large the numbers of a plan may be
pub record Bounds (plan : Plan) : Type 0 where
  pub one_race : 1 ≤ length plan.races
  pub few_races : length plan.races ≤ 32
  pub one_instance : 1 ≤ plan.instances
  pub few_instances : plan.instances ≤ 16
  pub few_styles : length plan.styles ≤ 32
  pub one_ballot : 1 ≤ ballots_of plan
  pub few_ballots : ballots_of plan ≤ most_ballots
  pub two_candidates : (race : ℕ) → race < length plan.races → 2 ≤ candidates_of plan race
  pub few_candidates : (race : ℕ) → candidates_of plan race ≤ 16
  pub few_votes : (race : ℕ) → votes_of plan race ≤ candidates_of plan race
  pub few_rows : (race : ℕ) → rows_of plan race ≤ ballots_of plan
  pub few_entries : (race : ℕ) → race < length plan.races → entries_of plan race ≤ most_rows
  pub few_all_entries : all_entries plan ≤ most_rows
  pub few_r_rows : r_rows plan ≤ most_rows

-- a plan without a fault keeps them
abbrev pub BoundsAreKept : Type 0
BoundsAreKept = (plan : Plan) → fault_of plan ≡ None → Bounds plan

-- BALLOT ROWS

-- different ballots that have a race have different ballot rows in it, and these are below their number
pub record RowsAreOne (plan : Plan) (race : ℕ) : Type 0 where
  pub below : (ballot : ℕ) → ballot_has plan ballot race ≡ true → ballot_row plan race ballot < rows_of plan race
  pub one : (ballot other : ℕ) → ballot_has plan ballot race ≡ true → ballot_has plan other race ≡ true
      → ballot_row plan race ballot ≡ ballot_row plan race other → ballot ≡ other

-- the ballot in a ballot row
pub record InRow (plan : Plan) (race row : ℕ) : Type 0 where
  pub ballot : ℕ
  pub has : ballot_has plan ballot race ≡ true
  pub is : ballot_row plan race ballot ≡ row

-- each number below their number is a ballot row, and of one ballot
pub record RowLaws : Type 0 where
  pub one : (plan : Plan) (race : ℕ) → RowsAreOne plan race
  pub filled : (plan : Plan) (race row : ℕ) → row < rows_of plan race → InRow plan race row

-- ENTRIES

-- what the entry in a column of a ballot tells
pub record EntryTells (plan : Plan) (race ballot column : ℕ) : Type 0 where
  pub below : entry_at plan race ballot column < entries_of plan race
  pub row : entry_at plan race ballot column / candidates_of plan race ≡ ballot_row plan race ballot
  pub column_is : entry_at plan race ballot column % candidates_of plan race ≡ column
  pub ballot_is : IsBallotOf plan race (entry_at plan race ballot column) ballot

-- the ballot of an entry
pub record OfBallot (plan : Plan) (race entry : ℕ) : Type 0 where
  pub ballot : ℕ
  pub is : IsBallotOf plan race entry ballot
  pub column : entry % candidates_of plan race < candidates_of plan race
  pub entry_is : entry_at plan race ballot (entry % candidates_of plan race) ≡ entry

-- an entry, and a ballot with a column, determine each other
pub record EntryLaws : Type 0 where
  pub tells : (plan : Plan) (race ballot column : ℕ) → ballot_has plan ballot race ≡ true → column < candidates_of plan race → EntryTells plan race ballot column
  pub filled : (plan : Plan) (race entry : ℕ) → entry < entries_of plan race → OfBallot plan race entry
  pub one : (plan : Plan) (race entry ballot other : ℕ) → IsBallotOf plan race entry ballot → IsBallotOf plan race entry other → ballot ≡ other

-- PLACES IN ALL RACES

-- the entries of all races, one after another, have different places below their number
pub record EntryPlaceLaws : Type 0 where
  pub below : (plan : Plan) (race entry : ℕ) → race < length plan.races → entry < entries_of plan race → entry_place plan race entry < all_entries plan
  pub one : (plan : Plan) (race entry other_race other : ℕ) → entry < entries_of plan race → other < entries_of plan other_race
      → entry_place plan race entry ≡ entry_place plan other_race other → (race ≡ other_race) × (entry ≡ other)

-- the rows of all races and instances, one after another, have different places below their number
pub record RowPlaceLaws : Type 0 where
  pub below : (plan : Plan) (race instance row : ℕ) → race < length plan.races → instance < plan.instances → row < entries_of plan race
      → row_place plan race instance row < r_rows plan
  pub one : (plan : Plan) (race instance row other_race other_instance other : ℕ)
      → instance < plan.instances → row < entries_of plan race → other_instance < plan.instances → other < entries_of plan other_race
      → row_place plan race instance row ≡ row_place plan other_race other_instance other → (race ≡ other_race) × (instance ≡ other_instance) × (row ≡ other)
