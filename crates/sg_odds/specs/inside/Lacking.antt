-- How the first row that is lacking is found: which pointers were noted before a row.
use Rattle.std.specs.Prelude.{◌≡◌, ℕ, ◌<◌, nat_le, Bool, true, false, ◌||◌, List, length, slice_get, Option, Some, None}
use Rattle.std.specs.Option.{option_map_or}
use Rattle.sg_commit.specs.declared.Opening.{Opening}
use Rattle.sg_plan.specs.Ballots.{entries_of}
use Rattle.sg_plan.specs.declared.plan.Plan.{Plan}
use Rattle.sg_plan.specs.declared.plan.Side.{Side}
use Rattle.sg_check.specs.Completions.{Completion, any_below}
use Rattle.sg_check.specs.Facts.{points_to}
use Rattle.sg_odds.specs.Answers.{IsFirstLacking, IsRaceFull}
use Rattle.sg_odds.specs.Odds.{IsInstanceFull, is_lacking}
use Rattle.sg_odds.specs.declared.full.RowIndex.{RowIndex}

-- there is no opening, or its pointer has no place in the list or was noted there
abbrev pub lacks_in : List Bool → Option Opening → Bool
lacks_in seen half = option_map_or (λ opening. nat_le (length seen) opening.value || option_map_or (λ was. was) (slice_get seen opening.value) false) half true

-- an earlier row of the instance has the pointer on this side
abbrev pub is_earlier : Completion → Side → ℕ → ℕ → ℕ → ℕ → Bool
is_earlier completion on race instance row pointer = any_below (λ earlier. points_to pointer (completion on race instance earlier)) row

-- no row before this one is lacking
abbrev pub IsFullBefore : Plan → Completion → ℕ → ℕ → ℕ → Type 0
IsFullBefore plan completion race instance row = (earlier : ℕ) → earlier < row → is_lacking plan completion race instance earlier ≡ false

-- the first row of the instance that is lacking
pub record IsFirstIn (plan : Plan) (completion : Completion) (race instance row : ℕ) : Type 0 where
  pub within : row < entries_of plan race
  pub lacking : is_lacking plan completion race instance row ≡ true
  pub before : IsFullBefore plan completion race instance row

-- that row, or none where the instance is full
abbrev pub IsFirstOfInstance : Plan → Completion → ℕ → ℕ → Option ℕ → Type 0
IsFirstOfInstance plan completion race instance (Some row) = IsFirstIn plan completion race instance row
IsFirstOfInstance plan completion race instance None = IsInstanceFull plan completion race instance

-- the first instances of the race are full
abbrev pub IsFullUpTo : Plan → Completion → ℕ → ℕ → Type 0
IsFullUpTo plan completion race instance = (earlier : ℕ) → earlier < instance → IsInstanceFull plan completion race earlier

-- the first row of the race that is lacking, or none where the race is full
abbrev pub IsFirstOfRace : Plan → Completion → ℕ → Option RowIndex → Type 0
IsFirstOfRace plan completion race (Some at) = IsFirstLacking plan completion race at.instance at.row
IsFirstOfRace plan completion race None = IsRaceFull plan completion race
