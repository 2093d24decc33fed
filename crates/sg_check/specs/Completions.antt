-- Completions: what may stand behind the commitments that a record doesn't open, and which rows are altered then
-- (this project's rules for the record).
use Rattle.std.specs.Prelude.{◌≡◌, ℕ, zero, suc, ◌/◌, ◌%◌, ◌<◌, ◌==◌, nat_le, nat_lt, if◌then◌else◌, Bool, true, false, ◌&&◌, ◌||◌, not, List, length, Option, Some, None, IsSome, is_none}
use Rattle.std.specs.Option.{option_map_or}
use Rattle.sg_commit.specs.declared.Opening.{Opening}
use Rattle.sg_forms.specs.Spelling.{IsOpening}
use Rattle.sg_plan.specs.Ballots.{candidates_of, entries_of}
use Rattle.sg_plan.specs.declared.plan.Plan.{Plan}
use Rattle.sg_plan.specs.declared.plan.Side.{Side}
use Rattle.sg_plan.specs.declared.plan.Side.TheVariants as side
use Rattle.sg_grammar.specs.Placed.{Placed}
use Rattle.sg_grammar.specs.Placed.Placed.{RowAt}
use Rattle.sg_check.specs.Facts.{first_given, half_commitment, is_flagged, opened_on, points_to}
use Rattle.sg_check.specs.Kinds.{differ, half_kind, is_counted, opens_digest}
use Rattle.sg_check.specs.Printings.{Printing, count_below, marked_code}

-- THE HALVES OF ROWS: a half is a side, a race, an instance and a row

-- the line posts this half
abbrev pub posts_half : Side → ℕ → ℕ → ℕ → Placed → Option Opening
posts_half on race instance row (RowAt of within at opening) = (if (of == race && within == instance) && at == row then opened_on on opening else None)
posts_half on race instance row line = None

-- what the record posts of a half: none where the half is unopened
abbrev pub posted_half : List Placed → Side → ℕ → ℕ → ℕ → Option Opening
posted_half lines on race instance row = first_given (posts_half on race instance row) lines

-- the plan has this row
abbrev pub IsHalfOf : Plan → ℕ → ℕ → ℕ → Type 0
IsHalfOf plan race instance row = (race < length plan.races) × (instance < plan.instances) × (row < entries_of plan race)

-- COMPLETIONS

-- a completion gives each half of each row an opening, or none
abbrev pub Completion : Type 0
Completion = (on : Side) (race instance row : ℕ) → Option Opening

-- each opening opens the commitment of its half, and there is one wherever the record posts one
pub record IsCompletion (plan : Plan) (lines : List Placed) (completion : Completion) : Type 0 where
  pub is_opening : (on : Side) (race instance row : ℕ) (opening : Opening) → IsHalfOf plan race instance row → completion on race instance row ≡ Some opening → IsOpening opening
  pub opens : (on : Side) (race instance row : ℕ) (opening : Opening) → IsHalfOf plan race instance row → completion on race instance row ≡ Some opening
      → opens_digest (half_commitment lines on race instance row) (half_kind on) race instance row opening ≡ true
  pub has : (on : Side) (race instance row : ℕ) → IsSome (posted_half lines on race instance row) → IsSome (completion on race instance row)

-- it opens no commitment twice: where the record posts a half, the completion has what is posted
abbrev pub OpensNoneTwice : List Placed → Completion → Type 0
OpensNoneTwice lines completion =
    (on : Side) (race instance row : ℕ) (posted : Opening) → posted_half lines on race instance row ≡ Some posted → completion on race instance row ≡ Some posted

-- ALTERED ROWS

-- one of the numbers below this one passes
abbrev pub any_below : (ℕ → Bool) → ℕ → Bool
any_below test zero = false
any_below test (suc n) = any_below test n || test n

-- another row of the instance has this pointer on the side
abbrev pub is_repeated : Plan → Completion → Side → ℕ → ℕ → ℕ → ℕ → Bool
is_repeated plan completion on race instance row pointer =
    any_below (λ other. not (other == row) && points_to pointer (completion on race instance other)) (entries_of plan race)

-- a pointer is wrong where it is n or more, or is another row's, or leads to an entry whose mark, or to a place whose bit,
-- isn't the row's flag
abbrev pub is_wrong_pointer : Plan → List Placed → Completion → Side → ℕ → ℕ → ℕ → ℕ → Bool
is_wrong_pointer plan lines completion on race instance row pointer =
    nat_le (entries_of plan race) pointer
    || (is_repeated plan completion on race instance row pointer || differ (is_flagged race instance row lines) (is_counted plan lines on race pointer))

-- the half is unopened, and the completion has no opening there, or one with a wrong pointer
abbrev pub is_half_altered : Plan → List Placed → Completion → Side → ℕ → ℕ → ℕ → Bool
is_half_altered plan lines completion on race instance row =
    is_none (posted_half lines on race instance row)
    && option_map_or (λ opening. is_wrong_pointer plan lines completion on race instance row opening.value) (completion on race instance row) true

-- the left pointer leads to a marked entry, both pointers are below n, and the entry's code isn't printed beside the
-- candidate of the right pointer's place
abbrev pub is_misprinted : Plan → List Placed → Printing → ℕ → Opening → Opening → Bool
is_misprinted plan lines printing race left right =
    (nat_lt left.value (entries_of plan race) && nat_lt right.value (entries_of plan race))
    && option_map_or (λ code. not (printing race (left.value / candidates_of plan race) (right.value % candidates_of plan race) == code)) (marked_code plan race left.value lines) false

-- the same of the pointers that the completion has in a row
abbrev pub is_row_misprinted : Plan → List Placed → Completion → Printing → ℕ → ℕ → ℕ → Bool
is_row_misprinted plan lines completion printing race instance row =
    option_map_or (λ left. option_map_or (λ right. is_misprinted plan lines printing race left right) (completion side.Right race instance row) false) (completion side.Left race instance row) false

-- a half of the row is unopened
abbrev pub is_unopened : List Placed → ℕ → ℕ → ℕ → Bool
is_unopened lines race instance row = is_none (posted_half lines side.Left race instance row) || is_none (posted_half lines side.Right race instance row)

-- a row is altered where an unopened half of it is, or where it has an unopened half and is misprinted
abbrev pub is_altered : Plan → List Placed → Completion → Printing → ℕ → ℕ → ℕ → Bool
is_altered plan lines completion printing race instance row =
    (is_half_altered plan lines completion side.Left race instance row || is_half_altered plan lines completion side.Right race instance row)
    || (is_unopened lines race instance row && is_row_misprinted plan lines completion printing race instance row)

-- how many rows of the instance are altered
abbrev pub altered_rows : Plan → List Placed → Completion → Printing → ℕ → ℕ → ℕ
altered_rows plan lines completion printing race instance = count_below (is_altered plan lines completion printing race instance) (entries_of plan race)
