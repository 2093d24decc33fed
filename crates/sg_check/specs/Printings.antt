-- Printings: the codes that stand on the papers. A record doesn't post them, so what is promised of a record is promised
-- for each printing that stands with what it opens (this project's rules for the record).
use Rattle.std.specs.Prelude.{◌≡◌, ◌≢◌, ℕ, zero, suc, ◌+◌, ◌/◌, ◌%◌, ◌<◌, ◌==◌, if◌then◌else◌, Bool, false, ◌&&◌, List, length, Option, Some, None}
use Rattle.std.specs.Option.{option_map_or}
use Rattle.sg_commit.specs.declared.Opening.{Opening}
use Rattle.sg_forms.specs.declared.line.CodeLine.{CodeLine}
use Rattle.sg_forms.specs.declared.line.RowOpening.TheVariants as opened
use Rattle.sg_plan.specs.Ballots.{candidates_of, entries_of, entry_at, rows_of}
use Rattle.sg_plan.specs.Codes.{codes_of}
use Rattle.sg_plan.specs.declared.plan.Plan.{Plan}
use Rattle.sg_grammar.specs.Lines.{IsAmong, is_cast}
use Rattle.sg_grammar.specs.Placed.{Placed}
use Rattle.sg_grammar.specs.Placed.Placed.{CodeAt, RowAt}
use Rattle.sg_grammar.specs.declared.state.Block.{Block}
use Rattle.sg_check.specs.Facts.{first_given}

-- a printing gives the code beside a candidate in a ballot row of a race
abbrev pub Printing : Type 0
Printing = (race row candidate : ℕ) → ℕ

-- the race has this ballot row
abbrev pub IsRowOf : Plan → ℕ → ℕ → Type 0
IsRowOf plan race row = (race < length plan.races) × (row < rows_of plan race)

-- in each ballot row of a race the candidates have different codes
abbrev pub AreCodesDifferent : Plan → Printing → Type 0
AreCodesDifferent plan printing =
    (race row candidate other : ℕ) → IsRowOf plan race row → candidate < candidates_of plan race → other < candidates_of plan race
    → candidate ≢ other → printing race row candidate ≢ printing race row other

-- they have different codes, and each is a code of the plan's version
pub record IsPrinting (plan : Plan) (printing : Printing) : Type 0 where
  pub below : (race row candidate : ℕ) → IsRowOf plan race row → candidate < candidates_of plan race → printing race row candidate < codes_of plan.version
  pub differ : AreCodesDifferent plan printing

-- a printing stands with a record where, for each row that is opened on both sides, each code that is known of its entry
-- is printed beside the candidate of its place
abbrev pub StandsWith : Plan → List Placed → Printing → Type 0
StandsWith plan lines printing =
    (race instance row : ℕ) (left right : Opening) (block : Block) (ballot column : ℕ) (code : CodeLine)
    → IsAmong lines (RowAt race instance row (opened.Both left right)) → IsAmong lines (CodeAt block ballot race column code)
    → entry_at plan race ballot column ≡ left.value
    → printing race (left.value / candidates_of plan race) (right.value % candidates_of plan race) ≡ code.code

-- how many numbers below this one pass
abbrev pub count_below : (ℕ → Bool) → ℕ → ℕ
count_below test zero = 0
count_below test (suc n) = count_below test n + (if test n then 1 else 0)

-- the line shows the code of this entry in the block of a cast ballot
abbrev pub posts_code : Plan → ℕ → ℕ → Placed → Option ℕ
posts_code plan race entry (CodeAt block ballot of column code) = (if is_cast block && (of == race && entry_at plan of ballot column == entry) then Some code.code else None)
posts_code plan race entry line = None

-- the code that is posted of a marked entry: there is one exactly where the entry is marked
abbrev pub marked_code : Plan → ℕ → ℕ → List Placed → Option ℕ
marked_code plan race entry lines = first_given (posts_code plan race entry) lines

-- the entry is marked, and its code is printed beside this candidate in its ballot row
abbrev pub is_posted_for : Plan → List Placed → Printing → ℕ → ℕ → ℕ → Bool
is_posted_for plan lines printing race candidate entry =
    option_map_or (λ code. printing race (entry / candidates_of plan race) candidate == code) (marked_code plan race entry lines) false

-- the count of posted codes: how many of the race's marked entries have a code that is printed beside the candidate
abbrev pub posted_count : Plan → List Placed → Printing → ℕ → ℕ → ℕ
posted_count plan lines printing race candidate = count_below (is_posted_for plan lines printing race candidate) (entries_of plan race)
