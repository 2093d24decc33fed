-- How a record parts: which lines never stand behind which, which lines a whole record has, and what numbers they have
-- (this project's rules for the record).
use Rattle.std.specs.Prelude.{◌≡◌, ℕ, ◌+◌, ◌<◌, ◌≤◌, ◌==◌, nat_lt, Bool, true, false, ◌&&◌, ◌||◌, List, [], ◌∷◌, length}
use Rattle.std.specs.List.{list_any}
use Rattle.sg_plan.specs.Ballots.{candidates_of, entries_of}
use Rattle.sg_plan.specs.Codes.{codes_of}
use Rattle.sg_plan.specs.declared.plan.Plan.{Plan}
use Rattle.sg_forms.specs.Spelling.{IsRow}
use Rattle.sg_forms.specs.declared.line.RowOpening.{RowOpening}
use Rattle.sg_grammar.specs.Left.{is_total_line}
use Rattle.sg_grammar.specs.Lines.{IsAmong, is_cast}
use Rattle.sg_grammar.specs.Placed.{Placed}
use Rattle.sg_grammar.specs.Placed.Placed.{CodeAt, DrawnFull, DrawnPublic, FlagsAt, PlacesAt, RowAt, TotalAt}
use Rattle.sg_grammar.specs.Coordinates.{IsPlacedIn}

-- LINES THAT NEVER STAND BEHIND OTHERS

-- none of the items passes
abbrev pub None_of : {A : Type 0} → (A → Bool) → List A → Type 0
None_of p xs = list_any p xs ≡ false

-- no item clashes with a later one
abbrev pub Apart : {A : Type 0} → (A → A → Bool) → List A → Type 0
Apart clash [] = Unit {0}
Apart clash (x ∷ xs) = None_of (clash x) xs × Apart clash xs

-- the line comes before all rows: it is a mark, flags, places, or the draw
abbrev pub is_before_rows : Placed → Bool
is_before_rows (CodeAt kind ballot race column code) = is_cast kind
is_before_rows (FlagsAt race instance from bits) = true
is_before_rows (PlacesAt race from bits) = true
is_before_rows DrawnFull = true
is_before_rows (DrawnPublic digits) = true
is_before_rows line = false

-- the line has places of the race, the first of them before this one
abbrev pub are_places_before : ℕ → ℕ → Placed → Bool
are_places_before race end (PlacesAt of from bits) = race == of && nat_lt from end
are_places_before race end line = false

-- the line has places of the race
abbrev pub are_places : ℕ → Placed → Bool
are_places race (PlacesAt of from bits) = race == of
are_places race line = false

-- the line is the row with these coordinates
abbrev pub is_row_at : ℕ → ℕ → ℕ → Placed → Bool
is_row_at race instance row (RowAt of within at opening) = (race == of && instance == within) && row == at
is_row_at race instance row line = false

-- the second line never stands behind the first: behind the draw none that comes before all rows, and no total; behind a
-- row none that comes before all rows, nor the same row again; behind a total no places of its race; and behind places
-- none of their race that begin before their end
abbrev pub clash : Placed → Placed → Bool
clash (RowAt race instance row opening) line = is_before_rows line || is_row_at race instance row line
clash (TotalAt race candidate count) line = are_places race line
clash (PlacesAt race from bits) line = are_places_before race (from + length bits) line
clash DrawnFull line = is_before_rows line || is_total_line line
clash (DrawnPublic digits) line = is_before_rows line || is_total_line line
clash earlier line = false

-- LINES OF A WHOLE RECORD

-- the row has its line
pub record HasRow (lines : List Placed) (race instance row : ℕ) : Type 0 where
  pub opening : RowOpening
  pub among : IsAmong lines (RowAt race instance row opening)

-- the place has its bit on a line
pub record HasPlace (lines : List Placed) (race place : ℕ) : Type 0 where
  pub from : ℕ
  pub bits : List ℕ
  pub among : IsAmong lines (PlacesAt race from bits)
  pub first : from ≤ place
  pub behind : place < from + length bits

-- the candidate has a total
pub record HasTotal (lines : List Placed) (race candidate : ℕ) : Type 0 where
  pub count : ℕ
  pub among : IsAmong lines (TotalAt race candidate count)

-- each row, each place and each candidate of the plan has its line
pub record HasEachLine (plan : Plan) (lines : List Placed) : Type 0 where
  pub row : (race instance row : ℕ) → race < length plan.races → instance < plan.instances → row < entries_of plan race → HasRow lines race instance row
  pub place : (race place : ℕ) → race < length plan.races → place < entries_of plan race → HasPlace lines race place
  pub total : (race candidate : ℕ) → race < length plan.races → candidate < candidates_of plan race → HasTotal lines race candidate

-- NUMBERS

-- what the line shows is in its range: a code is one of the version, and what a row opens is an opening
abbrev pub IsShownIn : Plan → Placed → Type 0
IsShownIn plan (CodeAt kind ballot race column code) = code.code < codes_of plan.version
IsShownIn plan (RowAt race instance row opening) = IsRow opening
IsShownIn plan line = Unit {0}

-- the line's numbers are in the plan, and what it shows is in its range
pub record IsLineIn (plan : Plan) (line : Placed) : Type 0 where
  pub placed : IsPlacedIn plan line
  pub shown : IsShownIn plan line
