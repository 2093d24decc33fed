-- How far the lines behind `printing` were taken, each in its place.
use Rattle.std.specs.Prelude.{◌≡◌, ◌≢◌, ℕ, ◌+◌, ◌<◌, ◌≤◌, ◌⊎◌, List, [], ◌∷◌, ◌++◌, drop, length, map, replicate, take}
use Rattle.sg_plan.specs.Ballots.{r_rows}
use Rattle.sg_plan.specs.declared.plan.Plan.{Plan}
use Rattle.sg_sheet.specs.inside.Listed.{line_due}
use Rattle.sg_sheet.specs.declared.due.Due.{Due}
use Rattle.sg_parts.specs.Faults.{IsRowLine, IsSheetLine, blank}
use Rattle.sg_parts.specs.Given.{completion_line, row_text}
use Rattle.sg_parts.specs.declared.parts.RowGiven.{RowGiven}
use Rattle.sg_parts.specs.declared.reading.PartsReading.{PartsReading}
use Rattle.sg_parts.specs.inside.Filling.{AreGiven, Fills, Lists}

-- the lists of a printing of which no line was taken
abbrev pub bare : Plan → Lists
bare plan = replicate (length plan.races) []

-- the lines are the first so many of the sheet, with these codes
pub record OnSheet (plan : Plan) (due : List Due) (taken : ℕ) (codes : Lists) (lines : List (List ℕ)) : Type 0 where
  pub within : taken ≤ length due
  pub count : length lines ≡ taken
  pub races : length codes ≡ length plan.races
  pub fills : Fills plan (take taken due) lines (bare plan) [] codes

-- the lines are the sheet with these codes, the line `completion` and these rows
pub record OnRows (plan : Plan) (due : List Due) (taken : ℕ) (codes : Lists) (rows : List RowGiven) (lines : List (List ℕ)) : Type 0 where
  pub sheet : List (List ℕ)
  pub fills : Fills plan due sheet (bare plan) [] codes
  pub given : AreGiven rows
  pub text : lines ≡ sheet ++ completion_line ∷ map row_text rows
  pub count : taken ≡ length due + length rows + 1
  pub few : length rows ≤ r_rows plan

-- each line so far was in its place
abbrev pub Stands : Plan → List Due → ℕ → Lists → List RowGiven → List (List ℕ) → Type 0
Stands plan due taken codes rows lines = (OnSheet plan due taken codes lines × (rows ≡ [])) ⊎ OnRows plan due taken codes rows lines

-- the line isn't the one that is due
pub record IsOff (reading : PartsReading) (text : List ℕ) : Type 0 where
  pub sheet : (one : Due) (left : List Due) → drop reading.taken reading.due ≡ one ∷ left → IsSheetLine reading.posted.plan (line_due blank one) text → ⊥
  pub word : reading.taken ≡ length reading.due → text ≢ completion_line
  pub row : length reading.due < reading.taken → length reading.rows < reading.count → IsRowLine text → ⊥

-- the first of these lines isn't the one that is due, or that one is missing
abbrev pub IsNextOff : PartsReading → List (List ℕ) → Type 0
IsNextOff reading [] = reading.taken < length reading.due + reading.count + 1
IsNextOff reading (text ∷ more) = IsOff reading text
