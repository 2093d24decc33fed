-- How the lists of a printing and of a completion are filled, line by line.
use Rattle.std.specs.Prelude.{◌≡◌, ℕ, ◌<◌, nat_lt, Bool, true, false, List, [], ◌∷◌, ◌++◌, length, slice_index_or, slice_set}
use Rattle.sg_plan.specs.declared.plan.Plan.{Plan}
use Rattle.sg_sheet.specs.Sheet.{ballot_text, codes_text}
use Rattle.sg_sheet.specs.declared.due.Due.{Due}
use Rattle.sg_sheet.specs.declared.due.Due.TheVariants as due
use Rattle.sg_parts.specs.Faults.{IsRowLine}
use Rattle.sg_parts.specs.Given.{AreCodes, IsRowGiven, row_text}
use Rattle.sg_parts.specs.declared.parts.RowGiven.{RowGiven}

-- A LINE OF THE SHEET

abbrev pub Lists : Type 0
Lists = List (List (List ℕ))

-- one more list of codes of the race
abbrev pub with_list : Lists → ℕ → List ℕ → Lists
with_list lists race list = slice_set lists race (slice_index_or lists race [] ++ list ∷ [])

-- the line has codes of the race, and these are put; or it has none, and nothing changes
abbrev pub TakesCodes : Plan → ℕ → List ℕ → Lists → Lists → Bool → Type 0
TakesCodes plan race line old new true = (list : List ℕ) × AreCodes plan race list × (line ≡ codes_text plan.version race list) × (new ≡ with_list old race list)
TakesCodes plan race line old new false = (new ≡ old) × ((list : List ℕ) → AreCodes plan race list → line ≡ codes_text plan.version race list → ⊥)

-- the line is the one that is due, and its codes are put; or it is another, and nothing changes
abbrev pub TakesLine : Plan → Due → List ℕ → Lists → Lists → Bool → Type 0
TakesLine plan (due.Ballot ballot style) line old new true = (line ≡ ballot_text ballot style) × (new ≡ old)
TakesLine plan (due.Ballot ballot style) line old new false = (new ≡ old) × (line ≡ ballot_text ballot style → ⊥)
TakesLine plan (due.Codes race row) line old new taken = TakesCodes plan race line old new taken

-- the race of the line is one of so many
abbrev pub is_race_due : ℕ → Due → Bool
is_race_due races (due.Ballot ballot style) = true
is_race_due races (due.Codes race row) = nat_lt race races

-- these lines are taken one after another, and others are left
abbrev pub Fills : Plan → List Due → List (List ℕ) → Lists → List (List ℕ) → Lists → Type 0
Fills plan [] lines old left new = (lines ≡ left) × (old ≡ new)
Fills plan (one ∷ due) [] old left new = ⊥
Fills plan (one ∷ due) (line ∷ lines) old left new = (mid : Lists) × TakesLine plan one line old mid true × Fills plan due lines mid left new

-- A LINE OF A ROW

-- each of the rows has openings that are such
abbrev pub AreGiven : List RowGiven → Type 0
AreGiven [] = Unit {0}
AreGiven (row ∷ rows) = IsRowGiven row × AreGiven rows

-- fewer than so many rows were read, and the line is that of one more, which is put; or else nothing changes
abbrev pub TakesRow : ℕ → List ℕ → List RowGiven → List RowGiven → Bool → Type 0
TakesRow count line old new true = (row : RowGiven) × IsRowGiven row × (line ≡ row_text row) × (new ≡ old ++ row ∷ []) × (length old < count)
TakesRow count line old new false = (new ≡ old) × (length old < count → IsRowLine line → ⊥)
