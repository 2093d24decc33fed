-- The lines of a sheet before anything is printed on them: which ballot, and which row of which race.
use Rattle.std.specs.Prelude.{ℕ, ◌+◌, List, [], ◌∷◌, ◌++◌, map}
use Rattle.sg_plan.specs.Ballots.{ballot_row, ballot_styles, races_of_style}
use Rattle.sg_plan.specs.declared.plan.Plan.{Plan}
use Rattle.sg_sheet.specs.Sheet.{Printed, SheetLine}
use Rattle.sg_sheet.specs.Sheet.SheetLine.{Ballot, Codes}
use Rattle.sg_sheet.specs.declared.due.Due.{Due}
use Rattle.sg_sheet.specs.declared.due.Due.TheVariants as due

-- the line with what is printed on it
abbrev pub line_due : Printed → Due → SheetLine
line_due printed (due.Ballot ballot style) = Ballot ballot style
line_due printed (due.Codes race row) = Codes race (printed race row)

abbrev pub codes_due : Plan → ℕ → ℕ → Due
codes_due plan ballot race = due.Codes race (ballot_row plan race ballot)

abbrev pub ballot_due : Plan → ℕ → ℕ → List Due
ballot_due plan ballot style = due.Ballot ballot style ∷ map (codes_due plan ballot) (races_of_style plan style)

abbrev pub due_from : Plan → ℕ → List ℕ → List Due
due_from plan ballot [] = []
due_from plan ballot (style ∷ styles) = ballot_due plan ballot style ++ due_from plan (ballot + 1) styles

-- the lines of all ballots
abbrev pub sheet_due : Plan → List Due
sheet_due plan = due_from plan 1 (ballot_styles plan.runs)
