-- The printer's text: the codes that stand on the paper of each ballot (this project's formats).
use Rattle.std.specs.Prelude.{ℕ, ◌+◌, List, [], ◌∷◌, ◌++◌, map, codes, decimal}
use Rattle.std.specs.List.{flat_map}
use Rattle.sg_plan.specs.Ballots.{ballot_row, ballot_styles, races_of_style}
use Rattle.sg_plan.specs.declared.plan.Plan.{Plan}
use Rattle.sg_lines.specs.Words.{code_word}

-- LINES

-- a ballot with its style; or the codes of a ballot in a race, by candidate
pub data SheetLine : Type 0 where
  Ballot : (ballot style : ℕ) → SheetLine
  Codes : (race : ℕ) (list : List ℕ) → SheetLine

-- the words of codes, each behind a space
abbrev pub code_words : ℕ → List ℕ → List ℕ
code_words version [] = []
code_words version (code ∷ list) = (32 ∷ code_word version code) ++ code_words version list

-- `ballot B STYLE`
abbrev pub ballot_text : ℕ → ℕ → List ℕ
ballot_text ballot style = codes "ballot " ++ (decimal ballot ++ (32 ∷ [] ++ (decimal style ++ 10 ∷ [])))

-- `codes R CODE ..`
abbrev pub codes_text : ℕ → ℕ → List ℕ → List ℕ
codes_text version race list = codes "codes " ++ (decimal race ++ (code_words version list ++ 10 ∷ []))

-- the text of a line, by the version of the plan
abbrev pub line_text : ℕ → SheetLine → List ℕ
line_text version (Ballot ballot style) = ballot_text ballot style
line_text version (Codes race list) = codes_text version race list

-- the text of lines
abbrev pub lines_text : ℕ → List SheetLine → List ℕ
lines_text version lines = flat_map (line_text version) lines

-- THE SHEET

-- the codes that are printed in each ballot row of a race, by candidate
abbrev pub Printed : Type 0
Printed = (race row : ℕ) → List ℕ

-- a ballot's line in a race
abbrev pub codes_line : Plan → Printed → ℕ → ℕ → SheetLine
codes_line plan printed ballot race = Codes race (printed race (ballot_row plan race ballot))

-- a ballot's lines: its own, and one for each race of its style
abbrev pub ballot_lines : Plan → Printed → ℕ → ℕ → List SheetLine
ballot_lines plan printed ballot style = Ballot ballot style ∷ map (codes_line plan printed ballot) (races_of_style plan style)

-- the lines of the ballots of these styles, which are numbered on from this one
abbrev pub lines_from : Plan → Printed → ℕ → List ℕ → List SheetLine
lines_from plan printed ballot [] = []
lines_from plan printed ballot (style ∷ styles) = ballot_lines plan printed ballot style ++ lines_from plan printed (ballot + 1) styles

-- the lines of all ballots
abbrev pub sheet_lines : Plan → Printed → List SheetLine
sheet_lines plan printed = lines_from plan printed 1 (ballot_styles plan.runs)
