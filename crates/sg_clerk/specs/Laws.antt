-- What stays of what was shown, and what a sheet has of the papers.
use Rattle.std.specs.Prelude.{◌≡◌, ℕ, List, [], ◌++◌, map, Some}
use Rattle.sg_plan.specs.Ballots.{races_of_style, style_of_ballot}
use Rattle.sg_plan.specs.declared.plan.Plan.{Plan}
use Rattle.sg_tables.specs.Tables.{codes_of_row, paper_of}
use Rattle.sg_keeper.specs.declared.rows.Rows.{Rows}
use Rattle.sg_keeper.specs.declared.setup.Setup.{Setup}
use Rattle.sg_talk.specs.Talk.{Exchange, Talk}
use Rattle.sg_histories.specs.Histories.{Entry}
use Rattle.sg_histories.specs.Lawful.{Lawful}
use Rattle.sg_histories.specs.Opens.{OpenTo, Whole}
use Rattle.sg_talk.specs.Laws.{GrowsTo}
use Rattle.sg_talk.specs.Turns.{AskTurn}
use Rattle.sg_sheet.specs.Sheet.{SheetLine, codes_line}
use Rattle.sg_sheet.specs.Sheet.SheetLine.{Ballot, Codes}
use Rattle.sg_clerk.specs.Shown.{IsDueOf, posted_of}

-- what is posted of a history is a front of what is posted of each lawful history that goes on from it: of entries the
-- newest stands first
abbrev pub RecordStays : Type 0
RecordStays = (setup : Setup) (history more : List Entry) → Lawful setup (more ++ history)
    → (rest : List ℕ) × (posted_of setup (more ++ history) ≡ posted_of setup history ++ rest)

-- From a history to a later one nothing is gone or changed that was accepted or posted: the later one is lawful, and is the
-- history with further entries; and what `record` writes of the history is a front of what it writes of the later one.
pub record KeepsRecord (setup : Setup) (history next : List Entry) : Type 0 where
  pub lawful : Lawful setup next
  pub grows : GrowsTo history next
  pub posted : (rest : List ℕ) × (posted_of setup next ≡ posted_of setup history ++ rest)

-- so it is from before each talk of the office to behind it
abbrev pub TalksKeepRecord : Type 0
TalksKeepRecord = (setup : Setup) (exchanges : List Exchange) (history next : List Entry) → Lawful setup history
    → Talk (AskTurn setup) setup.plan.version exchanges history next → KeepsRecord setup history next

-- Rows that are an office's and later ones: those are the same office's, and what `record` writes of the rows is a front of
-- what it writes of the later ones.
pub record PostedGrows (setup : Setup) (rows rows' : Rows) : Type 0 where
  pub whole : OpenTo rows' (Whole setup)
  pub front : (due due' : List ℕ) → IsDueOf posted_of rows (Whole setup) due → IsDueOf posted_of rows' (Whole setup) due' → (rest : List ℕ) × (due' ≡ due ++ rest)

-- so it is, where the rows are an office's
abbrev pub KeepsPosted : Rows → Rows → Type 0
KeepsPosted rows rows' = (setup : Setup) → OpenTo rows (Whole setup) → PostedGrows setup rows rows'

-- the codes of a line
abbrev pub codes_in : SheetLine → List ℕ
codes_in (Ballot ballot style) = []
codes_in (Codes race list) = list

-- the codes on the lines of a ballot's races are those on its paper
abbrev pub SheetHasPapers : Type 0
SheetHasPapers = (plan : Plan) (seed : List ℕ) (ballot style : ℕ) → style_of_ballot plan ballot ≡ Some style
    → map codes_in (map (codes_line plan (codes_of_row plan seed) ballot) (races_of_style plan style)) ≡ paper_of plan seed ballot
