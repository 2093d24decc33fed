-- The line that is due, as the program keeps it: its slot, and from the slot all lines that are due behind it.
use Rattle.std.specs.Prelude.{◌≡◌, ℕ, ◌+◌, ◌*◌, ◌^◌, ◌<◌, ◌≤◌, ◌==◌, if◌then◌else◌, Bool, true, false, List, [], ◌∷◌, ◌++◌, length, slice_index, Option, Some, None}
use Rattle.sg_plan.specs.Limits.{most_ballots, most_candidates, most_claims, most_races}
use Rattle.sg_plan.specs.Ballots.{ballots_of, ballot_has, candidates_of, entries_of}
use Rattle.sg_plan.specs.Runs.{run_numbers}
use Rattle.sg_plan.specs.declared.plan.Plan.{Plan}
use Rattle.sg_forms.specs.Said.{Said}
use Rattle.sg_forms.specs.Said.Said.{Ballots}
use Rattle.sg_grammar.specs.Due.{each, code_line, ballot_paper, ballot_codes, code_commit, race_code_commits, row_commit, instance_row_commits, race_row_commits, lines_for, bits_on, due_flags, instance_flags, due_places, race_places, due_totals, race_totals, race_results, row_opening, instance_rows, race_rows}
use Rattle.sg_grammar.specs.Head.{with_run}
use Rattle.sg_grammar.specs.declared.state.Block.{Block}
use Rattle.sg_grammar.specs.declared.state.Block.TheVariants as block
use Rattle.sg_grammar.specs.declared.state.Part.{Part}
use Rattle.sg_grammar.specs.declared.state.Part.TheVariants as part
use Rattle.sg_grammar.specs.declared.state.Slot.{Slot}
use Rattle.sg_grammar.specs.declared.state.Slot.TheVariants as slot

-- THE LINES FROM A RACE ON

abbrev pub row_commits_from : Plan → ℕ → List Slot
row_commits_from plan race = each (race_row_commits plan) race (length plan.races) ++ slot.Seal 1 ∷ []

abbrev pub code_commits_from : Plan → ℕ → List Slot
code_commits_from plan race = each (race_code_commits plan) race (length plan.races) ++ row_commits_from plan 0

abbrev pub rows_from : Plan → ℕ → List Slot
rows_from plan race = each (race_rows plan) race (length plan.races) ++ slot.Seal 3 ∷ []

abbrev pub results_from : Plan → ℕ → List Slot
results_from plan race = each (race_results plan) race (length plan.races) ++ (slot.Seal 2 ∷ slot.Draw ∷ rows_from plan 0)

abbrev pub totals_from : Plan → ℕ → List Slot
totals_from plan race = race_totals plan race ++ results_from plan (race + 1)

abbrev pub places_from : Plan → ℕ → List Slot
places_from plan race = race_places plan race ++ totals_from plan race

-- the codes of an audited ballot from a race on
abbrev pub codes_from : Plan → ℕ → ℕ → List Slot
codes_from plan ballot race = each (ballot_codes plan ballot) race (length plan.races)

-- the papers of an audited ballot from a race on, and then all its codes
abbrev pub papers_from : Plan → ℕ → ℕ → List Slot
papers_from plan ballot race = each (ballot_paper plan ballot) race (length plan.races) ++ codes_from plan ballot 0

-- THE LINES BEHIND A SLOT

-- behind the codes of a race: in the block of an audited ballot those of its other races
abbrev pub rest_of_codes : Plan → Block → ℕ → ℕ → List Slot
rest_of_codes plan block.Cast ballot race = []
rest_of_codes plan block.Audited ballot race = codes_from plan ballot (race + 1)
rest_of_codes plan block.Dispute ballot race = []

-- behind the second seal the draw and the rows are due, behind the others nothing
abbrev pub rest_of_seal : Plan → ℕ → List Slot
rest_of_seal plan number = (if number == 2 then slot.Draw ∷ rows_from plan 0 else [])

abbrev pub rest_of : Plan → Slot → List Slot
rest_of plan (slot.CodeCommit race entry) = each (code_commit race) (entry + 1) (entries_of plan race) ++ code_commits_from plan (race + 1)
rest_of plan (slot.RowCommit race instance row) = each (row_commit race instance) (row + 1) (entries_of plan race) ++ (each (instance_row_commits plan race) (instance + 1) plan.instances ++ row_commits_from plan (race + 1))
rest_of plan (slot.Seal number) = rest_of_seal plan number
rest_of plan (slot.Paper ballot race count) = papers_from plan ballot (race + 1)
rest_of plan (slot.Code kind ballot race column) = each (code_line kind ballot race) (column + 1) (candidates_of plan race) ++ rest_of_codes plan kind ballot race
rest_of plan (slot.Flags race instance line count) = each (due_flags plan race instance) (line + 1) (lines_for (entries_of plan race)) ++ (each (instance_flags plan race) (instance + 1) plan.instances ++ places_from plan race)
rest_of plan (slot.Places race line count) = each (due_places plan race) (line + 1) (lines_for (entries_of plan race)) ++ totals_from plan race
rest_of plan (slot.Total race candidate) = each (due_totals race) (candidate + 1) (candidates_of plan race) ++ results_from plan (race + 1)
rest_of plan slot.Draw = rows_from plan 0
rest_of plan (slot.Row race instance row) = each (row_opening race instance) (row + 1) (entries_of plan race) ++ (each (instance_rows plan race) (instance + 1) plan.instances ++ rows_from plan (race + 1))

-- the lines that are due, where this one is the first of them
abbrev pub due_of : Plan → Option Slot → List Slot
due_of plan None = []
due_of plan (Some slot) = slot ∷ rest_of plan slot

-- WITHIN THE PLAN

-- the slot is of the plan
abbrev pub IsIn : Plan → Slot → Type 0
IsIn plan (slot.CodeCommit race entry) = (race < length plan.races) × (entry < entries_of plan race)
IsIn plan (slot.RowCommit race instance row) = (race < length plan.races) × (instance < plan.instances) × (row < entries_of plan race)
IsIn plan (slot.Seal number) = Unit {0}
IsIn plan (slot.Paper ballot race count) = (race < length plan.races) × (1 ≤ ballot) × (ballot ≤ ballots_of plan) × (ballot_has plan ballot race ≡ true) × (count ≡ candidates_of plan race)
IsIn plan (slot.Code kind ballot race column) = (race < length plan.races) × (1 ≤ ballot) × (ballot ≤ ballots_of plan) × (ballot_has plan ballot race ≡ true) × (column < candidates_of plan race)
IsIn plan (slot.Flags race instance line count) = (race < length plan.races) × (instance < plan.instances) × (line < lines_for (entries_of plan race)) × (64 * line < 2 ^ 32) × (count ≡ bits_on (entries_of plan race) line)
IsIn plan (slot.Places race line count) = (race < length plan.races) × (line < lines_for (entries_of plan race)) × (64 * line < 2 ^ 32) × (count ≡ bits_on (entries_of plan race) line)
IsIn plan (slot.Total race candidate) = (race < length plan.races) × (candidate < candidates_of plan race)
IsIn plan slot.Draw = Unit {0}
IsIn plan (slot.Row race instance row) = (race < length plan.races) × (instance < plan.instances) × (row < entries_of plan race)

-- the first bit of the line has a number that fits the program's
abbrev pub HasFittingLine : Slot → Type 0
HasFittingLine (slot.CodeCommit race entry) = Unit {0}
HasFittingLine (slot.RowCommit race instance row) = Unit {0}
HasFittingLine (slot.Seal number) = Unit {0}
HasFittingLine (slot.Paper ballot race count) = Unit {0}
HasFittingLine (slot.Code kind ballot race column) = Unit {0}
HasFittingLine (slot.Flags race instance line count) = 64 * line < 2 ^ 32
HasFittingLine (slot.Places race line count) = 64 * line < 2 ^ 32
HasFittingLine (slot.Total race candidate) = Unit {0}
HasFittingLine slot.Draw = Unit {0}
HasFittingLine (slot.Row race instance row) = Unit {0}

abbrev pub IsInSome : Plan → Option Slot → Type 0
IsInSome plan None = Unit {0}
IsInSome plan (Some slot) = IsIn plan slot

-- the ballot whose block may go on is of the plan
abbrev pub IsPartIn : Plan → Part → Type 0
IsPartIn plan (part.Ballots last) = Unit {0}
IsPartIn plan (part.Cast ballot race column) = (1 ≤ ballot) × (ballot ≤ ballots_of plan)
IsPartIn plan (part.Disputes count) = count ≤ most_claims

-- each race has so many entries as the table says
abbrev pub TellsEntries : Plan → List ℕ → Type 0
TellsEntries plan entries = (race : ℕ) → race < length plan.races → slice_index entries race ≡ entries_of plan race

-- what is counted of a plan: each race's entries, and each ballot's run; without a run all entries are 0
pub record IsCounted (plan : Plan) (entries numbers : List ℕ) : Type 0 where
  pub few_races : length plan.races ≤ most_races
  pub few_ballots : ballots_of plan ≤ most_ballots
  pub tells : TellsEntries plan entries
  pub no_runs : plan.runs ≡ [] → (race : ℕ) → slice_index entries race ≡ 0
  pub numbers_are : numbers ≡ run_numbers 0 plan.runs

-- the line is a run of ballots
abbrev pub is_run : Said → Bool
is_run (Ballots style count) = true
is_run said = false

-- with one more run all counts fit the program's numbers
pub record RunFits (plan : Plan) (style count : ℕ) : Type 0 where
  pub few_candidates : (race : ℕ) → candidates_of plan race ≤ most_candidates
  pub few_ballots : ballots_of plan + count ≤ most_ballots
  pub few_runs : length plan.runs + 1 ≤ most_ballots
  pub entries_fit : (race : ℕ) → entries_of (with_run plan style count) race < 2 ^ 32

-- none of the races from this one to before the other has an entry
pub record HasNoEntries (plan : Plan) (from to : ℕ) : Type 0 where
  pub none : (race : ℕ) → from ≤ race → race < to → entries_of plan race ≡ 0
