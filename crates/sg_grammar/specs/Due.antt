-- The lines that are due behind the plan, one after another, computed from the plan alone
-- (this project's rules for the record).
use Rattle.std.specs.Prelude.{ℕ, zero, suc, ◌+◌, ◌-◌, ◌*◌, ◌/◌, if◌then◌else◌, min, List, [], ◌∷◌, ◌++◌, length}
use Rattle.sg_plan.specs.Limits.{most_bits}
use Rattle.sg_plan.specs.Ballots.{ballot_has, candidates_of, entries_of}
use Rattle.sg_plan.specs.declared.plan.Plan.{Plan}
use Rattle.sg_grammar.specs.declared.state.Block.{Block}
use Rattle.sg_grammar.specs.declared.state.Block.TheVariants as block
use Rattle.sg_grammar.specs.declared.state.Slot.{Slot}
use Rattle.sg_grammar.specs.declared.state.Slot.TheVariants as slot

-- the lists of `count` numbers from `at` on, one after another
unfoldable pub numbered : {A : Type 0} → (ℕ → List A) → ℕ → ℕ → List A
numbered f at zero = []
numbered f at (suc count) = f at ++ numbered f (at + 1) count

-- the lists of the numbers from `at` to below `end`, one after another
abbrev pub each : {A : Type 0} → (ℕ → List A) → ℕ → ℕ → List A
each f at end = numbered f at (end - at)

-- SECTION 1: THE COMMITMENTS

abbrev pub code_commit : ℕ → ℕ → List Slot
code_commit race entry = slot.CodeCommit race entry ∷ []

abbrev pub race_code_commits : Plan → ℕ → List Slot
race_code_commits plan race = each (code_commit race) 0 (entries_of plan race)

abbrev pub row_commit : ℕ → ℕ → ℕ → List Slot
row_commit race instance row = slot.RowCommit race instance row ∷ []

abbrev pub instance_row_commits : Plan → ℕ → ℕ → List Slot
instance_row_commits plan race instance = each (row_commit race instance) 0 (entries_of plan race)

abbrev pub race_row_commits : Plan → ℕ → List Slot
race_row_commits plan race = each (instance_row_commits plan race) 0 plan.instances

-- the commitments of the codes of each race, then those of the rows of each race and instance, then a seal
abbrev pub commits : Plan → List Slot
commits plan = each (race_code_commits plan) 0 (length plan.races) ++ (each (race_row_commits plan) 0 (length plan.races) ++ slot.Seal 1 ∷ [])

-- SECTION 2: THE BLOCK OF AN AUDITED BALLOT, AND OF A DISPUTE

abbrev pub code_line : Block → ℕ → ℕ → ℕ → List Slot
code_line kind ballot race column = slot.Code kind ballot race column ∷ []

-- the code in each column of a race
abbrev pub race_codes : Plan → Block → ℕ → ℕ → List Slot
race_codes plan kind ballot race = each (code_line kind ballot race) 0 (candidates_of plan race)

-- the paper of a race that the ballot has
abbrev pub ballot_paper : Plan → ℕ → ℕ → List Slot
ballot_paper plan ballot race = (if ballot_has plan ballot race then slot.Paper ballot race (candidates_of plan race) ∷ [] else [])

-- the codes of a race that the ballot has
abbrev pub ballot_codes : Plan → ℕ → ℕ → List Slot
ballot_codes plan ballot race = (if ballot_has plan ballot race then race_codes plan block.Audited ballot race else [])

-- the paper of each race of an audited ballot, and then the code in each column of each of these races
abbrev pub due_audit : Plan → ℕ → List Slot
due_audit plan ballot = each (ballot_paper plan ballot) 0 (length plan.races) ++ each (ballot_codes plan ballot) 0 (length plan.races)

-- SECTION 2: THE RESULTS

-- bits stand on lines of 64, and the last line has the rest
abbrev pub lines_for : ℕ → ℕ
lines_for bits = (bits + (most_bits - 1)) / most_bits

-- how many of the bits stand on a line
abbrev pub bits_on : ℕ → ℕ → ℕ
bits_on bits line = min most_bits (bits - most_bits * line)

abbrev pub due_flags : Plan → ℕ → ℕ → ℕ → List Slot
due_flags plan race instance line = slot.Flags race instance line (bits_on (entries_of plan race) line) ∷ []

abbrev pub instance_flags : Plan → ℕ → ℕ → List Slot
instance_flags plan race instance = each (due_flags plan race instance) 0 (lines_for (entries_of plan race))

abbrev pub due_places : Plan → ℕ → ℕ → List Slot
due_places plan race line = slot.Places race line (bits_on (entries_of plan race) line) ∷ []

abbrev pub race_places : Plan → ℕ → List Slot
race_places plan race = each (due_places plan race) 0 (lines_for (entries_of plan race))

abbrev pub due_totals : ℕ → ℕ → List Slot
due_totals race candidate = slot.Total race candidate ∷ []

abbrev pub race_totals : Plan → ℕ → List Slot
race_totals plan race = each (due_totals race) 0 (candidates_of plan race)

-- the flags of each instance, then the places, then the total of each candidate
abbrev pub race_results : Plan → ℕ → List Slot
race_results plan race = each (instance_flags plan race) 0 plan.instances ++ (race_places plan race ++ race_totals plan race)

-- SECTION 3: THE DRAW AND THE OPENINGS

abbrev pub row_opening : ℕ → ℕ → ℕ → List Slot
row_opening race instance row = slot.Row race instance row ∷ []

abbrev pub instance_rows : Plan → ℕ → ℕ → List Slot
instance_rows plan race instance = each (row_opening race instance) 0 (entries_of plan race)

abbrev pub race_rows : Plan → ℕ → List Slot
race_rows plan race = each (instance_rows plan race) 0 plan.instances

-- all that follows the ballots: the results of each race, a seal, the draw, the rows of each race and instance, a seal
abbrev pub results : Plan → List Slot
results plan = each (race_results plan) 0 (length plan.races) ++ (slot.Seal 2 ∷ slot.Draw ∷ (each (race_rows plan) 0 (length plan.races) ++ slot.Seal 3 ∷ []))
