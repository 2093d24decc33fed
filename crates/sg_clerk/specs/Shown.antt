-- How a command that shows what is kept ends: `record` shows the posted text, and `sheet` the printer's (this
-- project's command line).
use Rattle.std.specs.Prelude.{◌≡◌, ℕ, ◌⊎◌, ◌++◌, ◌∷◌, [], List, codes, decimal}
use Rattle.std.specs.Io.KnownBytes.{Appends}
use Rattle.sg_outside.specs.Faults.{Rose}
use Rattle.sg_outside.specs.Streams.{AppendsFront, Seen}
use Rattle.sg_outside.specs.declared.outcome.Outcome.{Outcome}
use Rattle.sg_outside.specs.declared.outcome.Outcome.TheVariants as outcome
use Rattle.sg_keeper.specs.declared.rows.Rows.{Rows}
use Rattle.sg_keeper.specs.declared.setup.Setup.{Setup}
use Rattle.sg_post.specs.Posted.{posted_text}
use Rattle.sg_histories.specs.Histories.{Entry}
use Rattle.sg_histories.specs.KeptRows.{rows_of}
use Rattle.sg_histories.specs.Lawful.{Lawful}
use Rattle.sg_histories.specs.Opens.{Damaged, Empty, OpenTo, Opens, Whole}
use Rattle.sg_histories.specs.Stories.{story_of}

-- THE TEXTS

-- the line that is written where no setup is kept
abbrev pub empty_line : List ℕ
empty_line = codes "refused empty\n"

-- the line that names the first bad table and row
abbrev pub damaged_line : ℕ → ℕ → List ℕ
damaged_line table row = codes "damaged " ++ (decimal table ++ (32 ∷ [] ++ (decimal row ++ 10 ∷ [])))

-- what the office posts of a history
abbrev pub posted_of : Setup → List Entry → List ℕ
posted_of setup history = posted_text setup.plan setup.seed.0 (story_of setup history)

-- WHAT IS DUE

-- where the rows open so: the line of a refusal; or what is shown of each history whose rows they are
abbrev pub IsDueOf : (Setup → List Entry → List ℕ) → Rows → Opens → List ℕ → Type 0
IsDueOf shown rows Empty due = due ≡ empty_line
IsDueOf shown rows (Damaged table row) due = due ≡ damaged_line table row
IsDueOf shown rows (Whole setup) due = (text : List ℕ) (history : List Entry) → Lawful setup history → rows ≡ rows_of setup text history → due ≡ shown setup history

-- what is due of what the rows open to, where the keeper tells them
abbrev pub IsDue : (Setup → List Entry → List ℕ) → (tells : Type 0) → Rows → List ℕ → Type 0
IsDue shown tells rows due = tells → (opens : Opens) × OpenTo rows opens × IsDueOf shown rows opens due

-- HOW IT ENDS

-- where rows are told they are an office's, and what is shown of them was written whole
pub record ShowsAll (shown : Setup → List Entry → List ℕ) (tells : Type 0) (rows : Rows) (out out' : Seen) : Type 0 where
  pub due : List ℕ
  pub whole : tells → (setup : Setup) × OpenTo rows (Whole setup)
  pub is_due : IsDue shown tells rows due
  pub written : Appends out.bytes out'.bytes due

-- a front of what is due was written
pub record WritesFront (shown : Setup → List Entry → List ℕ) (tells : Type 0) (rows : Rows) (out out' : Seen) : Type 0 where
  pub due : List ℕ
  pub is_due : IsDue shown tells rows due
  pub written : AppendsFront out.bytes out'.bytes due

-- the output's count of faults rose, and a front of what is due was written
pub record CutsShort (shown : Setup → List Entry → List ℕ) (tells : Type 0) (rows : Rows) (out out' : Seen) : Type 0 where
  pub cause : Rose out.faults out'.faults
  pub front : WritesFront shown tells rows out out'

-- the keeper's count of faults rose, and nothing was written
pub record LoadFails (faults faults' : ℕ) (out out' : Seen) : Type 0 where
  pub cause : Rose faults faults'
  pub same : out' ≡ out

-- no setup is kept where rows are told, and the line that says so was written
pub record IsEmpty (tells : Type 0) (rows : Rows) (out out' : Seen) : Type 0 where
  pub empty : tells → OpenTo rows Empty
  pub written : Appends out.bytes out'.bytes empty_line

-- where rows are told they are no office's, and the line that names the first bad row was written
pub record IsDamaged (tells : Type 0) (rows : Rows) (out out' : Seen) : Type 0 where
  pub table : ℕ
  pub row : ℕ
  pub damage : tells → OpenTo rows (Damaged table row)
  pub written : Appends out.bytes out'.bytes (damaged_line table row)

-- memory was wanted; nothing was written, or a front of what is due
abbrev pub LacksMemory : (Setup → List Entry → List ℕ) → (tells : Type 0) → Rows → Seen → Seen → Type 0
LacksMemory shown tells rows out out' = (out' ≡ out) ⊎ WritesFront shown tells rows out out'

-- how such a command ended
abbrev pub ShowSays : (Setup → List Entry → List ℕ) → Outcome → (tells : Type 0) → Rows → ℕ → ℕ → Seen → Seen → Type 0
ShowSays shown outcome.Done tells rows faults faults' out out' = ShowsAll shown tells rows out out'
ShowSays shown outcome.WriteFailed tells rows faults faults' out out' = CutsShort shown tells rows out out'
ShowSays shown outcome.KeeperFailed tells rows faults faults' out out' = LoadFails faults faults' out out'
ShowSays shown outcome.Refused tells rows faults faults' out out' = IsEmpty tells rows out out'
ShowSays shown outcome.Damaged tells rows faults faults' out out' = IsDamaged tells rows out out'
ShowSays shown outcome.NoMemory tells rows faults faults' out out' = LacksMemory shown tells rows out out'
ShowSays shown _ tells rows faults faults' out out' = ⊥
