-- How `openings` ends: what a court is handed of the office that is kept, once its draw is made (this project's command line).
use Rattle.std.specs.Prelude.{◌≡◌, ℕ, ◌⊎◌, Bool, true, false, List, codes}
use Rattle.std.specs.Io.KnownBytes.{Appends}
use Rattle.sg_outside.specs.Streams.{Seen}
use Rattle.sg_outside.specs.declared.outcome.Outcome.{Outcome}
use Rattle.sg_outside.specs.declared.outcome.Outcome.TheVariants as outcome
use Rattle.sg_plan.specs.declared.plan.Stage.{Stage}
use Rattle.sg_plan.specs.declared.plan.Stage.TheVariants as stage
use Rattle.sg_keeper.specs.declared.rows.Rows.{Rows}
use Rattle.sg_keeper.specs.declared.setup.Setup.{Setup}
use Rattle.sg_histories.specs.Histories.{Entry, stage_of}
use Rattle.sg_histories.specs.KeptRows.{rows_of}
use Rattle.sg_histories.specs.Lawful.{Lawful}
use Rattle.sg_histories.specs.Opens.{OpenTo, Whole}
use Rattle.sg_openings.specs.Openings.{openings_text}
use Rattle.sg_clerk.specs.Shown.{CutsShort, IsDamaged, IsEmpty, LacksMemory, LoadFails}

-- the line that is written before the draw
abbrev pub undrawn_line : List ℕ
undrawn_line = codes "refused undrawn\n"

-- the draw is made
abbrev pub is_drawn : Stage → Bool
is_drawn (stage.Drawn draw) = true
is_drawn other = false

-- what is due of an office at a stage: behind the draw the openings of all rows, and before it the line of the refusal
abbrev pub due_at : Setup → Stage → List ℕ
due_at setup (stage.Drawn draw) = openings_text setup.plan setup.seed.0
due_at setup other = undrawn_line

-- what is due of a history
abbrev pub due_of : Setup → List Entry → List ℕ
due_of setup history = due_at setup (stage_of history)

-- HOW IT ENDS

-- the rows are those of an office with this setup, and the draw of each history whose rows they are is made, or is not
pub record IsOffice (setup : Setup) (drawn : Bool) (rows : Rows) : Type 0 where
  pub whole : OpenTo rows (Whole setup)
  pub each : (text : List ℕ) (history : List Entry) → Lawful setup history → rows ≡ rows_of setup text history → is_drawn (stage_of history) ≡ drawn

-- where rows are told they are those of an office whose draw is made, and the openings of all its rows were written
pub record OpensAll (tells : Type 0) (rows : Rows) (out out' : Seen) : Type 0 where
  pub setup : Setup
  pub drawn : tells → IsOffice setup true rows
  pub written : Appends out.bytes out'.bytes (openings_text setup.plan setup.seed.0)

-- where rows are told they are those of an office whose draw isn't made, and the line that says so was written
pub record IsUndrawn (tells : Type 0) (rows : Rows) (out out' : Seen) : Type 0 where
  pub setup : Setup
  pub undrawn : tells → IsOffice setup false rows
  pub written : Appends out.bytes out'.bytes undrawn_line

-- how `openings` ended: a refusal says that no setup is kept, or that the draw isn't made
abbrev pub OpeningsSays : Outcome → (tells : Type 0) → Rows → ℕ → ℕ → Seen → Seen → Type 0
OpeningsSays outcome.Done tells rows faults faults' out out' = OpensAll tells rows out out'
OpeningsSays outcome.WriteFailed tells rows faults faults' out out' = CutsShort due_of tells rows out out'
OpeningsSays outcome.KeeperFailed tells rows faults faults' out out' = LoadFails faults faults' out out'
OpeningsSays outcome.Refused tells rows faults faults' out out' = IsEmpty tells rows out out' ⊎ IsUndrawn tells rows out out'
OpeningsSays outcome.Damaged tells rows faults faults' out out' = IsDamaged tells rows out out'
OpeningsSays outcome.NoMemory tells rows faults faults' out out' = LacksMemory due_of tells rows out out'
OpeningsSays _ tells rows faults faults' out out' = ⊥
