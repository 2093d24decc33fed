-- How a command ends that opens the kept office and lets it talk: `do`, `scans` and `serve` (this project's command line).
use Rattle.std.specs.Prelude.{◌≡◌, ℕ, ◌+◌, ◌-◌, ◌^◌, ◌<◌, ◌≤◌, List}
use Rattle.sg_outside.specs.Faults.{Rose}
use Rattle.sg_outside.specs.Streams.{AppendsFront, Seen}
use Rattle.sg_outside.specs.declared.outcome.Outcome.{Outcome}
use Rattle.sg_outside.specs.declared.outcome.Outcome.TheVariants as outcome
use Rattle.sg_keeper.specs.declared.rows.Rows.{Rows}
use Rattle.sg_keeper.specs.declared.setup.Setup.{Setup}
use Rattle.sg_histories.specs.Histories.{Entry}
use Rattle.sg_histories.specs.KeptRows.{rows_of}
use Rattle.sg_histories.specs.Lawful.{Lawful}
use Rattle.sg_histories.specs.Opens.{Damaged, Empty, OpenTo, Whole}
use Rattle.sg_clerk.specs.Ends.{outcome_of}
use Rattle.sg_clerk.specs.Shown.{IsDamaged, IsEmpty, LoadFails, damaged_line, empty_line}
use Rattle.sg_clerk.specs.declared.ended.Ending.{Ending}

-- AN OFFICE TALKS

-- The keeper follows a talk from a history to the next: where it tells the rows of that history before, it tells those of the
-- next one behind; and at most as many answers say that it failed as its count rose by, unless that stands at its last value.
pub record KeeperFollows (setup : Setup) (history next : List Entry) (stores : ℕ) (tells : Type 0) (rows rows' : Rows) (faults faults' : ℕ) : Type 0 where
  pub kept : tells → (text : List ℕ) → rows ≡ rows_of setup text history → rows' ≡ rows_of setup text next
  pub counted : faults' < 2 ^ 64 - 1 → faults + stores ≤ faults'

-- A talk from a history on: what came in was answered one after another, as `Talk` says, and the keeper followed; `stores`
-- counts the answers that say that it failed. How the talk ended, `Ends` says.
pub record Talked {X : Type 0} (Talk : Setup → List X → List Entry → List Entry → Type 0) (stores : List X → ℕ) (Ends : Setup → List X → Type 0)
    (setup : Setup) (history : List Entry) (tells : Type 0) (rows rows' : Rows) (faults faults' : ℕ) : Type 0 where
  pub exchanges : List X
  pub next : List Entry
  pub talk : Talk setup exchanges history next
  pub keeper : KeeperFollows setup history next (stores exchanges) tells rows rows' faults faults'
  pub ends : Ends setup exchanges

-- An office was opened, and talked from a lawful history of its setup on. Where the keeper tells its rows, they open to this
-- setup and are that history's, and the talk is also one from each other lawful history whose rows they are. The command
-- ended as the talk did.
pub record Talks {X : Type 0} (Talk : Setup → List X → List Entry → List Entry → Type 0) (stores : List X → ℕ) (Ends : Ending → Setup → List X → Type 0)
    (result : Outcome) (tells : Type 0) (rows rows' : Rows) (faults faults' : ℕ) : Type 0 where
  pub setup : Setup
  pub how : Ending
  pub result_is : result ≡ outcome_of how
  pub start : List Entry
  pub lawful : Lawful setup start
  pub from : tells → (text : List ℕ) × (rows ≡ rows_of setup text start)
  pub does : Talked Talk stores (Ends how) setup start tells rows rows' faults faults'
  pub whole : tells → OpenTo rows (Whole setup)
  pub each : tells → (text : List ℕ) (history : List Entry) → Lawful setup history → rows ≡ rows_of setup text history
      → Talked Talk stores (Ends how) setup history tells rows rows' faults faults'

-- NO OFFICE IS OPENED

-- a front of the line was written that is due where no setup is kept, or where the rows are no office's
pub data IsCutLine (tells : Type 0) (rows : Rows) (out out' : Seen) : Type 0 where
  NoSetup : (tells → OpenTo rows Empty) → AppendsFront out.bytes out'.bytes empty_line → IsCutLine tells rows out out'
  NoOffice : (table row : ℕ) → (tells → OpenTo rows (Damaged table row)) → AppendsFront out.bytes out'.bytes (damaged_line table row) → IsCutLine tells rows out out'

-- the output's count of faults rose, and a front of the line that is due was written
pub record LineFails (tells : Type 0) (rows : Rows) (out out' : Seen) : Type 0 where
  pub cause : Rose out.faults out'.faults
  pub cut : IsCutLine tells rows out out'

-- how a command ended that opened no office: the keeper failed, no setup is kept, or the rows are no office's; or a write of
-- the line that says so failed; or memory was wanted, and nothing was written
abbrev pub ClosedSays : Outcome → (tells : Type 0) → Rows → ℕ → ℕ → Seen → Seen → Type 0
ClosedSays outcome.WriteFailed tells rows faults faults' out out' = LineFails tells rows out out'
ClosedSays outcome.KeeperFailed tells rows faults faults' out out' = LoadFails faults faults' out out'
ClosedSays outcome.Refused tells rows faults faults' out out' = IsEmpty tells rows out out'
ClosedSays outcome.Damaged tells rows faults faults' out out' = IsDamaged tells rows out out'
ClosedSays outcome.NoMemory tells rows faults faults' out out' = out' ≡ out
ClosedSays _ tells rows faults faults' out out' = ⊥

-- no office was opened: nothing was asked of it, and the rows are as they were, where they are told
pub record StaysClosed (Unasked : Type 0) (result : Outcome) (tells : Type 0) (rows rows' : Rows) (faults faults' : ℕ) (out out' : Seen) : Type 0 where
  pub unasked : Unasked
  pub same : tells → rows' ≡ rows
  pub says : ClosedSays result tells rows faults faults' out out'
