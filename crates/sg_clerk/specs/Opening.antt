-- What was opened of a keeper's rows, and what was written of an office that was.
use Rattle.std.specs.Prelude.{◌≡◌, ℕ, ◌⊎◌, List, Result, IfOk, MatchResult}
use Rattle.std.specs.Io.KnownBytes.{Appends}
use Rattle.sg_outside.specs.Faults.{Rose}
use Rattle.sg_outside.specs.Streams.{AppendsFront, Seen}
use Rattle.sg_outside.specs.declared.outcome.Outcome.{Outcome}
use Rattle.sg_outside.specs.declared.outcome.Outcome.TheVariants as outcome
use Rattle.sg_keeper.specs.declared.rows.Rows.{Rows}
use Rattle.sg_keeper.specs.declared.setup.Setup.{Setup}
use Rattle.sg_histories.specs.Histories.{Entry}
use Rattle.sg_histories.specs.Opens.{OpenTo, Whole}
use Rattle.sg_histories.specs.Standing.{HasRows, StandsFor}
use Rattle.sg_histories.specs.declared.kept.Kept.{Kept}
use Rattle.sg_open.specs.Opened.{StandsForEach}
use Rattle.sg_clerk.specs.Talks.{ClosedSays}

-- the office is the one that the rows open to, and stands for each history whose rows they are
pub record IsOpen (kept : Kept) (rows : Rows) : Type 0 where
  pub whole : OpenTo rows (Whole kept.setup)
  pub each : StandsForEach kept rows

-- the office stands for a history whose rows were loaded: the keeper's, where it tells them
abbrev pub IsOfRows : Kept → (tells : Type 0) → Rows → Type 0
IsOfRows kept tells rows = (loaded : Rows) × HasRows kept loaded × (tells → loaded ≡ rows)

-- an office that was opened of the rows of a keeper is of such rows
abbrev pub StartsFrom : {E : Type 0} → Result Kept E → (tells : Type 0) → Rows → Type 0
StartsFrom found tells rows = IfOk found (λ office. IsOfRows office tells rows)

-- what was opened of them, where the keeper tells them; or how the command ends that opened no office
abbrev pub OpensOffice : Result Kept Outcome → (tells : Type 0) → Rows → ℕ → ℕ → Seen → Seen → Type 0
OpensOffice found tells rows faults faults' out out' = MatchResult found (λ office. tells → IsOpen office rows) (λ how. ClosedSays how tells rows faults faults' out out')

-- the text is what is shown of each history that the office stands for
abbrev pub IsTextOf : (Setup → List Entry → List ℕ) → Kept → List ℕ → Type 0
IsTextOf shown kept text = (history : List Entry) → StandsFor kept history → text ≡ shown kept.setup history

-- a front of what is shown of an office was written
pub record WritesPart (shown : Setup → List Entry → List ℕ) (kept : Kept) (out out' : Seen) : Type 0 where
  pub text : List ℕ
  pub is : IsTextOf shown kept text
  pub written : AppendsFront out.bytes out'.bytes text

-- what is shown of an office was written whole
pub record WritesWhole (shown : Setup → List Entry → List ℕ) (kept : Kept) (out out' : Seen) : Type 0 where
  pub text : List ℕ
  pub is : IsTextOf shown kept text
  pub written : Appends out.bytes out'.bytes text

-- what was written of an office that was opened
abbrev pub OfficeEnds : (Setup → List Entry → List ℕ) → Outcome → Kept → Seen → Seen → Type 0
OfficeEnds shown outcome.Done kept out out' = WritesWhole shown kept out out'
OfficeEnds shown outcome.WriteFailed kept out out' = Rose out.faults out'.faults × WritesPart shown kept out out'
OfficeEnds shown outcome.NoMemory kept out out' = (out' ≡ out) ⊎ WritesPart shown kept out out'
OfficeEnds shown _ kept out out' = ⊥
