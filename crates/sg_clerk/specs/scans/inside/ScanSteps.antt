-- What was read of a scanner's file, and how far its records were answered.
use Rattle.std.specs.Prelude.{◌≡◌, ℕ, List, ◌++◌, drop, Option, IfSome}
use Rattle.std.specs.Io.KnownBytes.{IsAtEnd}
use Rattle.sg_outside.specs.Faults.{Rose}
use Rattle.sg_outside.specs.Streams.{Seen}
use Rattle.sg_keeper.specs.declared.rows.Rows.{Rows}
use Rattle.sg_keeper.specs.declared.setup.Setup.{Setup}
use Rattle.sg_talk.specs.declared.answered.Answered.{Answered}
use Rattle.sg_histories.specs.declared.kept.Kept.{Kept}
use Rattle.sg_histories.specs.Histories.{Entry}
use Rattle.sg_histories.specs.KeptRows.{rows_of}
use Rattle.sg_histories.specs.Standing.{StandsFor}
use Rattle.sg_scans.specs.Asked.{EachCanCome}
use Rattle.sg_scans.specs.declared.fields.ScanLine.{ScanLine}
use Rattle.sg_clerk.specs.declared.asker.Stop.{Stop}
use Rattle.sg_clerk.specs.declared.asker.Stop.TheVariants as stop
use Rattle.sg_clerk.specs.scans.DoesScans.{AnswersLine, Handed, scans_in}
use Rattle.sg_clerk.specs.scans.ScansEnds.{AreScansOf, IsRefusedFile}
use Rattle.sg_clerk.specs.declared.scans.reading.ScanFile.{ScanFile}
use Rattle.sg_clerk.specs.declared.scans.reading.ScanFile.TheVariants as file

-- what bytes are
abbrev pub IsScanFile : ScanFile → Option (List ℕ) → Type 0
IsScanFile (file.Scans lines) known = EachCanCome lines × IfSome known (AreScansOf lines)
IsScanFile (file.Bad why) known = IsRefusedFile why known
IsScanFile file.Fault known = ⊥
IsScanFile file.NoMemory known = Unit {0}

-- what was read of an input
abbrev pub ReadsScans : ScanFile → Seen → Seen → Type 0
ReadsScans (file.Scans lines) input input' = IsScanFile (file.Scans lines) input.bytes × IsAtEnd input'.bytes
ReadsScans (file.Bad why) input input' = IsScanFile (file.Bad why) input.bytes
ReadsScans file.Fault input input' = Rose input.faults input'.faults
ReadsScans file.NoMemory input input' = Unit {0}

-- A record of a file is answered so after this history. The office then stands for the next history, and the kept rows
-- follow where they are told.
pub record HasHanded (setup : Setup) (office : Kept) (tells : Type 0) (rows after : Rows) (line : ScanLine) (answer : Answered) (history : List Entry) : Type 0 where
  pub next : List Entry
  pub answers : AnswersLine setup line answer history next
  pub stands : StandsFor office next
  pub kept : tells → (text : List ℕ) → rows ≡ rows_of setup text history → after ≡ rows_of setup text next

-- these came of the records of the file, and the others are still to come
pub record ScansCame (first : List ScanLine) (at : ℕ) (lines : List ScanLine) (handed : List Handed) : Type 0 where
  pub same : lines ≡ first
  pub are : first ≡ scans_in handed ++ drop at first

-- these are all records of the file
abbrev pub ScansOver : Stop → List ScanLine → List Handed → Type 0
ScansOver stop.Done first handed = first ≡ scans_in handed
ScansOver stop.ReadFault first handed = ⊥
ScansOver stop.LinkFault first handed = ⊥
ScansOver (stop.Unfit why) first handed = ⊥
ScansOver stop.NoMemory first handed = ⊥
