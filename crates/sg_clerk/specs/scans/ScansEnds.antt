-- What each ending of the command `scans` says of the input and of the output (this project's command line).
use Rattle.std.specs.Prelude.{◌≡◌, ℕ, ◌<◌, ◌≤◌, ◌⊎◌, true, List, [], ◌++◌, length, Option, None, Some, IfSome}
use Rattle.std.specs.List.{concat}
use Rattle.std.specs.Io.KnownBytes.{Appends, IsAtEnd, Keeps}
use Rattle.sg_outside.specs.Streams.{AppendsFront}
use Rattle.sg_scans.specs.FileRecords.{records_of}
use Rattle.sg_scans.specs.ScanLines.{IsFault, has_header, most_scans, scans_of}
use Rattle.sg_scans.specs.declared.fields.ScanLine.{ScanLine}
use Rattle.sg_scans.specs.declared.file.ScansFault.TheVariants as fault
use Rattle.sg_clerk.specs.Ends.{MissesLast, refused_line}
use Rattle.sg_clerk.specs.declared.ended.Ending.{Ending}
use Rattle.sg_clerk.specs.declared.ended.Ending.TheVariants as ending
use Rattle.sg_clerk.specs.declared.ended.Unfit.{Unfit}
use Rattle.sg_clerk.specs.declared.ended.Unfit.TheVariants as unfit

-- how many bytes a scanner's file has at most
abbrev pub longest_file : ℕ
longest_file = 16777216

-- THE INPUT

-- these bytes are a scanner's file, and these are the records behind its first
pub record AreScansOf (lines : List ScanLine) (bytes : List ℕ) : Type 0 where
  pub short : length bytes ≤ longest_file
  pub header : has_header (records_of bytes) ≡ true
  pub few : length lines ≤ most_scans
  pub are : scans_of bytes ≡ lines

-- why the input is refused, where it tells its bytes: they are too many; or the first record is no header; or it is, and too
-- many stand behind it
abbrev pub IsRefusedFile : Unfit → Option (List ℕ) → Type 0
IsRefusedFile unfit.Size known = IfSome known (λ bytes. longest_file < length bytes)
IsRefusedFile unfit.Header known = IfSome known (λ bytes. (length bytes ≤ longest_file) × IsFault fault.Header (records_of bytes))
IsRefusedFile unfit.Count known = IfSome known (λ bytes. (length bytes ≤ longest_file) × IsFault fault.Count (records_of bytes))
IsRefusedFile unfit.Line known = ⊥

-- the input is a scanner's file, and these are the first records behind its first one
abbrev pub AreFirstScans : Option (List ℕ) → List ScanLine → Type 0
AreFirstScans known lines = IfSome known (λ bytes. (others : List ScanLine) × AreScansOf (lines ++ others) bytes)

-- THE ENDINGS

-- what an ending says of the records that were answered, and of the texts that were written for them:
-- the whole input was read, and all its records were answered; or a read failed, and none was; or the file is refused,
-- none was, and that was written; or a write failed, of an answer or of a refusal's line, and of the texts due at most the
-- last is missing or cut; or memory was wanted, with the same of the texts
abbrev pub ScansEndSo : Ending → List ScanLine → List (List ℕ) → (left left' written written' : Option (List ℕ)) → Type 0
ScansEndSo ending.Done lines texts left left' written written' = IfSome left (AreScansOf lines) × IsAtEnd left' × Appends written written' (concat texts)
ScansEndSo ending.ReadFault lines texts left left' written written' = (lines ≡ []) × Keeps written written'
ScansEndSo (ending.Refused why) lines texts left left' written written' = IsRefusedFile why left × (lines ≡ []) × Appends written written' (refused_line why)
ScansEndSo (ending.WriteFault None) lines texts left left' written written' = AreFirstScans left lines × MissesLast written written' texts
ScansEndSo (ending.WriteFault (Some why)) lines texts left left' written written' = IsRefusedFile why left × (lines ≡ []) × AppendsFront written written' (refused_line why)
ScansEndSo ending.LinkFault lines texts left left' written written' = ⊥
ScansEndSo ending.NoMemory lines texts left left' written written' = ((lines ≡ []) ⊎ AreFirstScans left lines) × MissesLast written written' texts
