-- Which fault a recount's input has, in the order in which they are tried (this project's rules for a recount).
use Rattle.std.specs.Prelude.{◌≡◌, ◌≢◌, ℕ, zero, suc, ◌+◌, ◌/◌, ◌%◌, ◌<◌, if◌then◌else◌, true, ◌⊎◌, List, [], ◌∷◌, ◌++◌, length, bytes_eq, Some}
use Rattle.sg_commit.specs.declared.Opening.{Opening}
use Rattle.sg_plan.specs.Ballots.{candidates_of, entry_at, r_rows}
use Rattle.sg_plan.specs.declared.plan.Plan.{Plan}
use Rattle.sg_plan.specs.declared.plan.Side.{Side}
use Rattle.sg_sheet.specs.Sheet.{Printed, SheetLine, ballot_text, codes_text, sheet_lines}
use Rattle.sg_sheet.specs.Sheet.SheetLine.{Ballot, Codes}
use Rattle.sg_forms.specs.declared.line.CodeLine.{CodeLine}
use Rattle.sg_forms.specs.declared.line.RowOpening.TheVariants as opened
use Rattle.sg_grammar.specs.Lines.{IsAmong}
use Rattle.sg_grammar.specs.Placed.{Placed}
use Rattle.sg_grammar.specs.Placed.Placed.{CodeAt, RowAt}
use Rattle.sg_grammar.specs.declared.state.Block.{Block}
use Rattle.sg_record.specs.Lines.{texts_in}
use Rattle.sg_record.specs.Places.{places_in}
use Rattle.sg_record.specs.declared.record.Record.{Record}
use Rattle.sg_check.specs.Completions.{Completion, IsHalfOf, posted_half}
use Rattle.sg_check.specs.Kinds.{opens_digest, half_kind}
use Rattle.sg_check.specs.Facts.{half_commitment}
use Rattle.sg_check.specs.Printings.{Printing, StandsWith}
use Rattle.sg_check.specs.declared.judged.Judged.TheVariants as judged
use Rattle.sg_fronts.specs.ByRecords.{Says}
use Rattle.sg_parts.specs.Given.{AreCodes, ArePrinted, Given, IsAccepted, IsGiven, IsRowGiven, completion_line, completion_of, printing_line, printing_of, row_text, sheet_texts}
use Rattle.sg_parts.specs.declared.parts.RecountFault.{RecountFault}
use Rattle.sg_parts.specs.declared.parts.RecountFault.TheVariants as fault
use Rattle.sg_parts.specs.declared.parts.RowGiven.{RowGiven}

-- THE LINES OF EACH PART

-- the lines of the record: those before the first `printing`
abbrev pub record_lines : List (List ℕ) → List (List ℕ)
record_lines [] = []
record_lines (line ∷ lines) = (if bytes_eq line printing_line then [] else line ∷ record_lines lines)

-- the lines from that one on
abbrev pub lines_behind : List (List ℕ) → List (List ℕ)
lines_behind [] = []
lines_behind (line ∷ lines) = (if bytes_eq line printing_line then line ∷ lines else lines_behind lines)

-- the lines are those of a record whose verdict is yes
abbrev pub IsAccepting : List (List ℕ) → Type 0
IsAccepting lines = (posted : Record) × IsAccepted posted × (lines ≡ texts_in posted)

-- a sheet on which nothing is printed
abbrev pub blank : Printed
blank race row = []

-- the line is this one of the sheet, with different codes of the version on it
abbrev pub IsSheetLine : Plan → SheetLine → List ℕ → Type 0
IsSheetLine plan (Ballot ballot style) line = line ≡ ballot_text ballot style
IsSheetLine plan (Codes race list) line = (list : List ℕ) × AreCodes plan race list × (line ≡ codes_text plan.version race list)

-- this is the number, from 0, of the first line that isn't the sheet's, or that is missing
abbrev pub IsSheetOff : Plan → List SheetLine → List (List ℕ) → ℕ → Type 0
IsSheetOff plan [] lines at = ⊥
IsSheetOff plan (due ∷ sheet) [] at = at ≡ 0
IsSheetOff plan (due ∷ sheet) (line ∷ lines) zero = IsSheetLine plan due line → ⊥
IsSheetOff plan (due ∷ sheet) (line ∷ lines) (suc at) = IsSheetLine plan due line × IsSheetOff plan sheet lines at

-- the same with the line `printing` before it
abbrev pub IsPrintingOff : Plan → List (List ℕ) → ℕ → Type 0
IsPrintingOff plan [] at = at ≡ 0
IsPrintingOff plan (line ∷ lines) zero = ⊥
IsPrintingOff plan (line ∷ lines) (suc at) = IsSheetOff plan (sheet_lines plan blank) lines at

-- the line is that of a row of a completion
abbrev pub IsRowLine : List ℕ → Type 0
IsRowLine line = (row : RowGiven) × IsRowGiven row × (line ≡ row_text row)

-- this is the number, from 0, of the first line that isn't a row's, or that is missing, or one too many, where so many
-- rows are due
abbrev pub AreRowsOff : ℕ → List (List ℕ) → ℕ → Type 0
AreRowsOff zero [] at = ⊥
AreRowsOff zero (line ∷ lines) at = at ≡ 0
AreRowsOff (suc rows) [] at = at ≡ 0
AreRowsOff (suc rows) (line ∷ lines) zero = IsRowLine line → ⊥
AreRowsOff (suc rows) (line ∷ lines) (suc at) = IsRowLine line × AreRowsOff rows lines at

-- the same with the line `completion` before it
abbrev pub IsCompletionOff : Plan → List (List ℕ) → ℕ → Type 0
IsCompletionOff plan [] at = at ≡ 0
IsCompletionOff plan (line ∷ lines) zero = line ≢ completion_line
IsCompletionOff plan (line ∷ lines) (suc at) = (line ≡ completion_line) × AreRowsOff (r_rows plan) lines at

-- ROWS

-- the row comes before that one, by race, instance and row
abbrev pub IsEarlierRow : ℕ → ℕ → ℕ → ℕ → ℕ → ℕ → Type 0
IsEarlierRow of on at race instance row = (of < race) ⊎ ((of ≡ race) × ((on < instance) ⊎ ((on ≡ instance) × (at < row))))

-- the first row of all races and instances of which something isn't so
pub record IsFirstWrong (plan : Plan) (right : (race instance row : ℕ) → Type 0) (race instance row : ℕ) : Type 0 where
  pub within : IsHalfOf plan race instance row
  pub wrong : right race instance row → ⊥
  pub before : (of on at : ℕ) → IsHalfOf plan of on at → IsEarlierRow of on at race instance row → right of on at

-- where the row is opened on both sides, each code that is known of its entry is printed beside the candidate of its place
abbrev pub StandsAt : Plan → List Placed → Printing → ℕ → ℕ → ℕ → Type 0
StandsAt plan lines printing race instance row =
    (left right : Opening) (block : Block) (ballot column : ℕ) (code : CodeLine)
    → IsAmong lines (RowAt race instance row (opened.Both left right)) → IsAmong lines (CodeAt block ballot race column code)
    → entry_at plan race ballot column ≡ left.value
    → printing race (left.value / candidates_of plan race) (right.value % candidates_of plan race) ≡ code.code

-- each opening that is given of the row opens its half
abbrev pub OpensAt : List Placed → Completion → ℕ → ℕ → ℕ → Type 0
OpensAt lines completion race instance row =
    (on : Side) (opening : Opening) → completion on race instance row ≡ Some opening
    → opens_digest (half_commitment lines on race instance row) (half_kind on) race instance row opening ≡ true

-- where the record posts a half of the row, this is its opening
abbrev pub KeepsPosted : List Placed → Completion → ℕ → ℕ → ℕ → Type 0
KeepsPosted lines completion race instance row =
    (on : Side) (posted : Opening) → posted_half lines on race instance row ≡ Some posted → completion on race instance row ≡ Some posted

pub record IsRowRight (lines : List Placed) (completion : Completion) (race instance row : ℕ) : Type 0 where
  pub opens : OpensAt lines completion race instance row
  pub keeps : KeepsPosted lines completion race instance row

-- THE FAULTS

-- the lines before `printing` are those of this record, whose verdict is yes
pub record IsRecordOf (lines : List (List ℕ)) (posted : Record) : Type 0 where
  pub accepted : IsAccepted posted
  pub text : record_lines lines ≡ texts_in posted

-- behind it stands the sheet, with these codes, and then the rest
pub record IsSheetOf (lines : List (List ℕ)) (posted : Record) (lists : List (List (List ℕ))) (rest : List (List ℕ)) : Type 0 where
  pub of_record : IsRecordOf lines posted
  pub printed : ArePrinted posted.plan lists
  pub text : lines_behind lines ≡ printing_line ∷ (sheet_texts posted.plan lists ++ rest)

-- all parts are there, and the printing stands with the record; and this is the first row of which a half isn't right
pub record IsRowFault (lines : List (List ℕ)) (given : Given) (race instance row : ℕ) : Type 0 where
  pub of_record : IsRecordOf lines given.posted
  pub is_given : IsGiven lines given
  pub stands : StandsWith given.posted.plan (places_in given.posted) (printing_of given.codes)
  pub first : IsFirstWrong given.posted.plan (IsRowRight (places_in given.posted) (completion_of given.rows)) race instance row

-- each fault, where none before it holds
abbrev pub HasFault : List (List ℕ) → RecountFault → Type 0
HasFault lines (fault.Record number broken) = Says (judged.No number broken) (record_lines lines)
HasFault lines (fault.Printing number) =
    (posted : Record) × (at : ℕ) × IsRecordOf lines posted × IsPrintingOff posted.plan (lines_behind lines) at × (number ≡ length (record_lines lines) + at + 1)
HasFault lines (fault.Stand race instance row) =
    (posted : Record) × (lists : List (List (List ℕ))) × (rest : List (List ℕ)) × IsSheetOf lines posted lists rest
    × IsFirstWrong posted.plan (StandsAt posted.plan (places_in posted) (printing_of lists)) race instance row
HasFault lines (fault.Completion number) =
    (posted : Record) × (lists : List (List (List ℕ))) × (rest : List (List ℕ)) × (at : ℕ) × IsSheetOf lines posted lists rest
    × StandsWith posted.plan (places_in posted) (printing_of lists) × IsCompletionOff posted.plan rest at
    × (number ≡ length (record_lines lines) + length (sheet_lines posted.plan blank) + at + 2)
HasFault lines (fault.Opening race instance row) =
    (given : Given) × IsRowFault lines given race instance row × (OpensAt (places_in given.posted) (completion_of given.rows) race instance row → ⊥)
HasFault lines (fault.Posted race instance row) =
    (given : Given) × IsRowFault lines given race instance row × OpensAt (places_in given.posted) (completion_of given.rows) race instance row
HasFault lines fault.NoMemory = Unit {0}
