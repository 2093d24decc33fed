-- What a reader of a recount's parts has taken, and how it goes on behind a line.
use Rattle.std.specs.Prelude.{◌≡◌, ◌≢◌, ℕ, ◌+◌, ◌-◌, List, ◌∷◌, ◌++◌, length, Option, Some, None}
use Rattle.sg_plan.specs.Ballots.{r_rows}
use Rattle.sg_sheet.specs.inside.Listed.{sheet_due}
use Rattle.sg_parts.specs.Faults.{HasFault, IsRecordOf, lines_behind, record_lines}
use Rattle.sg_parts.specs.Given.{printing_line}
use Rattle.sg_parts.specs.declared.parts.RecountFault.{RecountFault}
use Rattle.sg_parts.specs.declared.parts.RecountFault.TheVariants as fault
use Rattle.sg_parts.specs.declared.reading.PartsReading.{PartsReading}
use Rattle.sg_parts.specs.inside.Taking.{Stands}

-- the reader has taken these lines, and no others: those of a record whose verdict is yes, the line `printing`, and lines
-- behind it, each in its place
pub record HasRead (reading : PartsReading) (lines : List (List ℕ)) : Type 0 where
  pub of_record : IsRecordOf lines reading.posted
  pub index : reading.index ≡ reading.posted.plan
  pub before : reading.before ≡ length (record_lines lines)
  pub due_are : reading.due ≡ sheet_due reading.posted.plan
  pub count : reading.count ≡ r_rows reading.posted.plan
  pub behind : List (List ℕ)
  pub begins : lines_behind lines ≡ printing_line ∷ behind
  pub stands : Stands reading.posted.plan reading.due reading.taken reading.codes reading.rows behind

-- how the reading goes on behind these lines: each was in its place; or the last is off, and this is the fault of all
-- inputs that begin so
abbrev pub GoesOn : Option RecountFault → PartsReading → List (List ℕ) → Type 0
GoesOn None reading lines = HasRead reading lines
GoesOn (Some off) reading lines = (off ≢ fault.NoMemory) × ((more : List (List ℕ)) → HasFault (lines ++ more) off)

-- how many lines may still be taken, and one more
abbrev pub lines_left : PartsReading → ℕ
lines_left reading = (length reading.due + reading.count + 2) - reading.taken
