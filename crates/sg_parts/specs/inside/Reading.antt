-- What each part of the reading answers.
use Rattle.std.specs.Prelude.{◌≡◌, ℕ, ◌+◌, ◌≤◌, if◌then◌else◌, Bool, true, false, List, [], ◌∷◌, ◌++◌, length, Option, Some, None}
use Rattle.sg_plan.specs.declared.plan.Plan.{Plan}
use Rattle.sg_record.specs.Formed.{has_rows}
use Rattle.sg_record.specs.Lines.{texts_in}
use Rattle.sg_record.specs.Places.{places_in}
use Rattle.sg_record.specs.declared.record.Record.{Record}
use Rattle.sg_check.specs.Completions.{IsHalfOf}
use Rattle.sg_check.specs.Printings.{StandsWith}
use Rattle.sg_parts.specs.Faults.{IsFirstWrong, IsRowRight, OpensAt, StandsAt}
use Rattle.sg_parts.specs.Given.{AreOpenings, IsAccepted, completion_line, completion_of, completion_texts, printing_of}
use Rattle.sg_parts.specs.declared.parts.RecountFault.{RecountFault}
use Rattle.sg_parts.specs.declared.parts.RecountFault.TheVariants as fault
use Rattle.sg_parts.specs.declared.checks.At.{At}
use Rattle.sg_parts.specs.declared.parts.RowGiven.{RowGiven}
use Rattle.sg_parts.specs.declared.reading.PartsReading.{PartsReading}
use Rattle.sg_parts.specs.Reads.{HasRead}
use Rattle.sg_parts.specs.inside.Checks.{row_opens}
use Rattle.sg_parts.specs.inside.Taking.{IsOff}

-- the lines are those of the record, whose verdict is yes
pub record IsRecordRead (lines : List (List ℕ)) (posted : Record) : Type 0 where
  pub accepted : IsAccepted posted
  pub text : lines ≡ texts_in posted

abbrev pub IsStandFault : Record → List (List (List ℕ)) → RecountFault → Type 0
IsStandFault posted lists (fault.Stand race instance row) = IsFirstWrong posted.plan (StandsAt posted.plan (places_in posted) (printing_of lists)) race instance row
IsStandFault posted lists other = ⊥

-- the printing stands with the record, or this is its fault
abbrev pub Judges : Record → List (List (List ℕ)) → Option RecountFault → Type 0
Judges posted lists None = StandsWith posted.plan (places_in posted) (printing_of lists)
Judges posted lists (Some off) = IsStandFault posted lists off

-- the lines are the word, and these rows
pub record HasCompletion (plan : Plan) (lines : List (List ℕ)) (rows : List (List (List RowGiven))) : Type 0 where
  pub rows_are : has_rows plan rows ≡ true
  pub openings : AreOpenings rows
  pub text : lines ≡ completion_line ∷ completion_texts rows

abbrev pub AreRight : Record → List (List (List RowGiven)) → Type 0
AreRight posted rows = (race instance row : ℕ) → IsHalfOf posted.plan race instance row → IsRowRight (places_in posted) (completion_of rows) race instance row

abbrev pub IsRowsFault : Record → List (List (List RowGiven)) → RecountFault → Type 0
IsRowsFault posted rows (fault.Opening race instance row) =
    IsFirstWrong posted.plan (IsRowRight (places_in posted) (completion_of rows)) race instance row × (OpensAt (places_in posted) (completion_of rows) race instance row → ⊥)
IsRowsFault posted rows (fault.Posted race instance row) =
    IsFirstWrong posted.plan (IsRowRight (places_in posted) (completion_of rows)) race instance row × OpensAt (places_in posted) (completion_of rows) race instance row
IsRowsFault posted rows fault.NoMemory = Unit {0}
IsRowsFault posted rows other = ⊥

-- the fault of a row that isn't right
abbrev pub row_fault : Record → List (List (List RowGiven)) → At → RecountFault
row_fault posted rows at = (if row_opens posted rows at.race at.instance at.row then fault.Posted at.race at.instance at.row else fault.Opening at.race at.instance at.row)

-- ALL LINES

-- the line is the one that is due, and what it says is kept; or it is another, and nothing changes
abbrev pub Fits : PartsReading → PartsReading → List (List ℕ) → List ℕ → Bool → Type 0
Fits old new lines text true = (new ≡ record old { codes = new.codes; rows = new.rows }) × HasRead (record new { taken = new.taken + 1 }) (lines ++ text ∷ [])
Fits old new lines text false = (new ≡ old) × IsOff old text

-- no line is missing, and the printing stands with the record
pub record IsWhole (reading : PartsReading) : Type 0 where
  pub all : length reading.due + reading.count + 1 ≤ reading.taken
  pub stands : StandsWith reading.posted.plan (places_in reading.posted) (printing_of reading.codes)
