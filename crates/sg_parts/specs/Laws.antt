-- What follows from what was read.
use Rattle.std.specs.Prelude.{◌≡◌, ℕ, ◌≤◌, List, ◌∷◌, length}
use Rattle.sg_parts.specs.Faults.{IsAccepting, lines_behind, record_lines}
use Rattle.sg_parts.specs.Given.{printing_line}
use Rattle.sg_parts.specs.Reads.{HasRead}
use Rattle.sg_parts.specs.declared.reading.PartsReading.{PartsReading}

-- what holds behind lines that were read: the verdict on the record before `printing` is yes, that line is among them, and
-- they are no more than the parts may have: a record's 1,200,000, `printing`, a sheet's 660,000, `completion` and 200,000 rows
pub record Holds (reading : PartsReading) (lines : List (List ℕ)) : Type 0 where
  pub accepting : IsAccepting (record_lines lines)
  pub tail : List (List ℕ)
  pub begins : lines_behind lines ≡ printing_line ∷ tail
  pub few : length lines ≤ 2060002

abbrev pub ReadingsHold : Type 0
ReadingsHold = (reading : PartsReading) (lines : List (List ℕ)) → HasRead reading lines → Holds reading lines
