-- How far the input of a recount is read (this project's rules for a recount).
use Rattle.std.specs.Prelude.{◌≡◌, ℕ, ◌≤◌, ◌⊎◌, List, [], length}
use Rattle.sg_record.specs.Laws.{AreLinesOf}
use Rattle.sg_record.specs.declared.record.Record.{Record}
use Rattle.sg_fronts.specs.ByRecords.{IsGoodFront}
use Rattle.sg_parts.specs.Faults.{lines_behind, record_lines}

-- the most lines that a record, its printing and its completion have: 1,200,000 of the record, the line `printing` and 660,000
-- of the sheet, the line `completion` and 200,000 of the rows
abbrev pub most_lines : ℕ
most_lines = 2060002

-- the lines settle no verdict of no on their record: some record begins with its lines, none of them bad, and they are a whole one
-- where `printing` stands behind them; and they are no more than all parts may have
pub record IsUnsettled (lines : List (List ℕ)) : Type 0 where
  pub good : IsGoodFront (record_lines lines)
  pub whole : (lines_behind lines ≡ []) ⊎ ((posted : Record) × AreLinesOf (record_lines lines) posted)
  pub few : length lines ≤ most_lines
