-- The printer's text: the codes that stand on the paper of each ballot (this project's formats).
use Rattle.std.specs.Prelude.{ℕ, List}
use Rattle.sg_plan.specs.declared.plan.Plan.{Plan}
use Rattle.sg_tables.specs.Tables.{codes_of_row}
use Rattle.sg_keeper.specs.declared.setup.Setup.{Setup}
use Rattle.sg_histories.specs.Histories.{Entry}
use Rattle.sg_sheet.specs.Sheet.{lines_text, sheet_lines}

-- the sheet of the codes that the office prints
unfoldable pub sheet_text : Plan → List ℕ → List ℕ
sheet_text plan seed = lines_text plan.version (sheet_lines plan (codes_of_row plan seed))

-- what is shown of each history of a setup
abbrev pub sheet_of : Setup → List Entry → List ℕ
sheet_of setup history = sheet_text setup.plan setup.seed.0
