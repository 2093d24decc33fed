-- The codes so far were put, and those that are left give all.
use Rattle.std.proofs.Common.{◌≡◌, ◌++◌, drop}
use Rattle.sg_tables.specs.Tables.{codes_of_row}
use Rattle.sg_sheet.specs.Sheet.{code_words}
use Rattle.sg_clerk.proofs.printing.put_codes.Given as goal

abbrev pub invariant-loop-candidate : goal.invariant-loop-candidate
invariant-loop-candidate l =
    let list = codes_of_row l.tables.plan l.tables.seed l.race l.row in
    l.line ++ code_words l.tables.plan.version (drop l.candidate list) ≡ l.fn.line ++ code_words l.tables.plan.version list
