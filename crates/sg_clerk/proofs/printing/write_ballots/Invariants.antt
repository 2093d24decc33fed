-- The lines of the ballots so far were appended.
use Rattle.std.proofs.Common.{◌+◌, ◌≤◌, drop}
use Rattle.sg_plan.specs.Ballots.{ballot_styles}
use Rattle.sg_tables.specs.Tables.{codes_of_row}
use Rattle.sg_sheet.specs.Sheet.{lines_from, lines_text}
use Rattle.sg_clerk.specs.Sheet.{sheet_text}
use Rattle.sg_clerk.proofs.Sheets.{HasWritten}
use Rattle.sg_clerk.proofs.printing.write_ballots.Given as goal

abbrev pub invariant-loop-at : goal.invariant-loop-at
invariant-loop-at g l =
    let plan = l.tables.plan in
    HasWritten (g.O.Sink.written l.fn.out) (g.O.Sink.written l.out)
    (lines_text plan.version (lines_from plan (codes_of_row plan l.tables.seed) (l.at + 1) (drop l.at (ballot_styles plan.runs)))) (sheet_text plan l.tables.seed)
    × (g.O.Sink.faults l.fn.out ≤ g.O.Sink.faults l.out)
