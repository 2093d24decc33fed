-- The lines of the races so far were appended.
use Rattle.std.proofs.Common.{◌≤◌, drop, map}
use Rattle.sg_tables.specs.Tables.{codes_of_row}
use Rattle.sg_sheet.specs.Sheet.{codes_line, lines_text}
use Rattle.sg_clerk.proofs.Sheets.{HasWritten}
use Rattle.sg_clerk.proofs.printing.write_races.Given as goal

abbrev pub invariant-loop-at : goal.invariant-loop-at
invariant-loop-at g l =
    let plan = l.tables.plan in
    HasWritten (g.O.Sink.written l.fn.out) (g.O.Sink.written l.out)
    (lines_text plan.version (map (codes_line plan (codes_of_row plan l.tables.seed) l.ballot) (drop l.at l.races))) (lines_text plan.version (map (codes_line plan (codes_of_row plan l.tables.seed) l.ballot) l.races))
    × (g.O.Sink.faults l.fn.out ≤ g.O.Sink.faults l.out)
