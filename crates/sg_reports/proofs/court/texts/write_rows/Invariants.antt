-- The lines of the rows so far were written.
use Rattle.std.proofs.Common.{◌≤◌, drop}
use Rattle.sg_report.proofs.Pieces.{HasPut}
use Rattle.sg_reports.specs.court.Texts.{rows_text}
use Rattle.sg_reports.proofs.court.texts.write_rows.Given as goal

abbrev pub invariant-loop-at : goal.invariant-loop-at
invariant-loop-at g l = record {
  put : HasPut (g.O.Sink.written l.fn.out) (g.O.Sink.written l.out) (rows_text l.race l.instance (drop l.at l.rows)) (rows_text l.race l.instance l.rows);
  later : g.O.Sink.faults l.fn.out ≤ g.O.Sink.faults l.out;
}
