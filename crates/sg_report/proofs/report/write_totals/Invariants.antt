-- The lines of the totals so far were put.
use Rattle.std.proofs.Common.{◌≤◌, drop}
use Rattle.sg_report.proofs.Pieces.{HasPut}
use Rattle.sg_report.specs.Report.{totals_text}
use Rattle.sg_report.proofs.report.write_totals.Given as goal

abbrev pub invariant-loop-at : goal.invariant-loop-at
invariant-loop-at g l = record {
  put : HasPut (g.O.Sink.written l.fn.out) (g.O.Sink.written l.out) (totals_text (drop l.at l.totals)) (totals_text l.totals);
  later : g.O.Sink.faults l.fn.out ≤ g.O.Sink.faults l.out;
}
