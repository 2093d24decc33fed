-- The lines of the races so far were written.
use Rattle.std.proofs.Common.{◌≤◌, drop}
use Rattle.sg_report.proofs.Pieces.{HasPut}
use Rattle.sg_reports.specs.court.inside.Finding.{values_text}
use Rattle.sg_reports.proofs.court.exponents.write_exponents.Given as goal

abbrev pub invariant-loop-race : goal.invariant-loop-race
invariant-loop-race g l = record {
  put : HasPut (g.O.Sink.written l.fn.out) (g.O.Sink.written l.out) (values_text l.race (drop l.race l.values)) (values_text 0 l.values);
  later : g.O.Sink.faults l.fn.out ≤ g.O.Sink.faults l.out;
}
