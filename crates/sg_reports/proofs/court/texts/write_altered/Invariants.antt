-- The lines of the races so far were written.
use Rattle.std.proofs.Common.{◌≤◌, drop}
use Rattle.sg_report.proofs.Pieces.{HasPut}
use Rattle.sg_reports.specs.court.Texts.{altered_text}
use Rattle.sg_reports.proofs.court.texts.write_altered.Given as goal

abbrev pub invariant-loop-race : goal.invariant-loop-race
invariant-loop-race g l = record {
  put : HasPut (g.O.Sink.written l.fn.out) (g.O.Sink.written l.out) (altered_text l.race (drop l.race l.all)) (altered_text 0 l.all);
  later : g.O.Sink.faults l.fn.out ≤ g.O.Sink.faults l.out;
}
