-- The lines of the candidates so far were written.
use Rattle.std.proofs.Common.{◌≤◌, drop}
use Rattle.sg_report.proofs.Pieces.{HasPut}
use Rattle.sg_reports.specs.court.Recounts.{race_sums_text}
use Rattle.sg_reports.proofs.court.findings.write_race_sums.Given as goal

abbrev pub invariant-loop-candidate : goal.invariant-loop-candidate
invariant-loop-candidate g l = record {
  put : HasPut (g.O.Sink.written l.fn.out) (g.O.Sink.written l.out) (race_sums_text l.race l.candidate (drop l.candidate l.sums)) (race_sums_text l.race 0 l.sums);
  later : g.O.Sink.faults l.fn.out ≤ g.O.Sink.faults l.out;
}
