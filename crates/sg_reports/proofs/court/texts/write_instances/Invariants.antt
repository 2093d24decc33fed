-- The lines of the instances so far were written.
use Rattle.std.proofs.Common.{◌≤◌, drop}
use Rattle.sg_report.proofs.Pieces.{HasPut}
use Rattle.sg_reports.specs.court.Texts.{instances_text}
use Rattle.sg_reports.proofs.court.texts.write_instances.Given as goal

abbrev pub invariant-loop-instance : goal.invariant-loop-instance
invariant-loop-instance g l = record {
  put : HasPut (g.O.Sink.written l.fn.out) (g.O.Sink.written l.out) (instances_text l.race l.instance (drop l.instance l.lists)) (instances_text l.race 0 l.lists);
  later : g.O.Sink.faults l.fn.out ≤ g.O.Sink.faults l.out;
}
