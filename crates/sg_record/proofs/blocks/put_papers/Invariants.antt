-- What is written so far, and what is left.
use Rattle.std.proofs.Common.{drop}
use Rattle.sg_record.proofs.Putting.{Left}
use Rattle.sg_record.specs.Pens.{moment}
use Rattle.sg_record.specs.inside.Parts.{ArePapers, paper_lines}
use Rattle.sg_record.proofs.blocks.put_papers.Given as goal

abbrev pub invariant-loop-at : goal.invariant-loop-at
invariant-loop-at g l = record {
  left : Left (moment g.O.Sink.written g.O.Sink.faults l.fn.pen l.fn.out) (moment g.O.Sink.written g.O.Sink.faults l.pen l.out) (paper_lines l.races l.papers) (paper_lines (drop l.at l.races) (drop l.at l.papers));
  each : ArePapers l.fn.pen.version (drop l.at l.races) (drop l.at l.papers);
}
