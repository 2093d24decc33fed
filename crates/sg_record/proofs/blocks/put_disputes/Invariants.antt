-- What is written so far, and what is left.
use Rattle.std.proofs.Common.{drop}
use Rattle.sg_record.proofs.Putting.{LeftOf}
use Rattle.std.specs.List.{flat_map}
use Rattle.sg_record.specs.Tree.{as_line, dispute_tree}
use Rattle.sg_record.specs.inside.Parts.{HaveClaims}
use Rattle.sg_record.specs.Pens.{moment}
use Rattle.sg_record.proofs.blocks.put_disputes.Given as goal

abbrev pub invariant-loop-at : goal.invariant-loop-at
invariant-loop-at g l = record {
  left : LeftOf (moment g.O.Sink.written g.O.Sink.faults l.fn.pen l.fn.out) (moment g.O.Sink.written g.O.Sink.faults l.pen l.out) (flat_map (dispute_tree as_line)) l.disputes l.at;
  claims : HaveClaims l.fn.pen.version (drop l.at l.disputes);
}
