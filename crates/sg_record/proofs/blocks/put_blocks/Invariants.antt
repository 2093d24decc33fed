-- What is written so far, and what is left.
use Rattle.std.proofs.Common.{drop}
use Rattle.sg_record.proofs.Putting.{LeftOf}
use Rattle.std.specs.List.{flat_map}
use Rattle.sg_record.specs.Tree.{as_line, block_tree}
use Rattle.sg_record.specs.Pens.{moment}
use Rattle.sg_record.specs.inside.Parts.{HaveFates}
use Rattle.sg_record.proofs.blocks.put_blocks.Given as goal

abbrev pub invariant-loop-at : goal.invariant-loop-at
invariant-loop-at g l = record {
  left : LeftOf (moment g.O.Sink.written g.O.Sink.faults l.fn.pen l.fn.out) (moment g.O.Sink.written g.O.Sink.faults l.pen l.out) (flat_map (block_tree as_line l.index)) l.blocks l.at;
  fates : HaveFates l.index 0 (drop l.at l.blocks);
}
