-- What is written so far, and what is left.
use Rattle.std.proofs.Common.{[], get_or}
use Rattle.sg_record.proofs.Putting.{LeftFrom}
use Rattle.sg_record.specs.Tree.{as_line, instance_row_tree}
use Rattle.sg_record.specs.Pens.{moment}
use Rattle.sg_record.proofs.openings.put_race_rows.Given as goal

abbrev pub invariant-loop-instance : goal.invariant-loop-instance
invariant-loop-instance g l = LeftFrom (moment g.O.Sink.written g.O.Sink.faults l.fn.pen l.fn.out) (moment g.O.Sink.written g.O.Sink.faults l.pen l.out) (instance_row_tree as_line l.race) (get_or (g.P.Posts.posted l.posted).rows l.race []) l.instance
