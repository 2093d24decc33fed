-- What is written so far, and what is left.
use Rattle.sg_record.proofs.Putting.{LeftFrom}
use Rattle.sg_record.specs.Tree.{as_line, race_row_tree}
use Rattle.sg_record.specs.Pens.{moment}
use Rattle.sg_record.proofs.openings.put_rows.Given as goal

abbrev pub invariant-loop-race : goal.invariant-loop-race
invariant-loop-race g l = LeftFrom (moment g.O.Sink.written g.O.Sink.faults l.fn.pen l.fn.out) (moment g.O.Sink.written g.O.Sink.faults l.pen l.out) (race_row_tree as_line) (g.P.Posts.posted l.posted).rows l.race
