-- What is written so far, and what is left.
use Rattle.sg_record.proofs.Putting.{LeftFrom}
use Rattle.sg_record.specs.Tree.{as_line, total_leaf}
use Rattle.sg_record.specs.Pens.{moment}
use Rattle.sg_record.proofs.results.put_totals.Given as goal

abbrev pub invariant-loop-candidate : goal.invariant-loop-candidate
invariant-loop-candidate g l = LeftFrom (moment g.O.Sink.written g.O.Sink.faults l.fn.pen l.fn.out) (moment g.O.Sink.written g.O.Sink.faults l.pen l.out) (total_leaf as_line l.race) l.totals l.candidate
