-- What is written so far, and what is left.
use Rattle.sg_record.proofs.Putting.{LeftFrom}
use Rattle.sg_record.specs.Tree.{as_line, flag_tree}
use Rattle.sg_record.specs.Pens.{moment}
use Rattle.sg_record.proofs.results.put_race_flags.Given as goal

abbrev pub invariant-loop-instance : goal.invariant-loop-instance
invariant-loop-instance g l = LeftFrom (moment g.O.Sink.written g.O.Sink.faults l.fn.pen l.fn.out) (moment g.O.Sink.written g.O.Sink.faults l.pen l.out) (flag_tree as_line l.race) l.instances l.instance
