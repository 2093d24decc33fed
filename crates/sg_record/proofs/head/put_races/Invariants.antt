-- What is written so far, and what is left.
use Rattle.sg_record.proofs.Putting.{LeftOf}
use Rattle.std.specs.List.{flat_map}
use Rattle.sg_record.specs.Lines.{race_lines}
use Rattle.sg_record.specs.Pens.{moment}
use Rattle.sg_record.proofs.head.put_races.Given as goal

abbrev pub invariant-loop-at : goal.invariant-loop-at
invariant-loop-at g l = LeftOf (moment g.O.Sink.written g.O.Sink.faults l.fn.pen l.fn.out) (moment g.O.Sink.written g.O.Sink.faults l.pen l.out) (flat_map race_lines) l.races l.at
