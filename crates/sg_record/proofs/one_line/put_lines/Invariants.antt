-- What is written so far, and what is left.
use Rattle.std.proofs.Common.{map}
use Rattle.sg_record.proofs.Putting.{LeftOf}
use Rattle.sg_record.specs.Pens.{moment}
use Rattle.sg_record.proofs.one_line.put_lines.Given as goal

abbrev pub invariant-loop-at : goal.invariant-loop-at
invariant-loop-at g l = LeftOf (moment g.O.Sink.written g.O.Sink.faults l.fn.pen l.fn.out) (moment g.O.Sink.written g.O.Sink.faults l.pen l.out) (map g.T.OneLine.told) l.items l.at
