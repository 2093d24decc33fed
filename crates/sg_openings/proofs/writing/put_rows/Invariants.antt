-- What is written so far.
use Rattle.std.proofs.Common.{length}
use Rattle.sg_record.proofs.Putting.{LeftEach}
use Rattle.sg_record.specs.Pens.{moment}
use Rattle.sg_openings.specs.inside.Lines.{race_lines}
use Rattle.sg_openings.proofs.writing.put_rows.Given as goal

abbrev pub invariant-loop-race : goal.invariant-loop-race
invariant-loop-race g l = LeftEach (moment g.O.Sink.written g.O.Sink.faults l.fn.pen l.fn.out) (moment g.O.Sink.written g.O.Sink.faults l.pen l.out) (race_lines l.fn.tables.plan l.fn.tables.seed) l.race (length l.fn.tables.plan.races)
