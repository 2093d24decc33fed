-- What is written so far.
use Rattle.sg_record.proofs.Putting.{LeftEach}
use Rattle.sg_record.specs.Pens.{moment}
use Rattle.sg_openings.specs.inside.Lines.{instance_lines}
use Rattle.sg_openings.proofs.writing.put_race.Given as goal

abbrev pub invariant-loop-instance : goal.invariant-loop-instance
invariant-loop-instance g l = LeftEach (moment g.O.Sink.written g.O.Sink.faults l.fn.pen l.fn.out) (moment g.O.Sink.written g.O.Sink.faults l.pen l.out) (instance_lines l.fn.tables.plan l.fn.tables.seed l.fn.race) l.instance (l.fn.tables.plan.instances)
