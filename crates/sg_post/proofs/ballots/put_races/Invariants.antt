use Rattle.std.proofs.Common.{length}
use Rattle.sg_record.proofs.Putting.{LeftEach}
use Rattle.sg_record.specs.Pens.{moment}
use Rattle.sg_post.specs.inside.Lines.{fate_race}
use Rattle.sg_post.proofs.ballots.put_races.Given as goal

abbrev pub invariant-loop-race : goal.invariant-loop-race
invariant-loop-race g l = LeftEach (moment g.O.Sink.written g.O.Sink.faults l.fn.pen l.fn.out) (moment g.O.Sink.written g.O.Sink.faults l.pen l.out) (fate_race l.fn.tables.plan l.fn.tables.seed l.fn.told.ballot l.fn.told.fate) l.race (length l.fn.tables.plan.races)
