use Rattle.std.specs.List.{flat_map}
use Rattle.sg_record.proofs.Putting.{LeftOf}
use Rattle.sg_record.specs.Pens.{moment}
use Rattle.sg_post.specs.inside.Lines.{told_lines}
use Rattle.sg_post.proofs.ballots.put_ballots.Given as goal

abbrev pub invariant-loop-at : goal.invariant-loop-at
invariant-loop-at g l = LeftOf (moment g.O.Sink.written g.O.Sink.faults l.fn.pen l.fn.out) (moment g.O.Sink.written g.O.Sink.faults l.pen l.out) (flat_map (told_lines l.fn.tables.plan l.fn.tables.seed)) l.fn.fates l.at
