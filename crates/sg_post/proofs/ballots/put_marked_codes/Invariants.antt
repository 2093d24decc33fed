use Rattle.sg_plan.specs.Ballots.{candidates_of}
use Rattle.sg_record.proofs.Putting.{LeftEach}
use Rattle.sg_record.specs.Pens.{moment}
use Rattle.sg_post.specs.inside.Lines.{marked_code}
use Rattle.sg_post.proofs.ballots.put_marked_codes.Given as goal

abbrev pub invariant-loop-column : goal.invariant-loop-column
invariant-loop-column g l = LeftEach (moment g.O.Sink.written g.O.Sink.faults l.fn.pen l.fn.out) (moment g.O.Sink.written g.O.Sink.faults l.pen l.out) (marked_code l.fn.tables.plan l.fn.tables.seed l.fn.race l.fn.row l.fn.fate) l.column (candidates_of l.fn.tables.plan l.fn.race)
