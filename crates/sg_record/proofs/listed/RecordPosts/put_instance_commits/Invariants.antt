-- What is written so far, and what is left.
use Rattle.sg_record.proofs.Putting.{LeftFrom}
use Rattle.sg_record.specs.Tree.{as_line, row_commit_leaf}
use Rattle.sg_record.specs.Pens.{moment}
use Rattle.sg_record.proofs.listed.RecordPosts.put_instance_commits.Given as goal

abbrev pub invariant-loop-at : goal.invariant-loop-at
invariant-loop-at g l = LeftFrom (moment g.O.Sink.written g.O.Sink.faults l.fn.pen l.fn.out) (moment g.O.Sink.written g.O.Sink.faults l.pen l.out) (row_commit_leaf as_line l.race l.instance) l.rows l.at
