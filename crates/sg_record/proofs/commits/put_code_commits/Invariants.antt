-- What is written so far, and what is left.
use Rattle.sg_record.proofs.Putting.{LeftFrom}
use Rattle.sg_record.specs.Tree.{as_line, race_code_commit_tree}
use Rattle.sg_record.specs.Pens.{moment}
use Rattle.sg_record.proofs.commits.put_code_commits.Given as goal

abbrev pub invariant-loop-race : goal.invariant-loop-race
invariant-loop-race g l = LeftFrom (moment g.O.Sink.written g.O.Sink.faults l.fn.pen l.fn.out) (moment g.O.Sink.written g.O.Sink.faults l.pen l.out) (race_code_commit_tree as_line) (g.P.Posts.posted l.posted).code_commits l.race
