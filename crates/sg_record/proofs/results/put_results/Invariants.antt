-- What is written so far, and what is left.
use Rattle.std.proofs.Common.{length}
use Rattle.sg_record.proofs.Putting.{LeftEach}
use Rattle.sg_record.specs.Tree.{as_line, race_results_tree}
use Rattle.sg_record.specs.Pens.{moment}
use Rattle.sg_record.proofs.results.put_results.Given as goal

abbrev pub invariant-loop-race : goal.invariant-loop-race
invariant-loop-race g l = LeftEach (moment g.O.Sink.written g.O.Sink.faults l.fn.pen l.fn.out) (moment g.O.Sink.written g.O.Sink.faults l.pen l.out) (race_results_tree as_line (g.P.Posts.posted l.posted)) l.race (length (g.P.Posts.posted l.posted).plan.races)
