-- Where the walk has come to, and what is written so far.
use Rattle.std.proofs.Common.{◌≡◌}
use Rattle.sg_plan.specs.Ballots.{entries_of}
use Rattle.sg_record.proofs.Putting.{LeftEach}
use Rattle.sg_record.specs.Pens.{moment}
use Rattle.sg_post.specs.inside.Lines.{row_commit}
use Rattle.sg_post.specs.inside.Walks.{row_walk}
use Rattle.sg_post.proofs.commitments.put_instance_commits.Given as goal

abbrev pub invariant-loop-row : goal.invariant-loop-row
invariant-loop-row g l = record {
  walk : l.walk ≡ row_walk l.fn.tables l.fn.race l.fn.instance l.row;
  written : LeftEach (moment g.O.Sink.written g.O.Sink.faults l.fn.pen l.fn.out) (moment g.O.Sink.written g.O.Sink.faults l.pen l.out) (row_commit l.fn.tables.plan l.fn.tables.seed l.fn.race l.fn.instance) l.row (entries_of l.fn.tables.plan l.fn.race);
}
