-- Where the walk has come to, and what is written so far.
use Rattle.std.proofs.Common.{◌≡◌}
use Rattle.sg_plan.specs.Ballots.{entries_of}
use Rattle.sg_record.proofs.Putting.{LeftEach}
use Rattle.sg_record.specs.Pens.{moment}
use Rattle.sg_post.specs.inside.Walks.{row_walk}
use Rattle.sg_openings.specs.inside.Lines.{row_line}
use Rattle.sg_openings.proofs.writing.put_instance.Given as goal

abbrev pub invariant-loop-row : goal.invariant-loop-row
invariant-loop-row g l = record {
  walk : l.walk ≡ row_walk l.fn.tables l.fn.race l.fn.instance l.row;
  written : LeftEach (moment g.O.Sink.written g.O.Sink.faults l.fn.pen l.fn.out) (moment g.O.Sink.written g.O.Sink.faults l.pen l.out) (row_line l.fn.tables.plan l.fn.tables.seed l.fn.race l.fn.instance) l.row (entries_of l.fn.tables.plan l.fn.race);
}
