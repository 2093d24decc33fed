-- Where the walks have come to, and what is written so far.
use Rattle.sg_plan.specs.Ballots.{entries_of}
use Rattle.sg_record.proofs.Putting.{LeftEach}
use Rattle.sg_record.specs.Pens.{moment}
use Rattle.sg_post.specs.inside.Lines.{row_opening}
use Rattle.sg_post.specs.inside.Walks.{AreDrawn}
use Rattle.sg_post.proofs.openings.put_instance_rows.Given as goal

abbrev pub invariant-loop-row : goal.invariant-loop-row
invariant-loop-row g l = record {
  walks : AreDrawn l.posted.tables.now l.posted.key.0 l.fn.race l.fn.instance l.row l.walks.openings l.walks.coins;
  written : LeftEach (moment g.O.Sink.written g.O.Sink.faults l.fn.pen l.fn.out) (moment g.O.Sink.written g.O.Sink.faults l.pen l.out) (row_opening l.posted.tables.now.plan l.posted.tables.now.seed l.posted.story.now.fates l.posted.draw.now l.fn.race l.fn.instance) l.row (entries_of l.posted.tables.now.plan l.fn.race);
}
