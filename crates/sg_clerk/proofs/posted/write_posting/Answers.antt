-- A front of what is posted of the office's histories was written.
use Rattle.sg_outside.specs.Streams.{seen}
use Rattle.sg_clerk.proofs.Showing.{posted_part}
use Rattle.sg_clerk.proofs.posted.write_posting.Goals as goal

pub returns-in-SinkFailed : goal.returns-in-SinkFailed
returns-in-SinkFailed g c = (
  c.in-SinkFailed.ensures.ends.0,
  posted_part c.args.office.now c.tables.result.now c.args.story.now
      (seen (g.O.Sink.written c.args.out.now) (g.O.Sink.faults c.args.out.now)) (seen (g.O.Sink.written c.write_posted-wrote.new.out) (g.O.Sink.faults c.write_posted-wrote.new.out))
      c.tables.ensures c.requires.story.told c.in-SinkFailed.ensures.ends.1,
)
