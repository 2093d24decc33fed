-- What was written of the office's tables is what is due of it, or a front of that.
use Rattle.std.proofs.Common.{inr}
use Rattle.sg_outside.specs.Streams.{seen}
use Rattle.sg_handed.proofs.Ends.{rows_part, rows_whole}
use Rattle.sg_handed.proofs.handing.write_rows.Goals as goal

pub returns-in-Written : goal.returns-in-Written
returns-in-Written g c =
    rows_whole c.args.office.now c.tables.result.now
    (seen (g.O.Sink.written c.args.out.now) (g.O.Sink.faults c.args.out.now)) (seen (g.O.Sink.written c.put_openings.new.out) (g.O.Sink.faults c.put_openings.new.out))
    c.tables.ensures c.requires c.in-Written.ensures.ends

pub returns-in-SinkFailed : goal.returns-in-SinkFailed
returns-in-SinkFailed g c = (
  c.in-SinkFailed.ensures.ends.0,
  rows_part c.args.office.now c.tables.result.now
      (seen (g.O.Sink.written c.args.out.now) (g.O.Sink.faults c.args.out.now)) (seen (g.O.Sink.written c.put_openings.new.out) (g.O.Sink.faults c.put_openings.new.out))
      c.tables.ensures c.requires c.in-SinkFailed.ensures.ends.1,
)

pub returns-in-NoMemory : goal.returns-in-NoMemory
returns-in-NoMemory g c =
    inr (rows_part c.args.office.now c.tables.result.now
    (seen (g.O.Sink.written c.args.out.now) (g.O.Sink.faults c.args.out.now)) (seen (g.O.Sink.written c.put_openings.new.out) (g.O.Sink.faults c.put_openings.new.out))
    c.tables.ensures c.requires c.in-NoMemory.ensures.ends)
