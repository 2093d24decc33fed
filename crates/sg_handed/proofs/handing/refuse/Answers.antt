-- A front of the line that is due was written.
use Rattle.sg_outside.specs.Streams.{seen}
use Rattle.sg_handed.proofs.Ends.{line_part}
use Rattle.sg_handed.proofs.handing.refuse.Goals as goal

pub returns-in-Err : goal.returns-in-Err
returns-in-Err g c = (
  c.in-Err.ensures.cause.failed,
  line_part c.args.office.now
      (seen (g.O.Sink.written c.args.out.now) (g.O.Sink.faults c.args.out.now)) (seen (g.O.Sink.written c.put_undrawn.new.out) (g.O.Sink.faults c.put_undrawn.new.out))
      c.requires c.in-Err.ensures.bytes,
)
