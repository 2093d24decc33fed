-- The whole input was read, where it is no longer than it may be.
use Rattle.std.proofs.Common.{arith, take, length, ◌<◌}
use Rattle.sg_outside.specs.Streams.{seen}
use Rattle.sg_clerk.proofs.ScanFiles.ScanEnds.{scans_read}
use Rattle.sg_clerk.proofs.scans.reading.read_scans_into.Goals as goal

pub returns-clause-reads : goal.returns-clause-reads
returns-clause-reads g c =
    let short : c.in-Ok.count < length c.fill.new.buf = omega (arith, c.in-Ok.ensures.same, c.requires) in
    scans_read c.scans_in.result (seen (g.S.Source.left c.args.input.now) (g.S.Source.faults c.args.input.now))
    (seen (g.S.Source.left c.fill.new.source) (g.S.Source.faults c.fill.new.source)) (take c.in-Ok.count c.fill.new.buf)
    c.in-Ok.ensures.taken (c.in-Ok.ensures.ended short) c.scans_in.ensures
