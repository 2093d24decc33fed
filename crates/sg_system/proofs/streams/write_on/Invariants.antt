-- No byte was written so far.
use Rattle.std.specs.Io.KnownBytes.{Keeps}
use Rattle.sg_system.proofs.streams.write_on.Given as goal

abbrev pub invariant-loop : goal.invariant-loop
invariant-loop g l = Keeps (g.W.Write.contents l.fn.writer) (g.W.Write.contents l.writer)
