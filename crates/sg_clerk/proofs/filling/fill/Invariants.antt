-- The bytes read so far stand at the front of the buffer.
use Rattle.std.proofs.Common.{length, ◌-◌, ◌≡◌, ◌≤◌, take}
use Rattle.std.specs.Io.KnownBytes.{Consumes}
use Rattle.sg_clerk.proofs.filling.fill.Given as goal

abbrev pub invariant-loop-end : goal.invariant-loop-end
invariant-loop-end g l = record {
  high : l.end ≤ length l.buf;
  same : length l.buf ≡ length l.fn.buf;
  came : Consumes (g.S.Source.left l.fn.source) (g.S.Source.left l.source) (take l.end l.buf);
  later : g.S.Source.faults l.fn.source ≤ g.S.Source.faults l.source;
}

abbrev pub decreases-loop-end : goal.decreases-loop-end
decreases-loop-end g l = length l.initial.buf - l.end
