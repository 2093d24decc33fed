-- The bytes read so far stand at the front of the buffer, and have no line feed.
use Rattle.std.proofs.Common.{length, ◌-◌, ◌≡◌, ◌≤◌, take}
use Rattle.std.specs.Io.KnownBytes.{Consumes, prepend_known}
use Rattle.sg_outside.specs.TextLines.{HasNoFeed}
use Rattle.sg_outside.proofs.cutter.read_line.Given as goal

abbrev pub invariant-loop-end : goal.invariant-loop-end
invariant-loop-end g l = record {
  low : l.fn.held ≤ l.end;
  high : l.end ≤ length l.buf;
  same : length l.buf ≡ length l.fn.buf;
  none : HasNoFeed (take l.end l.buf);
  came : Consumes (prepend_known (take l.fn.held l.fn.buf) (g.S.Source.left l.fn.source)) (g.S.Source.left l.source) (take l.end l.buf);
  full : l.fn.held ≡ length l.fn.buf → l.source ≡ l.fn.source;
  later : g.S.Source.faults l.fn.source ≤ g.S.Source.faults l.source;
}

abbrev pub decreases-loop-end : goal.decreases-loop-end
decreases-loop-end g l = length l.initial.buf - l.end
