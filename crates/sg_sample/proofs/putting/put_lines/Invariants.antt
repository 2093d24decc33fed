-- The lines so far were appended.
use Rattle.std.proofs.Common.{◌-◌, ◌≤◌, length, drop}
use Rattle.sg_sample.proofs.Puts.{HasPut}
use Rattle.sg_sample.proofs.putting.put_lines.Given as goal

abbrev pub invariant-loop-at : goal.invariant-loop-at
invariant-loop-at g l =
    HasPut (g.O.Sink.written l.fn.out) (g.O.Sink.written l.out) (drop l.at l.text) l.text
    × (l.at ≤ length l.text) × (g.O.Sink.faults l.fn.out ≤ g.O.Sink.faults l.out)

abbrev pub decreases-loop-at : goal.decreases-loop-at
decreases-loop-at g l = length l.text - l.at
