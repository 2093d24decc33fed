-- The lines so far were counted, and each has a byte.
use Rattle.std.proofs.Common.{◌≡◌, ◌+◌, ◌-◌, ◌≤◌, length, drop}
use Rattle.sg_outside.specs.TextLines.{lines_of}
use Rattle.sg_sample.proofs.counts.count_all.Given as goal

abbrev pub invariant-loop-at : goal.invariant-loop-at
invariant-loop-at l = (l.at ≤ length l.text) × (l.count ≤ l.at) × (l.count + length (lines_of (drop l.at l.text)) ≡ length (lines_of l.text))

abbrev pub decreases-loop-at : goal.decreases-loop-at
decreases-loop-at l = length l.text - l.at
