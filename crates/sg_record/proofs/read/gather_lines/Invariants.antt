-- How far the walk has come.
use Rattle.std.proofs.Common.{◌≡◌, ◌-◌, drop, length}
use Rattle.sg_outside.specs.TextLines.{lines_of}
use Rattle.sg_record.proofs.read.gather_lines.Given as goal
use Rattle.sg_record.specs.inside.Gathering.{gather, nothing_yet}
use Rattle.sg_record.specs.inside.Growing.{so_far}

-- what is left to gather behind the lines so far gives what all lines give
abbrev pub invariant-loop-start : goal.invariant-loop-start
invariant-loop-start l = gather (so_far l.reading) (lines_of (drop l.start l.bytes)) ≡ gather nothing_yet (lines_of l.bytes)

abbrev pub decreases-loop-start : goal.decreases-loop-start
decreases-loop-start l = length l.bytes - l.start
