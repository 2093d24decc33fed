-- The invariant of the loop of `read_head`.
use Rattle.std.proofs.Common.{◌≡◌, ◌-◌, drop, length}
use Rattle.sg_outside.specs.TextLines.{lines_of}
use Rattle.sg_keeper.specs.inside.SetupReading.{no_line, read_plan}
use Rattle.sg_keeper.specs.inside.PlanLines.{making_of}
use Rattle.sg_keeper.proofs.setup_reading.read_head.Given as goal

-- what is left to read behind the lines so far gives what all lines give
abbrev pub invariant-loop-end : goal.invariant-loop-end
invariant-loop-end l = read_plan (making_of l.expect) (lines_of (drop l.end l.text)) ≡ read_plan no_line (lines_of l.text)

abbrev pub decreases-loop-end : goal.decreases-loop-end
decreases-loop-end l = length l.text - l.end
