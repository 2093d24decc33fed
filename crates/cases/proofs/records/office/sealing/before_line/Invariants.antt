use Rattle.std.proofs.Common.{◌-◌, length}
use Rattle.cases.proofs.records.office.sealing.before_line.Given as goal

abbrev pub invariant-loop-start : goal.invariant-loop-start
invariant-loop-start l = Unit {0}

abbrev pub decreases-loop-start : goal.decreases-loop-start
decreases-loop-start l = length l.text - l.start
