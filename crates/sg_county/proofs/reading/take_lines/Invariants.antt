use Rattle.std.proofs.Common.{◌-◌, length}
use Rattle.sg_county.proofs.TextRead.{HasRead}
use Rattle.sg_county.proofs.reading.take_lines.Given as goal

abbrev pub invariant-loop-start : goal.invariant-loop-start
invariant-loop-start l = HasRead l.bytes l.tally l.start

abbrev pub decreases-loop-start : goal.decreases-loop-start
decreases-loop-start l = length l.bytes - l.start
