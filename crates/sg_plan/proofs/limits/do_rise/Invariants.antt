use Rattle.std.proofs.Common.{◌≡◌, drop}
use Rattle.sg_plan.specs.Limits.{rises}
use Rattle.sg_plan.proofs.limits.do_rise.Given as goal

abbrev pub invariant-loop-number : goal.invariant-loop-number
invariant-loop-number l = rises l.least l.end (drop l.number-index l.numbers) ≡ rises 0 l.end l.numbers
