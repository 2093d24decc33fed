-- The least is that of the instances so far.
use Rattle.std.proofs.Common.{◌≡◌}
use Rattle.sg_odds.specs.inside.Gaps.{least_in}
use Rattle.sg_odds.proofs.gaps.least_gap.Given as goal

abbrev pub invariant-loop-instance : goal.invariant-loop-instance
invariant-loop-instance l = l.least ≡ least_in l.posted.totals l.led l.race l.instance l.candidate
