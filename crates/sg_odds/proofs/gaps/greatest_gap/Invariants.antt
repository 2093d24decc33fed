-- The greatest is that of the candidates so far.
use Rattle.std.proofs.Common.{◌≡◌}
use Rattle.sg_odds.specs.Odds.{greatest_below}
use Rattle.sg_odds.specs.inside.Gaps.{least_in}
use Rattle.sg_odds.proofs.gaps.greatest_gap.Given as goal

abbrev pub invariant-loop-candidate : goal.invariant-loop-candidate
invariant-loop-candidate l = l.greatest ≡ greatest_below (least_in l.posted.totals l.led l.race l.posted.plan.instances) l.candidate
