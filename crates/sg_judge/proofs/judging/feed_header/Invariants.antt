-- The pass was fed the lines so far, of which none is behind those of the plan.
use Rattle.std.proofs.Common.{◌≡◌, ◌-◌, false, length}
use Rattle.sg_judge.specs.Pass.{is_ready}
use Rattle.sg_judge.specs.inside.Feeding.{IsFed}
use Rattle.sg_judge.proofs.judging.feed_header.Given as goal

abbrev pub invariant-loop-at : goal.invariant-loop-at
invariant-loop-at l = IsFed l.pass l.text l.at × (is_ready l.pass ≡ false)

abbrev pub decreases-loop-at : goal.decreases-loop-at
decreases-loop-at l = length l.text - l.at
