-- The pass was fed the lines so far.
use Rattle.std.proofs.Common.{◌≡◌, ◌-◌, true, length}
use Rattle.sg_judge.specs.Pass.{is_ready}
use Rattle.sg_judge.specs.inside.Feeding.{IsFed}
use Rattle.sg_judge.proofs.judging.judge_behind.Given as goal

abbrev pub invariant-loop-at : goal.invariant-loop-at
invariant-loop-at l = IsFed l.pass l.text l.at × (is_ready l.pass ≡ true)

abbrev pub decreases-loop-at : goal.decreases-loop-at
decreases-loop-at l = length l.text - l.at
