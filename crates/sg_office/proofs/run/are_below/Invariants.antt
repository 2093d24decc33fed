use Rattle.std.proofs.Common.{◌≡◌, ◌≤◌, [], length, drop}
use Rattle.sg_office.specs.inside.Runs.{flat}
use Rattle.sg_office.proofs.run.are_below.Given as goal

abbrev pub invariant-back : goal.invariant-back
invariant-back l = (l.at ≤ length l.fn.blocks) × (flat (drop l.at l.fn.blocks) ≡ [])

abbrev pub decreases-back : goal.decreases-back
decreases-back l = l.at
