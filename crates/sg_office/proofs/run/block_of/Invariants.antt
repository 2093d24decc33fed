use Rattle.std.proofs.Common.{◌≡◌, ◌≤◌, None, length, drop}
use Rattle.sg_office.specs.inside.Runs.{flat, text_of}
use Rattle.sg_office.proofs.run.block_of.Given as goal

abbrev pub invariant-back : goal.invariant-back
invariant-back l = (l.at ≤ length l.fn.blocks) × (text_of l.fn.number (flat (drop l.at l.fn.blocks)) ≡ None)

abbrev pub decreases-back : goal.decreases-back
decreases-back l = l.at
