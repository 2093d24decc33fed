use Rattle.std.proofs.Common.{◌≡◌, replicate}
use Rattle.sg_plan.specs.declared.plan.Fate.TheVariants as fate
use Rattle.sg_open.proofs.slots.unused_slots.Given as goal

abbrev pub invariant-loop-at : goal.invariant-loop-at
invariant-loop-at l = l.slots ≡ replicate l._at (record { fate = fate.Unused; station = 0 })
