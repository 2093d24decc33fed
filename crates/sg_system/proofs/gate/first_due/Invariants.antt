-- Of those looked at none is due.
use Rattle.std.proofs.Common.{◌≡◌, drop}
use Rattle.std.specs.Time.{instant_nanos}
use Rattle.sg_system.specs.Waits.{first_due}
use Rattle.sg_system.proofs.gate.first_due.Given as goal

abbrev pub invariant-loop-at : goal.invariant-loop-at
invariant-loop-at l = first_due l.at l.watch.asked.items (instant_nanos l.now) (drop l.at l.waiting) ≡ first_due 0 l.watch.asked.items (instant_nanos l.now) l.waiting
