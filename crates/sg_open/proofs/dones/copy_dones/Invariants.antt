use Rattle.std.proofs.Common.{◌≡◌, take}
use Rattle.sg_open.proofs.dones.copy_dones.Given as goal

abbrev pub invariant-loop-at : goal.invariant-loop-at
invariant-loop-at l = l.copy ≡ take l.at l.rows
