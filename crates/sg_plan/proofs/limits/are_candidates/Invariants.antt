use Rattle.std.proofs.Common.{◌≡◌, [], take, drop}
use Rattle.sg_plan.specs.Limits.{each_keeps}
use Rattle.sg_plan.specs.Names.{name_keeps}
use Rattle.sg_plan.proofs.limits.are_candidates.Given as goal

abbrev pub invariant-loop-at : goal.invariant-loop-at
invariant-loop-at l = each_keeps name_keeps (take l.at l.names) (drop l.at l.names) ≡ each_keeps name_keeps [] l.names
