-- Those so far are of their types.
use Rattle.std.proofs.Common.{All, take}
use Rattle.sg_record.proofs.typed.know_each.Given as goal

abbrev pub invariant-loop-at : goal.invariant-loop-at
invariant-loop-at g l = All g.T.Known.known (take l.at l.items)
