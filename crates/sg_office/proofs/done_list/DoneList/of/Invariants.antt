use Rattle.std.proofs.Common.{◌≡◌, ◌++◌, length, reverse}
use Rattle.sg_office.proofs.done_list.DoneList.of.Given as goal

abbrev pub invariant-rows : goal.invariant-rows
invariant-rows l = l.dones ++ reverse l.rest ≡ l.fn.rows

abbrev pub decreases-rows : goal.decreases-rows
decreases-rows l = length l.rest
