use Rattle.std.proofs.Common.{◌≡◌, ◌++◌, length, reverse}
use Rattle.sg_office.proofs.done_list.reversed.Given as goal

abbrev pub invariant-rows : goal.invariant-rows
invariant-rows l = l.turned ++ reverse l.rows ≡ reverse l.fn.rows

abbrev pub decreases-rows : goal.decreases-rows
decreases-rows l = length l.rows
