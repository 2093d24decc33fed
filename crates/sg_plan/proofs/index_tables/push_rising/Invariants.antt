use Rattle.std.proofs.Common.{◌≡◌, ◌+◌, ◌-◌, ◌++◌}
use Rattle.std.specs.List.{range_with_len}
use Rattle.sg_plan.proofs.index_tables.push_rising.Given as goal

abbrev pub invariant-loop-at : goal.invariant-loop-at
invariant-loop-at l = l.numbers ++ range_with_len (l.first + l.at) (l.count - l.at) ≡ l.fn.numbers ++ range_with_len l.first l.count
