use Rattle.std.proofs.Common.{◌≡◌, ◌≤◌, length, take}
use Rattle.sg_ledger.proofs.totals.cut.Given as goal

abbrev pub invariant-loop-left : goal.invariant-loop-left
invariant-loop-left l = record {
  long : l.count ≤ length l.left;
  front : take l.count l.left ≡ take l.fn.count l.fn.places;
  count_is : l.count ≡ l.fn.count;
}

abbrev pub decreases-loop-left : goal.decreases-loop-left
decreases-loop-left l = length l.left
