use Rattle.std.proofs.Common.{◌≡◌, ◌++◌, drop, length, map, take}
use Rattle.sg_county.proofs.sums.add_votes.Given as goal
use Rattle.sg_county.specs.inside.Keeping.{Fit, with_votes}

abbrev pub invariant-loop-at : goal.invariant-loop-at
invariant-loop-at l = record {
  len : length l.sums ≡ length l.fn.sums;
  done : take l.at l.sums ++ map (with_votes l.totals) (drop l.at l.sums) ≡ map (with_votes l.totals) l.fn.sums;
  fit : Fit l.totals (drop l.at l.sums);
}
