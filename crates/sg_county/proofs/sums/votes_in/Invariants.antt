use Rattle.std.proofs.Common.{◌≡◌, drop}
use Rattle.sg_county.proofs.sums.votes_in.Given as goal
use Rattle.sg_county.specs.County.{votes_in}

abbrev pub invariant-loop-at : goal.invariant-loop-at
invariant-loop-at l = votes_in l.race l.candidate (drop l.at l.totals) ≡ votes_in l.race l.candidate l.totals
