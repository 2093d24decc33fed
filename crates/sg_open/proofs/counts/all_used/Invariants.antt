use Rattle.std.proofs.Common.{◌≡◌, drop}
use Rattle.sg_open.specs.inside.Counts.{all_used}
use Rattle.sg_open.proofs.counts.all_used.Given as goal

abbrev pub invariant-loop-at : goal.invariant-loop-at
invariant-loop-at l = all_used l.counts (drop l.at l.told) ≡ all_used l.counts l.told
