use Rattle.std.proofs.Common.{◌≡◌, ℕ, List, take}
use Rattle.sg_histories.specs.ValidRows.{count_told}
use Rattle.sg_open.specs.inside.Counts.{left_of}
use Rattle.sg_open.proofs.counts.count_all.Given as goal

abbrev pub invariant-loop-at : goal.invariant-loop-at
invariant-loop-at l = (text : List ℕ) → left_of l.counts text ≡ count_told text (take l.at l.told)
