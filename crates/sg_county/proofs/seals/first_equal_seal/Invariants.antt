use Rattle.std.proofs.Common.{◌≡◌, ◌+◌, drop}
use Rattle.sg_county.proofs.seals.first_equal_seal.Given as goal
use Rattle.sg_county.specs.County.{first_equal}

abbrev pub invariant-loop-at : goal.invariant-loop-at
invariant-loop-at l = first_equal l.seal (l.at + 1) (drop l.at l.seals) ≡ first_equal l.seal 1 l.seals
