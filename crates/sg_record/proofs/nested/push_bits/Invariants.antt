-- What is put in so far.
use Rattle.std.proofs.Common.{◌≡◌, ◌++◌, drop}
use Rattle.sg_record.proofs.nested.push_bits.Given as goal
use Rattle.sg_record.specs.inside.Gathering.{bits_of}

abbrev pub invariant-loop-at : goal.invariant-loop-at
invariant-loop-at l = l.bits ++ bits_of (drop l.at l.signs) ≡ l.fn.bits ++ bits_of l.signs
