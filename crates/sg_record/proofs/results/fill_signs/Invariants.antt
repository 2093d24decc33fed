-- What is put in so far.
use Rattle.std.proofs.Common.{◌≡◌, ◌≤◌, length, map, take}
use Rattle.sg_record.specs.Tree.{bit_sign}
use Rattle.sg_record.proofs.results.fill_signs.Given as goal

abbrev pub invariant-loop-at : goal.invariant-loop-at
invariant-loop-at l = record {
  room : length l.bits ≤ length l.signs;
  signs : take l.at l.signs ≡ map bit_sign (take l.at l.bits);
}
