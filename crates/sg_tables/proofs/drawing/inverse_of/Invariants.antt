use Rattle.std.proofs.Common.{◌≡◌, ◌<◌, ℕ, length, slice_index}
use Rattle.sg_tables.proofs.drawing.inverse_of.Given as goal

abbrev pub invariant-loop-at : goal.invariant-loop-at
invariant-loop-at l = record {
  long : length l.places ≡ 16;
  written : (k : ℕ) → k < l.at → slice_index l.places (slice_index l.order k) ≡ k;
}
