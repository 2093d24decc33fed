use Rattle.std.proofs.Common.{◌≡◌, ℕ, ◌+◌, ◌<◌, ◌&&◌, false, slice_index_or, None}
use Rattle.sg_check.specs.Kinds.{is_there}
use Rattle.sg_ledger.proofs.codes.Codes.is_posted.Given as goal

abbrev pub invariant-loop-at : goal.invariant-loop-at
invariant-loop-at l = (k : ℕ) → k < l.at → (slice_index_or l.self.marked (l.first + k) false && is_there (slice_index_or l.self.known (l.first + k) None) l.code) ≡ false
