use Rattle.std.proofs.Common.{◌≡◌, ℕ, ◌+◌, ◌<◌, false, slice_index_or, None}
use Rattle.sg_ledger.specs.inside.Tables.{shows_another}
use Rattle.sg_ledger.proofs.codes.Codes.are_against.Given as goal

abbrev pub invariant-loop-at : goal.invariant-loop-at
invariant-loop-at l = (k : ℕ) → k < l.at → shows_another l.column l.code k (slice_index_or l.self.known (l.first + k) None) ≡ false
