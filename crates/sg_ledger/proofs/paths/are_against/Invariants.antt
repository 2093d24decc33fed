use Rattle.std.proofs.Common.{◌≡◌, ℕ, ◌+◌, ◌<◌, false, slice_index_or, None}
use Rattle.sg_ledger.specs.inside.Tables.{leads_another}
use Rattle.sg_ledger.proofs.paths.are_against.Given as goal

abbrev pub invariant-loop-column : goal.invariant-loop-column
invariant-loop-column l = (k : ℕ) → k < l.column → leads_another l.candidates l.entry l.place (l.first + k) (slice_index_or l.paths (l.at + k) None) ≡ false
