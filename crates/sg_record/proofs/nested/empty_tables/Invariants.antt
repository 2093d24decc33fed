-- What is put in so far.
use Rattle.std.proofs.Common.{◌≡◌, [], replicate}
use Rattle.sg_record.proofs.nested.empty_tables.Given as goal

abbrev pub invariant-loop-at : goal.invariant-loop-at
invariant-loop-at g l = l.tables ≡ replicate l._at (replicate l.inner [])
