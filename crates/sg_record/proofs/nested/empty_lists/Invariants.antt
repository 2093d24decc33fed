-- What is put in so far.
use Rattle.std.proofs.Common.{◌≡◌, [], replicate}
use Rattle.sg_record.proofs.nested.empty_lists.Given as goal

abbrev pub invariant-loop-at : goal.invariant-loop-at
invariant-loop-at g l = l.lists ≡ replicate l._at []
