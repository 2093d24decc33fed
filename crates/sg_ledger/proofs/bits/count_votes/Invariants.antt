use Rattle.std.proofs.Common.{◌≡◌, ◌+◌, drop, length}
use Rattle.sg_ledger.specs.inside.Tables.{with_votes}
use Rattle.sg_ledger.proofs.bits.count_votes.Given as goal

abbrev pub invariant-loop-place : goal.invariant-loop-place
invariant-loop-place l = record {
  len : length l.votes ≡ length l.fn.votes;
  counted : with_votes l.candidates l.first l.votes (l.from + l.place) (drop l.place l.bits) ≡ with_votes l.candidates l.first l.fn.votes l.from l.bits;
}
