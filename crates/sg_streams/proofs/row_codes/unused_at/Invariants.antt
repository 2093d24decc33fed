use Rattle.std.proofs.Common.{◌+◌, ◌-◌, ◌≤◌, length, count_by, nat_lt}
use Rattle.sg_streams.proofs.row_codes.unused_at.Given as goal

-- the code is not pushed too far
abbrev pub invariant-loop-code : goal.invariant-loop-code
invariant-loop-code l = l.code ≤ l.draw + count_by (λ u. nat_lt u l.code) l.used

abbrev pub decreases-loop-code : goal.decreases-loop-code
decreases-loop-code l = l.draw + length l.used - l.code
