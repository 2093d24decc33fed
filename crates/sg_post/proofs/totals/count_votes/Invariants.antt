use Rattle.std.proofs.Common.{◌≡◌}
use Rattle.sg_post.specs.inside.Making.{votes_by}
use Rattle.sg_post.proofs.totals.count_votes.Given as goal

abbrev pub invariant-loop-place : goal.invariant-loop-place
invariant-loop-place l = l.totals ≡ votes_by l.places l.candidates l.place
