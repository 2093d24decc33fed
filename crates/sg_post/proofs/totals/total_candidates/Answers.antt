-- At first no candidate has a vote.
use Rattle.std.proofs.Common.{◌∙◌}
use Rattle.sg_post.proofs.Made.{votes-none}
use Rattle.sg_post.proofs.totals.total_candidates.Goals as goal

pub count_votes-requires-clause-none : goal.count_votes-requires-clause-none
count_votes-requires-clause-none c = c.in_ok-totals.ensures ∙ votes-none c.args.places.now c.args.candidates
