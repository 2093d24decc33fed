-- The law is proved as a lemma.
use Rattle.sg_accepted.proofs.Votes.{totals_are_votes}
use Rattle.sg_accepted.proofs.laws.votes_law.Goals as goal

pub returns : goal.returns
returns c = totals_are_votes
