-- The office stands for the history behind the acts of the ballots so far.
use Rattle.std.proofs.Common.{◌≡◌}
use Rattle.sg_sample.specs.inside.Voting.{IsVoted}
use Rattle.sg_sample.proofs.asking.vote.Given as goal

abbrev pub invariant-loop-before : goal.invariant-loop-before
invariant-loop-before l = IsVoted l.office l.number l.before l.ballots × (l.office.setup ≡ l.fn.office.setup)
