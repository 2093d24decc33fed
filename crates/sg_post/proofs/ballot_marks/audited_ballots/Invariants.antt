use Rattle.std.proofs.Common.{◌≡◌, ◌+◌, map, take}
use Rattle.sg_plan.specs.Ballots.{ballots_of}
use Rattle.sg_streams.specs.Numbers.{numbers_below}
use Rattle.sg_post.specs.Posting.{is_audited_ballot}
use Rattle.sg_post.proofs.ballot_marks.audited_ballots.Given as goal

abbrev pub invariant-loop-at : goal.invariant-loop-at
invariant-loop-at l = l.bits ≡ map (is_audited_ballot (take l.at l.fates)) (numbers_below (ballots_of l.fn.index + 1))
