use Rattle.std.proofs.Common.{arith}
use Rattle.sg_plan.proofs.PlanLaws.{bounds}
use Rattle.sg_plan.proofs.ballot_index.BallotIndex.ballots.Goals as goal

pub ballots-requires-clause-few : goal.ballots-requires-clause-few
ballots-requires-clause-few c = omega (arith, (bounds c.self.inside.plan c.self.invariant.good).few_ballots)
