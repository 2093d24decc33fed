use Rattle.sg_plan.proofs.IndexLists.{few_runs_of}
use Rattle.sg_plan.proofs.PlanLaws.{bounds}
use Rattle.sg_plan.proofs.ballot_index.BallotIndex.make.Goals as goal

pub number_runs-requires : goal.number_runs-requires
number_runs-requires c = record { runs = few_runs_of c.args.plan.now c.requires; ballots = (bounds c.args.plan.now c.requires).few_ballots }

pub count_starts-requires : goal.count_starts-requires
count_starts-requires c = (bounds c.args.plan.now c.requires).few_ballots
