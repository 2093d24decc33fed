-- The office has accepted nothing at first.
use Rattle.std.proofs.Common.{◌∙◌}
use Rattle.sg_sample.proofs.Votes.{voted_nothing}
use Rattle.sg_sample.proofs.asking.sample_office.Goals as goal

pub asked-requires-clause-voted : goal.asked-requires-clause-voted
asked-requires-clause-voted c =
    voted_nothing c.in_ok-office.office c.args.sample.seed c.args.sample.ballots (c.in_ok-office.ensures.setup ∙ c.in_ok-setup.ensures.is) c.in_ok-office.ensures.stands
