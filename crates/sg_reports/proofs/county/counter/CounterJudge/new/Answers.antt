-- No lines settle nothing.
use Rattle.sg_reports.proofs.Counties.Judging.{none_unsettled}
use Rattle.sg_reports.proofs.county.counter.CounterJudge.new.Goals as goal

pub returns-in_err-tally-clause-unsettled : goal.returns-in_err-tally-clause-unsettled
returns-in_err-tally-clause-unsettled c = none_unsettled

pub returns-in_err-tally-clause-wants : goal.returns-in_err-tally-clause-wants
returns-in_err-tally-clause-wants c = none_unsettled

pub returns-clause-unsettled : goal.returns-clause-unsettled
returns-clause-unsettled c = none_unsettled

pub returns-clause-wants : goal.returns-clause-wants
returns-clause-wants c = none_unsettled

pub returns-clause-stands : goal.returns-clause-stands
returns-clause-stands c = (c.in_ok-tally.ensures.stands, c.in_ok-tally.ensures.open, none_unsettled)
