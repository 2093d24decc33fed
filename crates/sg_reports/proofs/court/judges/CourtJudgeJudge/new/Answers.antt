-- No lines settle nothing.
use Rattle.sg_reports.proofs.Courts.Taking.{none_unsettled}
use Rattle.sg_reports.proofs.court.judges.CourtJudgeJudge.new.Goals as goal

pub returns-in_err-hearing-clause-unsettled : goal.returns-in_err-hearing-clause-unsettled
returns-in_err-hearing-clause-unsettled g c = none_unsettled

pub returns-in_err-hearing-clause-wants : goal.returns-in_err-hearing-clause-wants
returns-in_err-hearing-clause-wants g c = none_unsettled

pub returns-clause-unsettled : goal.returns-clause-unsettled
returns-clause-unsettled g c = none_unsettled

pub returns-clause-wants : goal.returns-clause-wants
returns-clause-wants g c = none_unsettled
