-- What is so where memory was wanted.
use Rattle.sg_reports.proofs.Courts.Taking.{on_err, taken_unsettled}
use Rattle.sg_reports.proofs.court.judges.CourtJudgeJudge.end.Goals as goal

pub returns-clause-wants : goal.returns-clause-wants
returns-clause-wants g c = on_err _ c.end.result (λ lines stands. taken_unsettled c.args.self.hearing.taken lines stands)
