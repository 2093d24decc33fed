-- What is so where memory was wanted.
use Rattle.sg_reports.proofs.Courts.Taking.{on_err, taken_unsettled}
use Rattle.sg_reports.proofs.court.judges.CourtJudgeJudge.end_at_no_line.Goals as goal

pub returns-in_err-fault-clause-wants : goal.returns-in_err-fault-clause-wants
returns-in_err-fault-clause-wants g c = on_err _ c.from_residual.result (λ lines stands. taken_unsettled c.args.self.hearing.taken lines stands)
