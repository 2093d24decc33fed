-- How the judge goes on behind a line, and what is so where memory was wanted.
use Rattle.sg_reports.proofs.Courts.Taking.{judge_goes, on_err, taken_unsettled}
use Rattle.sg_reports.proofs.court.judges.CourtJudgeJudge.line.Goals as goal

pub returns-clause-goes : goal.returns-clause-goes
returns-clause-goes g c = judge_goes g.A.Asks.question c.args.self.now.hearing.taken c.line.new.self.taken c.args.line.now c.line.result c.line.ensures.goes

pub returns-clause-wants : goal.returns-clause-wants
returns-clause-wants g c = on_err _ c.line.result (λ lines stands. taken_unsettled c.args.self.now.hearing.taken lines stands)
