-- Bytes that are no line have no form, and are no line `next`.
use Rattle.sg_driver.proofs.Forms.{no_form}
use Rattle.sg_reports.proofs.Counties.Judging.{no_next}
use Rattle.sg_reports.proofs.county.counter.CounterJudge.end_at_no_line.Goals as goal

pub returns-clause-all : goal.returns-clause-all
returns-clause-all c = λ lines more text stands none. c.end_at_no_line.ensures.all lines more text stands.0 (no_form text none) (no_next text none)
