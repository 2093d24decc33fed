-- Bytes that are no line have no form.
use Rattle.sg_driver.proofs.Forms.{no_form}
use Rattle.sg_reports.proofs.audit.auditor.AuditorJudge.end_at_no_line.Goals as goal

pub returns-clause-all : goal.returns-clause-all
returns-clause-all c = λ lines more text stands none. c.end_at_no_line.ensures.all lines more text stands.0 (no_form text none)
