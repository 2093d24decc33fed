-- The verdict is told.
use Rattle.sg_outside.specs.TextLines.{lines_of}
use Rattle.sg_page.proofs.Telling.{told}
use Rattle.std.proofs.Common.{take}
use Rattle.sg_page.proofs.audit.page_audit.Goals as goal

pub returns-in-Ok-clause-verdict : goal.returns-in-Ok-clause-verdict
returns-in-Ok-clause-verdict c small =
    told (lines_of c.args.text.now) c.in-Ok.judged c.tell.result (take c.tell.new.written c.tell.new.report) c.in-Ok.ensures.verdict (c.tell.ensures.status small) (c.tell.ensures.text small)
