-- Bytes that are no line have no line feed at their front.
use Rattle.sg_driver.proofs.Forms.{no_feed-first}
use Rattle.sg_reports.proofs.court.hearing.parts_fault.Goals as goal

pub returns : goal.returns
returns c = λ lines read more text none. (c.in_ok-fault.ensures.known, c.in_ok-fault.ensures.has lines more text read (no_feed-first text none))
