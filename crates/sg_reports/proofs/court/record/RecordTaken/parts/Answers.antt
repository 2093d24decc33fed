-- What stands behind a record, by its verdict.
use Rattle.std.proofs.Common.{sym, subst}
use Rattle.sg_check.specs.declared.judged.Judged.TheVariants.{No}
use Rattle.sg_fronts.proofs.ByRecords.{verdicts_say}
use Rattle.sg_fronts.specs.ByRecords.{Says}
use Rattle.sg_parts.proofs.Accepting.{yes_accepts}
use Rattle.sg_reports.proofs.court.record.RecordTaken.parts.Goals as goal

pub start-requires : goal.start-requires
start-requires c =
    let lines = c.requires.0 in
    let is = c.requires.1 in
    (lines, is.reads, yes_accepts lines c.in-Yes.totals (c.in-Yes.ensures.all lines is.stands), is.count)

pub returns-in-Ok-clause-parts : goal.returns-in-Ok-clause-parts
returns-in-Ok-clause-parts c = λ lines all is printing.
    c.in-Ok.ensures lines all is.reads (yes_accepts lines c.in-Yes.totals (c.in-Yes.ensures.all lines is.stands)) is.count printing.before printing.behind

pub returns-in-No-clause-fault : goal.returns-in-No-clause-fault
returns-in-No-clause-fault c = λ known lines all more is printing.
    subst (Says (No c.in-No.line c.in-No.kind)) (sym printing.before) ((verdicts_say lines (No c.in-No.line c.in-No.kind)).0 (c.in-No.ensures.all lines is.stands))
