-- The verdict on the record where its last line is bad.
use Rattle.std.proofs.Common.{◌++◌, sym, subst}
use Rattle.sg_check.specs.declared.judged.Judged.TheVariants.{No}
use Rattle.sg_fronts.proofs.ByRecords.{verdicts_say}
use Rattle.sg_fronts.specs.ByRecords.{Says}
use Rattle.sg_parts.specs.Faults.{record_lines}
use Rattle.sg_reports.proofs.court.record.RecordTaken.end_settled.Goals as goal

pub returns-clause-has : goal.returns-clause-has
returns-clause-has c = λ lines more is.
    subst (Says (No c.in-No.line c.in-No.kind)) (sym (is.wordless.before more))
    ((verdicts_say (lines ++ record_lines more) (No c.in-No.line c.in-No.kind)).0 (c.in-No.ensures.over is.broken lines (record_lines more) is.stands))
