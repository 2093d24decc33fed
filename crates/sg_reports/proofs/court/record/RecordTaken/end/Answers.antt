-- The verdict on the record where there are no more lines.
use Rattle.std.proofs.Common.{arith, sym, subst}
use Rattle.sg_check.specs.declared.judged.Judged.TheVariants.{No}
use Rattle.sg_fronts.proofs.ByRecords.{verdicts_say}
use Rattle.sg_fronts.specs.ByRecords.{Says}
use Rattle.sg_parts.proofs.Accepting.{yes_accepts}
use Rattle.sg_reports.proofs.Courts.Taking.{fine_few}
use Rattle.sg_reports.proofs.Courts.Words.{all_before, none_behind}
use Rattle.sg_reports.proofs.court.record.RecordTaken.end.Goals as goal

pub missing_printing-requires : goal.missing_printing-requires
missing_printing-requires c = omega (arith, c.requires.1.count, fine_few c.requires.0 c.requires.1.fine)

pub returns-in-Yes-clause-has : goal.returns-in-Yes-clause-has
returns-in-Yes-clause-has c = λ lines is.
    c.missing_printing.ensures.has lines (yes_accepts lines c.in-Yes.totals (c.in-Yes.ensures.all lines is.stands)) (all_before lines is.wordless) (none_behind lines is.wordless) is.count

pub returns-in-No-clause-has : goal.returns-in-No-clause-has
returns-in-No-clause-has c = λ lines is.
    subst (Says (No c.in-No.line c.in-No.kind)) (sym (all_before lines is.wordless)) ((verdicts_say lines (No c.in-No.line c.in-No.kind)).0 (c.in-No.ensures.all lines is.stands))
