-- The verdict on the record where the next bytes are no line.
use Rattle.std.proofs.Common.{List, ℕ, ◌∷◌, ◌++◌, arith, codes, refl, sym, subst, ap, ◌∙◌}
use Rattle.sg_check.specs.declared.judged.Judged.TheVariants.{No}
use Rattle.sg_driver.proofs.Forms.{no_form, no_word}
use Rattle.sg_fronts.proofs.ByRecords.{verdicts_say}
use Rattle.sg_fronts.specs.ByRecords.{Says}
use Rattle.sg_parts.specs.Faults.{record_lines}
use Rattle.sg_reports.proofs.Courts.Words.{record_false}
use Rattle.sg_reports.proofs.court.record.RecordTaken.end_at_no_line.Goals as goal

pub returns-clause-has : goal.returns-clause-has
returns-clause-has c = λ lines more text is none.
    let other = no_word text (codes "printing\n") none (omega arith) (λ unfed. unfed.1.1.1.1.1.1.1.1.0 refl) in
    subst (Says (No c.in-No.line c.in-No.kind)) (sym (is.wordless.before (text ∷ more) ∙ ap (λ (l : List (List ℕ)). lines ++ l) (record_false text more other)))
    ((verdicts_say (lines ++ text ∷ record_lines more) (No c.in-No.line c.in-No.kind)).0 (c.in-No.ensures.all lines (record_lines more) text is.stands (no_form text none)))
