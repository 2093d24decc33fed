-- The line is read from its one spelling.
use Rattle.std.proofs.Common.{◌≡◌, Some, None, sym, ap, ◌∙◌}
use Rattle.std.specs.Option.{option_map}
use Rattle.sg_forms.specs.Said.{said}
use Rattle.sg_forms.specs.Said.Said.{Row}
use Rattle.sg_forms.specs.declared.line.Line.{Line}
use Rattle.sg_forms.specs.declared.line.RowOpening.{RowOpening}
use Rattle.sg_parts.proofs.rows.read_opening.Goals as goal

same_row : (a b : RowOpening) → Some (Row a) ≡ Some (Row b) → a ≡ b
same_row a b e = cc

no_row : (b : RowOpening) → None ≡ Some (Row b) → None ≡ Some b
no_row b e = cc

pub returns-in-Some-Row-clause-only : goal.returns-in-Some-Row-clause-only
returns-in-Some-Row-clause-only c = λ opening is e.
    let found : Some (said c.in-Some-Row.field-0) ≡ Some (Row opening) = c.in-Some-Row.ensures.only (Row opening) is e in
    ap (λ (o : RowOpening). Some o) (same_row c.in-Some-Row.opening opening (sym (ap (λ (l : Line). Some (said l)) c.in-Some-Row.field-0-is) ∙ found))

pub returns-in_default-2-clause-only : goal.returns-in_default-2-clause-only
returns-in_default-2-clause-only c = λ opening is e.
    no_row opening (sym (ap (option_map said) c.in_default.is) ∙ c.read_form.ensures.only (Row opening) is e)
