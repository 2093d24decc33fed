-- Where the record of a recount's input ends, and what a line of its completion opens.
use Rattle.std.proofs.Common.{◌≡◌, ℕ, Bool, true, false, cond, List, [], ◌∷◌, ◌++◌, bytes_eq, map, Option, Some, None, refl, sym, ap, ◌∙◌}
use Rattle.std.specs.Prelude.{codes}
use Rattle.std.proofs.lemmas.Slice.Eq.{bytes_eq-Decides}
use Rattle.sg_outside.specs.TextLines.{IsLine}
use Rattle.sg_outside.proofs.LineLemmas.{IsLine-append}
use Rattle.sg_commit.specs.declared.Opening.{Opening}
use Rattle.sg_forms.proofs.LineLaws.{lines_are_read, lines_differ}
use Rattle.sg_forms.specs.Reading.{ballot_form, form_of, line_of, plan_form, result_form}
use Rattle.sg_forms.specs.Said.{Said}
use Rattle.sg_forms.specs.Said.Said.{Row}
use Rattle.sg_forms.specs.Spelling.{IsInRange, IsOpening, spelling}
use Rattle.sg_forms.specs.declared.line.RowOpening.TheVariants as opened
use Rattle.sg_record.proofs.Filling.{AreIn}
use Rattle.sg_record.proofs.TextLaw.{spelled_lines}
use Rattle.sg_parts.specs.Faults.{lines_behind, record_lines}
use Rattle.sg_parts.specs.Given.{IsHalf, completion_line, halves_text, opening_text, printing_line}
use Rattle.sg_cleared.proofs.SheetTexts.{unfed_by}

-- LINES THAT NO RECORD HAS

printing_is_none : (version : ℕ) → line_of version printing_line ≡ None
unfolding line_of form_of ballot_form result_form plan_form
printing_is_none version = refl

none_is_none : (version : ℕ) → line_of version (codes "none\n") ≡ None
unfolding line_of form_of ballot_form result_form plan_form
none_is_none version = refl

-- such a text is no line's
unlike : (version : ℕ) (said : Said) (text : List ℕ) → IsInRange version said → line_of version text ≡ None → spelling version said ≡ text → ⊥
unlike version said text fits none same = no (sym (lines_are_read version said fits) ∙ (ap (line_of version) same ∙ none))
  where
    no : Some said ≡ None → ⊥
    no e = cc

not_printing : (version : ℕ) (said : Said) → IsInRange version said → bytes_eq (spelling version said) printing_line ≡ false
not_printing version said fits = by_test (bytes_eq (spelling version said) printing_line) refl
  where
    by_test : (b : Bool) → bytes_eq (spelling version said) printing_line ≡ b → b ≡ false
    by_test false e = refl
    by_test true e = absurd (unlike version said printing_line fits (printing_is_none version) ((bytes_eq-Decides (spelling version said) printing_line).0 e))

-- WHERE THE RECORD ENDS

pub record_split : (version : ℕ) (lines : List Said) (rest : List (List ℕ)) → AreIn version lines → record_lines (map (spelling version) lines ++ printing_line ∷ rest) ≡ map (spelling version) lines
record_split version [] rest all = refl
record_split version (said ∷ lines) rest all =
    ap (λ (b : Bool). cond b [] (spelling version said ∷ record_lines (map (spelling version) lines ++ printing_line ∷ rest))) (not_printing version said all.0)
    ∙ ap (λ (l : List (List ℕ)). spelling version said ∷ l) (record_split version lines rest all.1)

pub behind_split : (version : ℕ) (lines : List Said) (rest : List (List ℕ)) → AreIn version lines → lines_behind (map (spelling version) lines ++ printing_line ∷ rest) ≡ printing_line ∷ rest
behind_split version [] rest all = refl
behind_split version (said ∷ lines) rest all =
    ap (λ (b : Bool). cond b (spelling version said ∷ (map (spelling version) lines ++ printing_line ∷ rest)) (lines_behind (map (spelling version) lines ++ printing_line ∷ rest))) (not_printing version said all.0)
    ∙ behind_split version lines rest all.1

pub printing_is_line : IsLine printing_line
printing_is_line = IsLine-append (codes "printing") (10 ∷ []) (unfed_by (codes "printing") refl) refl

pub completion_is_line : IsLine completion_line
completion_is_line = IsLine-append (codes "completion") (10 ∷ []) (unfed_by (codes "completion") refl) refl

-- A LINE OF A COMPLETION

-- it is a line
pub half_is_line : (left right : Option Opening) → IsHalf left → IsHalf right → IsLine (halves_text left right)
half_is_line (Some l) (Some r) a b = (spelled_lines 1 (Row (opened.Both l r) ∷ []) ((a, b), tt)).0
half_is_line (Some l) None a b = (spelled_lines 1 (Row (opened.Left l) ∷ []) (a, tt)).0
half_is_line None (Some r) a b = (spelled_lines 1 (Row (opened.Right r) ∷ []) (b, tt)).0
half_is_line None None a b = IsLine-append (codes "none") (10 ∷ []) (unfed_by (codes "none") refl) refl

-- where a line opens both halves, these are the ones that it was made of
pub both_told : (left right : Option Opening) (one other : Opening) → IsHalf left → IsHalf right → IsOpening one → IsOpening other → halves_text left right ≡ opening_text (opened.Both one other)
    → (left ≡ Some one) × (right ≡ Some other)
both_told (Some l) (Some r) one other a b c d same =
    let said : Row (opened.Both l r) ≡ Row (opened.Both one other) = lines_differ 1 (Row (opened.Both l r)) (Row (opened.Both one other)) (a, b) (c, d) same in
    (first said, second said)
  where
    first : Row (opened.Both l r) ≡ Row (opened.Both one other) → Some l ≡ Some one
    first e = cc

    second : Row (opened.Both l r) ≡ Row (opened.Both one other) → Some r ≡ Some other
    second e = cc
both_told (Some l) None one other a b c d same = absurd (no (lines_differ 1 (Row (opened.Left l)) (Row (opened.Both one other)) a (c, d) same))
  where
    no : Row (opened.Left l) ≡ Row (opened.Both one other) → ⊥
    no e = cc
both_told None (Some r) one other a b c d same = absurd (no (lines_differ 1 (Row (opened.Right r)) (Row (opened.Both one other)) b (c, d) same))
  where
    no : Row (opened.Right r) ≡ Row (opened.Both one other) → ⊥
    no e = cc
both_told None None one other a b c d same = absurd (unlike 1 (Row (opened.Both one other)) (codes "none\n") (c, d) (none_is_none 1) (sym same))
