-- Where the record ends among lines: at the first line that is `printing`.
use Rattle.std.proofs.Common.{◌≡◌, ℕ, Bool, true, false, cond, List, [], ◌∷◌, ◌++◌, bytes_eq, refl, sym, ap, ◌∙◌, append_assoc, append-nil}
use Rattle.std.proofs.lemmas.Slice.Eq.{bytes_eq-Decides}
use Rattle.sg_parts.specs.Faults.{lines_behind, record_lines}
use Rattle.sg_parts.specs.Given.{printing_line}
use Rattle.sg_reports.specs.court.inside.Hearing.{HasNoWord, HasPrinting}

record_true : (line : List ℕ) (rest : List (List ℕ)) → bytes_eq line printing_line ≡ true → record_lines (line ∷ rest) ≡ []
record_true line rest e = ap (λ (b : Bool). cond b [] (line ∷ record_lines rest)) e

pub record_false : (line : List ℕ) (rest : List (List ℕ)) → bytes_eq line printing_line ≡ false → record_lines (line ∷ rest) ≡ line ∷ record_lines rest
record_false line rest e = ap (λ (b : Bool). cond b [] (line ∷ record_lines rest)) e

behind_true : (line : List ℕ) (rest : List (List ℕ)) → bytes_eq line printing_line ≡ true → lines_behind (line ∷ rest) ≡ line ∷ rest
behind_true line rest e = ap (λ (b : Bool). cond b (line ∷ rest) (lines_behind rest)) e

behind_false : (line : List ℕ) (rest : List (List ℕ)) → bytes_eq line printing_line ≡ false → lines_behind (line ∷ rest) ≡ lines_behind rest
behind_false line rest e = ap (λ (b : Bool). cond b (line ∷ rest) (lines_behind rest)) e

-- no line is
pub none_empty : HasNoWord []
none_empty = record { before = λ more. refl; behind = λ more. refl }

-- then all are the record's
pub all_before : (lines : List (List ℕ)) → HasNoWord lines → record_lines lines ≡ lines
all_before lines none = ap record_lines (sym (append-nil lines)) ∙ (none.before [] ∙ append-nil lines)

-- and none is behind it
pub none_behind : (lines : List (List ℕ)) → HasNoWord lines → lines_behind lines ≡ []
none_behind lines none = ap lines_behind (sym (append-nil lines)) ∙ none.behind []

-- ONE MORE LINE

-- another line of the record
pub none_more : (lines : List (List ℕ)) (line : List ℕ) → HasNoWord lines → bytes_eq line printing_line ≡ false → HasNoWord (lines ++ line ∷ [])
none_more lines line none e = record {
  before = λ more.
      ap record_lines (append_assoc lines (line ∷ []) more)
      ∙ (none.before (line ∷ more) ∙ (ap (λ (l : List (List ℕ)). lines ++ l) (record_false line more e) ∙ sym (append_assoc lines (line ∷ []) (record_lines more))));
  behind = λ more. ap lines_behind (append_assoc lines (line ∷ []) more) ∙ (none.behind (line ∷ more) ∙ behind_false line more e);
}

-- the line `printing`, and others behind it
pub printing_here : (lines : List (List ℕ)) (line : List ℕ) (more : List (List ℕ)) → HasNoWord lines → bytes_eq line printing_line ≡ true → HasPrinting lines ((lines ++ line ∷ []) ++ more) more
printing_here lines line more none e = record {
  before =
      ap record_lines (append_assoc lines (line ∷ []) more) ∙ (none.before (line ∷ more) ∙ (ap (λ (l : List (List ℕ)). lines ++ l) (record_true line more e) ∙ append-nil lines));
  behind =
      ap lines_behind (append_assoc lines (line ∷ []) more)
      ∙ (none.behind (line ∷ more) ∙ (behind_true line more e ∙ ap (λ (l : List ℕ). l ∷ more) ((bytes_eq-Decides line printing_line).0 e)));
}
