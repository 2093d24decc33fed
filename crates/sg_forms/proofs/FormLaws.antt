-- What `read_form` and the readers of one form say of a line, from what they read.
use Rattle.std.proofs.Common.{◌≡◌, ℕ, List, Option, None, Some, codes, sym, ap, ◌∙◌}
use Rattle.std.specs.Prelude.{IfSome}
use Rattle.std.specs.Option.{option_map}
use Rattle.sg_commit.specs.declared.Digest.{Digest}
use Rattle.sg_forms.specs.declared.line.Line.{Line}
use Rattle.sg_forms.specs.declared.line.RowCommitLine.{RowCommitLine}
use Rattle.sg_forms.specs.declared.line.RowOpening.{RowOpening}
use Rattle.sg_forms.specs.declared.line.RowOpening.TheVariants as row
use Rattle.sg_forms.specs.Said.{Said, said, said_commits}
use Rattle.sg_forms.specs.Said.Said.{CodeCommit, Row}
use Rattle.sg_forms.specs.Spelling.{IsInRange, spelling}
use Rattle.sg_forms.specs.Reading.{words_in, form_in, line_of}
use Rattle.sg_forms.specs.inside.Cutting.{first_of, first_in}
use Rattle.sg_forms.proofs.FormsFound.{form_in_says}
use Rattle.sg_forms.proofs.LineLaws.{lines_are_spelled, lines_are_read}

-- what is read is in range, and the bytes are its spelling
pub form_found : (version : ℕ) (bytes : List ℕ) (result : Option Line) → option_map said result ≡ line_of version bytes
    → IfSome result (λ line. IsInRange version (said line) × (bytes ≡ spelling version (said line)))
form_found version bytes None exact = tt
form_found version bytes (Some line) exact = lines_are_spelled version bytes (said line) (sym exact)

-- a line in range is read from its spelling
pub form_only : (version : ℕ) (bytes : List ℕ) (result : Option Line) (s : Said) → option_map said result ≡ line_of version bytes
    → IsInRange version s → bytes ≡ spelling version s → option_map said result ≡ Some s
form_only version bytes result s exact fits is = exact ∙ (ap (line_of version) is ∙ lines_are_read version s fits)

pub ruleset form_laws = (form_found, form_only)

-- ---- the readers of one form

-- what says a row's commitments begins with their word
pub commits_first : (version : ℕ) (text : List ℕ) (line : RowCommitLine) → form_in version (words_in text) ≡ Some (said_commits line) → first_in text ≡ codes "row-commit"
commits_first version text line e = ap first_of (form_in_says version (words_in text) (said_commits line) e).1

-- what says a code's commitment begins with its word
pub commit_first : (version : ℕ) (text : List ℕ) (race : ℕ) (digest : Digest) → form_in version (words_in text) ≡ Some (CodeCommit race digest) → first_in text ≡ codes "code-commit"
commit_first version text race digest e = ap first_of (form_in_says version (words_in text) (CodeCommit race digest) e).1

-- what says an opening begins with one of three words
pub row_first : {A : Type 0} (version : ℕ) (text : List ℕ) (opening : RowOpening) → form_in version (words_in text) ≡ Some (Row opening)
    → (first_in text ≡ codes "left" → A) → (first_in text ≡ codes "right" → A) → (first_in text ≡ codes "both" → A) → A
row_first version text (row.Left opening) e left right both = left (ap first_of (form_in_says version (words_in text) (Row (row.Left opening)) e).1)
row_first version text (row.Right opening) e left right both = right (ap first_of (form_in_says version (words_in text) (Row (row.Right opening)) e).1)
row_first version text (row.Both one other) e left right both = both (ap first_of (form_in_says version (words_in text) (Row (row.Both one other)) e).1)
