-- The laws of reading a line.
use Rattle.std.specs.Prelude.{◌≡◌, ℕ, ◌≤◌, ◌<◌, ◌==◌, false, List, ◌∷◌, ◌++◌, length, None, Some}
use Rattle.std.specs.List.{list_any}
use Rattle.std.specs.Io.BufRead.{ends_with_byte}
use Rattle.sg_forms.specs.Said.{Said}
use Rattle.sg_forms.specs.Spelling.{spelling, IsInRange}
use Rattle.sg_plan.specs.Limits.{longest_line}
use Rattle.sg_forms.specs.Reading.{line_of}

-- what is read is in range, and the bytes are its spelling
abbrev pub LinesAreSpelled : Type 0
LinesAreSpelled = (version : ℕ) (bytes : List ℕ) (line : Said) → line_of version bytes ≡ Some line → IsInRange version line × (bytes ≡ spelling version line)

-- each line in range is read from its spelling
abbrev pub LinesAreRead : Type 0
LinesAreRead = (version : ℕ) (line : Said) → IsInRange version line → line_of version (spelling version line) ≡ Some line

-- different lines in range have different spellings
abbrev pub LinesDiffer : Type 0
LinesDiffer = (version : ℕ) (a b : Said) → IsInRange version a → IsInRange version b → spelling version a ≡ spelling version b → a ≡ b

-- no line in range is longer than a line may be
abbrev pub LinesAreShort : Type 0
LinesAreShort = (version : ℕ) (line : Said) → IsInRange version line → length (spelling version line) ≤ longest_line

-- bytes without a line feed at their end have no form
abbrev pub OpenLinesHaveNoForm : Type 0
OpenLinesHaveNoForm = (version : ℕ) (bytes : List ℕ) → ends_with_byte 10 bytes ≡ false → line_of version bytes ≡ None

-- bytes that are too many have no form
abbrev pub LongLinesHaveNoForm : Type 0
LongLinesHaveNoForm = (version : ℕ) (bytes : List ℕ) → longest_line < length bytes → line_of version bytes ≡ None

-- bytes have no form where the most bytes that a line may have stand at their front without a line feed
abbrev pub CutLinesHaveNoForm : Type 0
CutLinesHaveNoForm = (version : ℕ) (text more : List ℕ) → length text ≡ longest_line → list_any (λ byte. byte == 10) text ≡ false → line_of version (text ++ more) ≡ None

-- bytes with a line feed before their last byte have no form
abbrev pub SplitLinesHaveNoForm : Type 0
SplitLinesHaveNoForm = (version : ℕ) (text more : List ℕ) → 0 < length more → line_of version (text ++ 10 ∷ more) ≡ None
