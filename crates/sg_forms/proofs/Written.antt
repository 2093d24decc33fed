-- A line is written: its words, and a line feed over the last space.
use Rattle.std.proofs.Common.{◌≡◌, ℕ, ◌+◌, ◌-◌, ◌≤◌, List, [], ◌∷◌, ◌++◌, length, drop, slice_set, sym, ap, ◌∙◌, arith, append_assoc, length-append}
use Rattle.std.proofs.Math.Seq.{set-append_seam}
use Rattle.std.specs.List.{join_with_byte}
use Rattle.sg_forms.specs.Said.{Said}
use Rattle.sg_forms.specs.Spelling.{words_of, spelling, IsInRange}
use Rattle.sg_plan.specs.Limits.{longest_line}
use Rattle.sg_forms.specs.inside.Writing.{spaced, HasRoom, IsWritten}
use Rattle.sg_forms.proofs.LineLaws.{lines_are_short}
use Rattle.sg_forms.proofs.Overwriting.{spaced_some}
use Rattle.sg_forms.proofs.Plain.{words_plain}

-- a line has as many bytes as its words with a space behind each
spaced_length : (version : ℕ) (line : Said) → IsInRange version line → length (spaced (words_of version line)) ≡ length (spelling version line)
spaced_length version line fits =
    let text : List ℕ = join_with_byte 32 (words_of version line) in
    ap length (spaced_some (words_of version line) (words_plain version line fits).1)
    ∙ length-append text (32 ∷ []) ∙ sym (length-append text (10 ∷ []))

-- there is room for the words of a line where there is room for the longest line
pub line_room : (version : ℕ) (line : Said) (old : List ℕ) → IsInRange version line → longest_line ≤ length old → HasRoom (words_of version line) old
line_room version line old fits room = omega (arith, spaced_length version line fits, lines_are_short version line fits)

-- what is written has the line's length
pub line_length : (version : ℕ) (line : Said) (old new : List ℕ) (end : ℕ) → IsInRange version line → IsWritten (words_of version line) old new end
    → end ≡ length (spelling version line)
line_length version line old new end fits written = written.ends ∙ spaced_length version line fits

-- which is not too long
pub line_short : (version : ℕ) (line : Said) (old new : List ℕ) (end : ℕ) → IsInRange version line → IsWritten (words_of version line) old new end
    → end ≤ longest_line
line_short version line old new end fits written = omega (arith, line_length version line old new end fits written, lines_are_short version line fits)

-- with a line feed over the last space it is the line's spelling
pub line_written : (version : ℕ) (line : Said) (old new : List ℕ) (end : ℕ) → IsInRange version line → IsWritten (words_of version line) old new end
    → slice_set new (end - 1) 10 ≡ spelling version line ++ drop end old
line_written version line old new end fits written =
    let words : List (List ℕ) = words_of version line in
    let text : List ℕ = join_with_byte 32 words in
    let is : spaced words ≡ text ++ 32 ∷ [] = spaced_some words (words_plain version line fits).1 in
    let last : end - 1 ≡ length text = omega (arith, written.ends, ap length is, length-append text (32 ∷ [])) in
    let place : 0 + length (spaced words) ≡ end = omega (arith, written.ends) in
    let bytes : new ≡ text ++ 32 ∷ drop end old =
    written.bytes ∙ ap (λ n. spaced words ++ drop n old) place ∙ ap (λ l. l ++ drop end old) is ∙ append_assoc text (32 ∷ []) (drop end old) in
    ap (λ l. slice_set l (end - 1) 10) bytes
    ∙ ap (λ n. slice_set (text ++ 32 ∷ drop end old) n 10) last
    ∙ set-append_seam text 32 (drop end old) 10
    ∙ sym (append_assoc text (10 ∷ []) (drop end old))
