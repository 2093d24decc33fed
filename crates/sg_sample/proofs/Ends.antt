-- The digits of the seal with which a text ends.
use Rattle.std.proofs.Common.{◌≡◌, ℕ, ◌+◌, ◌-◌, ◌≤◌, List, [], ◌∷◌, ◌++◌, length, codes, sym, ap, ◌∙◌, append_assoc, length-append, arith}
use Rattle.std.specs.Prelude.{slice_range}
use Rattle.std.proofs.Math.Seq.{drop-append_seam, take-append_seam}
use Rattle.sg_commit.specs.declared.Digest.{Digest}
use Rattle.sg_forms.specs.Said.Said.{Seal}
use Rattle.sg_forms.specs.Spelling.{spelling}
use Rattle.sg_lines.proofs.Hex.{length-encode_lower}
use Rattle.sg_lines.specs.Words.{decimal, encode_lower}
use Rattle.sg_sample.specs.inside.Sealed.{EndsWith}

-- what stands before the digits
before_digits : ℕ → List ℕ
before_digits number = codes "seal" ++ 32 ∷ (decimal number ++ 32 ∷ [])

seal_line : (version number : ℕ) (digest : Digest) → spelling version (Seal number digest) ≡ before_digits number ++ (encode_lower digest.0 ++ 10 ∷ [])
unfolding before_digits
seal_line version number digest = simp append_assoc

-- the middle of three lists
middle : (a b c text : List ℕ) (from to : ℕ) → text ≡ a ++ (b ++ c) → from ≡ length a → to ≡ length a + length b → slice_range text from to ≡ b
middle a b c text from to is first last =
    let gap : to - from ≡ length b = omega (arith, first, last) in
    rw (is, gap, first, drop-append_seam a (b ++ c)) (take-append_seam b c)

parts : (text : List ℕ) (digest : Digest) (ends : EndsWith text digest) → text ≡ (ends.front ++ before_digits ends.number) ++ (encode_lower digest.0 ++ 10 ∷ [])
parts text digest ends =
    ends.is ∙ (ap (λ l. ends.front ++ l) (seal_line ends.version ends.number digest) ∙ sym (append_assoc ends.front (before_digits ends.number) (encode_lower digest.0 ++ 10 ∷ [])))

sizes : (text : List ℕ) (digest : Digest) (ends : EndsWith text digest) → length text ≡ length (ends.front ++ before_digits ends.number) + 65
sizes text digest ends =
    let front = ends.front ++ before_digits ends.number in
    let whole = ap length (parts text digest ends) ∙ length-append front (encode_lower digest.0 ++ 10 ∷ []) in
    let behind = length-append (encode_lower digest.0) (10 ∷ []) in
    let digits = length-encode_lower digest.0 in
    let bytes = ends.whole in
    omega (arith, whole, behind, digits, bytes)

pub long_enough : (text : List ℕ) (digest : Digest) → EndsWith text digest → 65 ≤ length text
long_enough text digest ends = omega (arith, sizes text digest ends)

pub digits_at : (text : List ℕ) (digest : Digest) → EndsWith text digest → slice_range text (length text - 1 - 64) (length text - 1) ≡ encode_lower digest.0
digits_at text digest ends =
    let size = sizes text digest ends in
    let digits = length-encode_lower digest.0 in
    let bytes = ends.whole in
    middle (ends.front ++ before_digits ends.number) (encode_lower digest.0) (10 ∷ []) text (length text - 1 - 64) (length text - 1) (parts text digest ends)
    (omega (arith, size)) (omega (arith, size, digits, bytes))
