-- Each line in range is short enough.
use Rattle.std.proofs.Common.{◌≡◌, ℕ, ◌+◌, ◌*◌, ◌<◌, ◌≤◌, inl, inr, List, [], ◌∷◌, ◌++◌, All, length, map, ap, ◌∙◌, arith, length-append}
use Rattle.std.proofs.lemmas.List.Elements.{All-head, All-tail}
use Rattle.std.specs.List.{join_with_byte}
use Rattle.sg_plan.specs.declared.plan.ClaimWord.{ClaimWord}
use Rattle.sg_plan.specs.declared.plan.ClaimWord.TheVariants.{Posted, Unposted, Absent}
use Rattle.sg_lines.specs.Words.{decimal, code_word, encode_lower}
use Rattle.sg_lines.proofs.Hex.{length-encode_lower}
use Rattle.sg_lines.proofs.Numbers.{length-decimal}
use Rattle.sg_lines.proofs.Signs.{length-code_word}
use Rattle.sg_forms.specs.declared.line.RowOpening.TheVariants as row
use Rattle.sg_forms.specs.Said.{Said}
use Rattle.sg_forms.specs.Said.Said.{Version, Election, Instances, Race, Cand, Style, Ballots, CodeCommit, RowCommit, Seal, Cast, Spoiled, Audited, Code, Over, Paper, Flags, Places, Total, DrawFull, DrawPublic, Row, Dispute, Voided}
use Rattle.sg_forms.specs.Spelling.{words_of, IsInRange, IsNumber, IsCode, AreBytes, AreDigits, claim_word}
use Rattle.sg_plan.specs.Limits.{longest_line}

-- the bytes of words, each with one byte behind it
abbrev pub text_length : List (List ℕ) → ℕ
text_length [] = 0
text_length (word ∷ words) = length word + 1 + text_length words

-- words that are joined, and one byte behind them
joined_length : (first : List ℕ) (words : List (List ℕ)) → length (join_with_byte 32 (first ∷ words)) + 1 ≡ text_length (first ∷ words)
joined_length first [] = omega arith
joined_length first (next ∷ words) = omega (arith, length-append first (32 ∷ join_with_byte 32 (next ∷ words)), joined_length next words)

-- the bytes of a spelling
pub spelled_length : (words : List (List ℕ)) → 0 < length words → length (join_with_byte 32 words ++ 10 ∷ []) ≡ text_length words
spelled_length [] some = absurd (omega arith)
spelled_length (first ∷ words) some = length-append (join_with_byte 32 (first ∷ words)) (10 ∷ []) ∙ joined_length first words

-- words of at most so many bytes
list_length : {A : Type 0} (spell : A → List ℕ) (Fits : A → Type 0) (most : ℕ) → ((value : A) → Fits value → length (spell value) ≤ most)
    → (values : List A) → All Fits values → text_length (map spell values) ≤ (most + 1) * length values
list_length spell Fits most short [] fit = omega arith
list_length spell Fits most short (value ∷ values) fit =
    let here = short value (All-head Fits value values fit) in
    let behind = list_length spell Fits most short values (All-tail Fits value values fit) in
    grind (arith, here, behind)

-- a number is a short word
number_length : (value : ℕ) → IsNumber value → length (decimal value) ≤ 64
number_length value fits = omega (arith, length-decimal value fits)

-- so are a key and a digest
hex_word : (count : ℕ) (bytes : List ℕ) → AreBytes count bytes → count ≤ 32 → length (encode_lower bytes) ≤ 64
hex_word count bytes fits small = omega (arith, length-encode_lower bytes, fits.0)

-- so is a code
code_length : (version code : ℕ) → IsCode version code → length (code_word version code) ≤ 64
code_length version code fits = omega (arith, length-code_word version code fits)

-- so is an answer
claim_length : (word : ClaimWord) → length (claim_word word) ≤ 64
claim_length Posted = omega arith
claim_length Unposted = omega arith
claim_length Absent = omega arith

-- public bytes are a long one
digits_length : (digits : List ℕ) → AreDigits digits → length digits ≤ 8192
digits_length digits fits = omega (arith, ap length fits.1, length-encode_lower fits.0, fits.4)

-- the words of a line in range are short enough together
pub words_length : (version : ℕ) (line : Said) → IsInRange version line → text_length (words_of version line) ≤ longest_line
words_length version (Version number) (inl one) = rw one (omega (arith, number_length 1 (omega arith)))
words_length version (Version number) (inr two) = rw two (omega (arith, number_length 2 (omega arith)))
words_length version (Election name) fits = omega (arith, fits.1)
words_length version (Instances instances) fits = omega (arith, number_length instances fits)
words_length version (Race name candidates votes) fits = omega (arith, fits.0.1, number_length candidates fits.1, number_length votes fits.2)
words_length version (Cand name) fits = omega (arith, fits.1)
words_length version (Style name races) fits = omega (arith, fits.0.1, list_length decimal IsNumber 64 number_length races fits.1, fits.3)
words_length version (Ballots style count) fits = omega (arith, number_length style fits.0, number_length count fits.1)
words_length version (CodeCommit race digest) fits = omega (arith, number_length race fits.0, hex_word 32 digest.0 fits.1 (omega arith))
words_length version (RowCommit race instance left right) fits = omega (arith, number_length race fits.0, number_length instance fits.1, hex_word 32 left.0 fits.2 (omega arith), hex_word 32 right.0 fits.3 (omega arith))
words_length version (Seal sealed digest) fits = omega (arith, number_length sealed fits.0, hex_word 32 digest.0 fits.1 (omega arith))
words_length version (Cast ballot) fits = omega (arith, number_length ballot fits)
words_length version (Spoiled ballot) fits = omega (arith, number_length ballot fits)
words_length version (Audited ballot) fits = omega (arith, number_length ballot fits)
words_length version (Code code) fits = omega (arith, number_length code.race fits.0, number_length code.column fits.1, hex_word 16 code.key.0 fits.2 (omega arith), code_length version code.code fits.3)
words_length version (Over race) fits = omega (arith, number_length race fits)
words_length version (Paper race list) fits = omega (arith, number_length race fits.0, list_length (code_word version) (IsCode version) 64 (code_length version) list fits.1, fits.3)
words_length version (Flags race instance bits) fits = omega (arith, number_length race fits.0, number_length instance fits.1, fits.2.1)
words_length version (Places race bits) fits = omega (arith, number_length race fits.0, fits.1.1)
words_length version (Total race candidate count) fits = omega (arith, number_length race fits.0, number_length candidate fits.1, number_length count fits.2)
words_length version DrawFull fits = omega arith
words_length version (DrawPublic digits) fits = omega (arith, digits_length digits fits)
words_length version (Row (row.Left opening)) fits = omega (arith, hex_word 16 opening.key.0 fits.0 (omega arith), number_length opening.value fits.1)
words_length version (Row (row.Right opening)) fits = omega (arith, hex_word 16 opening.key.0 fits.0 (omega arith), number_length opening.value fits.1)
words_length version (Row (row.Both left right)) fits = omega (arith, hex_word 16 left.key.0 fits.0.0 (omega arith), number_length left.value fits.0.1, hex_word 16 right.key.0 fits.1.0 (omega arith), number_length right.value fits.1.1)
words_length version (Dispute ballot race code word) fits = omega (arith, number_length ballot fits.0, number_length race fits.1, code_length version code fits.2, claim_length word)
words_length version (Voided ballot) fits = omega (arith, number_length ballot fits)
