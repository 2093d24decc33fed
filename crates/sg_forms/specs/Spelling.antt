-- The one spelling of each form of a line (this project's rules for the record): its words, one space between two
-- of them, and a line feed.
use Rattle.std.specs.Prelude.{ℕ, ◌≡◌, ◌≤◌, ◌<◌, ◌^◌, ◌⊎◌, List, [], ◌∷◌, ◌++◌, All, length, map, codes}
use Rattle.std.specs.List.{join_with_byte}
use Rattle.sg_plan.specs.Limits.{most_bits, most_candidates, most_public_bytes, most_races}
use Rattle.sg_commit.specs.declared.Opening.{Opening}
use Rattle.sg_plan.specs.declared.plan.ClaimWord.{ClaimWord}
use Rattle.sg_plan.specs.declared.plan.ClaimWord.TheVariants.{Posted, Unposted, Absent}
use Rattle.sg_plan.specs.Codes.{codes_of}
use Rattle.sg_plan.specs.Names.{IsName}
use Rattle.sg_lines.specs.Words.{decimal, code_word, encode_lower, IsBits}
use Rattle.sg_forms.specs.declared.line.RowOpening.{RowOpening}
use Rattle.sg_forms.specs.declared.line.RowOpening.TheVariants as row
use Rattle.sg_forms.specs.Said.{Said}
use Rattle.sg_forms.specs.Said.Said.{Version, Election, Instances, Race, Cand, Style, Ballots, CodeCommit, RowCommit, Seal, Cast, Spoiled, Audited, Code, Over, Paper, Flags, Places, Total, DrawFull, DrawPublic, Row, Dispute, Voided}

-- a dispute's answer
abbrev pub claim_word : ClaimWord → List ℕ
claim_word Posted = codes "posted"
claim_word Unposted = codes "unposted"
claim_word Absent = codes "absent"

-- a pointer under its key
abbrev pub opening_words : Opening → List (List ℕ)
opening_words opening = encode_lower opening.key.0 ∷ decimal opening.value ∷ []

abbrev pub row_words : RowOpening → List (List ℕ)
row_words (row.Left opening) = codes "left" ∷ opening_words opening
row_words (row.Right opening) = codes "right" ∷ opening_words opening
row_words (row.Both left right) = codes "both" ∷ opening_words left ++ opening_words right

-- the words of a line, by the version of the record that it stands in
abbrev pub words_of : ℕ → Said → List (List ℕ)
words_of version (Version number) = codes "scantegrity2" ∷ decimal number ∷ []
words_of version (Election name) = codes "election" ∷ name ∷ []
words_of version (Instances instances) = codes "instances" ∷ decimal instances ∷ []
words_of version (Race name candidates votes) = codes "race" ∷ name ∷ decimal candidates ∷ decimal votes ∷ []
words_of version (Cand name) = codes "cand" ∷ name ∷ []
words_of version (Style name races) = codes "style" ∷ name ∷ map decimal races
words_of version (Ballots style count) = codes "ballots" ∷ decimal style ∷ decimal count ∷ []
words_of version (CodeCommit race digest) = codes "code-commit" ∷ decimal race ∷ encode_lower digest.0 ∷ []
words_of version (RowCommit race instance left right) = codes "row-commit" ∷ decimal race ∷ decimal instance ∷ encode_lower left.0 ∷ encode_lower right.0 ∷ []
words_of version (Seal number digest) = codes "seal" ∷ decimal number ∷ encode_lower digest.0 ∷ []
words_of version (Cast ballot) = codes "cast" ∷ decimal ballot ∷ []
words_of version (Spoiled ballot) = codes "spoiled" ∷ decimal ballot ∷ []
words_of version (Audited ballot) = codes "audited" ∷ decimal ballot ∷ []
words_of version (Code code) = codes "code" ∷ decimal code.race ∷ decimal code.column ∷ encode_lower code.key.0 ∷ code_word version code.code ∷ []
words_of version (Over race) = codes "over" ∷ decimal race ∷ []
words_of version (Paper race list) = codes "paper" ∷ decimal race ∷ map (code_word version) list
words_of version (Flags race instance bits) = codes "flags" ∷ decimal race ∷ decimal instance ∷ bits ∷ []
words_of version (Places race bits) = codes "places" ∷ decimal race ∷ bits ∷ []
words_of version (Total race candidate count) = codes "total" ∷ decimal race ∷ decimal candidate ∷ decimal count ∷ []
words_of version DrawFull = codes "draw" ∷ codes "full" ∷ []
words_of version (DrawPublic digits) = codes "draw" ∷ digits ∷ []
words_of version (Row opening) = row_words opening
words_of version (Dispute ballot race code word) = codes "dispute" ∷ decimal ballot ∷ decimal race ∷ code_word version code ∷ claim_word word ∷ []
words_of version (Voided ballot) = codes "voided" ∷ decimal ballot ∷ []

-- the line's text
abbrev pub spelling : ℕ → Said → List ℕ
spelling version line = join_with_byte 32 (words_of version line) ++ 10 ∷ []

-- a number of 32 bits
abbrev pub IsNumber : ℕ → Type 0
IsNumber number = number < 2 ^ 32

abbrev pub IsCode : ℕ → ℕ → Type 0
IsCode version code = code < codes_of version

-- the bytes of a key or of a digest
abbrev pub AreBytes : ℕ → List ℕ → Type 0
AreBytes count bytes = (length bytes ≡ count) × All (λ byte. byte < 256) bytes

abbrev pub IsOpening : Opening → Type 0
IsOpening opening = AreBytes 16 opening.key.0 × IsNumber opening.value

abbrev pub IsRow : RowOpening → Type 0
IsRow (row.Left opening) = IsOpening opening
IsRow (row.Right opening) = IsOpening opening
IsRow (row.Both left right) = IsOpening left × IsOpening right

-- public bytes in lower-case hexadecimal: 1 to 4,096 bytes, of two digits each
abbrev pub AreDigits : List ℕ → Type 0
AreDigits digits = (bytes : List ℕ) × (digits ≡ encode_lower bytes) × All (λ byte. byte < 256) bytes × (1 ≤ length bytes) × (length bytes ≤ most_public_bytes)

-- 1 to 64 characters, each `0` or `1`
abbrev pub AreFewBits : List ℕ → Type 0
AreFewBits bits = (1 ≤ length bits) × (length bits ≤ most_bits) × IsBits (length bits) bits

-- the words of the line are of the right kind, each by itself; what may stand where is the grammar's
abbrev pub IsInRange : ℕ → Said → Type 0
IsInRange version (Version number) = (number ≡ 1) ⊎ (number ≡ 2)
IsInRange version (Election name) = IsName name
IsInRange version (Instances instances) = IsNumber instances
IsInRange version (Race name candidates votes) = IsName name × IsNumber candidates × IsNumber votes
IsInRange version (Cand name) = IsName name
IsInRange version (Style name races) = IsName name × All IsNumber races × (1 ≤ length races) × (length races ≤ most_races)
IsInRange version (Ballots style count) = IsNumber style × IsNumber count
IsInRange version (CodeCommit race digest) = IsNumber race × AreBytes 32 digest.0
IsInRange version (RowCommit race instance left right) = IsNumber race × IsNumber instance × AreBytes 32 left.0 × AreBytes 32 right.0
IsInRange version (Seal number digest) = IsNumber number × AreBytes 32 digest.0
IsInRange version (Cast ballot) = IsNumber ballot
IsInRange version (Spoiled ballot) = IsNumber ballot
IsInRange version (Audited ballot) = IsNumber ballot
IsInRange version (Code code) = IsNumber code.race × IsNumber code.column × AreBytes 16 code.key.0 × IsCode version code.code
IsInRange version (Over race) = IsNumber race
IsInRange version (Paper race list) = IsNumber race × All (IsCode version) list × (1 ≤ length list) × (length list ≤ most_candidates)
IsInRange version (Flags race instance bits) = IsNumber race × IsNumber instance × AreFewBits bits
IsInRange version (Places race bits) = IsNumber race × AreFewBits bits
IsInRange version (Total race candidate count) = IsNumber race × IsNumber candidate × IsNumber count
IsInRange version DrawFull = Unit {0}
IsInRange version (DrawPublic digits) = AreDigits digits
IsInRange version (Row opening) = IsRow opening
IsInRange version (Dispute ballot race code word) = IsNumber ballot × IsNumber race × IsCode version code
IsInRange version (Voided ballot) = IsNumber ballot

-- the words of the line that no type of the program holds to their kind are of it: the version, names, bits, digits and
-- codes, and how many races or codes there are
abbrev pub FitsForm : ℕ → Said → Type 0
FitsForm version (Version number) = (number ≡ 1) ⊎ (number ≡ 2)
FitsForm version (Election name) = IsName name
FitsForm version (Race name candidates votes) = IsName name
FitsForm version (Cand name) = IsName name
FitsForm version (Style name races) = IsName name × (1 ≤ length races) × (length races ≤ most_races)
FitsForm version (Code code) = IsCode version code.code
FitsForm version (Paper race list) = All (IsCode version) list × (1 ≤ length list) × (length list ≤ most_candidates)
FitsForm version (Flags race instance bits) = AreFewBits bits
FitsForm version (Places race bits) = AreFewBits bits
FitsForm version (DrawPublic digits) = AreDigits digits
FitsForm version (Dispute ballot race code word) = IsCode version code
FitsForm version _ = Unit {0}
