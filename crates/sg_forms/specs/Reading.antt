-- How a line is read (this project's rules for the record): its words are cut at single spaces, the first word names
-- the form, and each further word is read by its kind. That this reads each line from its one spelling, and nothing
-- else, is the law of `Laws`.
use Rattle.std.specs.Prelude.{ℕ, ◌-◌, ◌%◌, nat_le, ◌==◌, Bool, ◌&&◌, ◌||◌, if◌then◌else◌, List, [], ◌∷◌, length, take, Option, None, Some, bytes_eq, codes, ◌*◌}
use Rattle.std.specs.List.{slice_split, list_all}
use Rattle.std.specs.Option.{option_map, option_and_then}
use Rattle.std.specs.Result.{result_unwrap_or}
use Rattle.std.specs.Io.BufRead.{ends_with_byte}
use Rattle.sg_plan.specs.Limits.{longest_line, longest_name, most_bits, most_candidates, most_public_bytes, most_races}
use Rattle.sg_commit.specs.declared.Digest.{Digest}
use Rattle.sg_commit.specs.declared.Key.{Key}
use Rattle.sg_commit.specs.declared.Opening.{Opening}
use Rattle.sg_plan.specs.declared.plan.ClaimWord.{ClaimWord}
use Rattle.sg_plan.specs.declared.plan.ClaimWord.TheVariants.{Posted, Unposted, Absent}
use Rattle.sg_lines.specs.Words.{decimal_of, decode_of, key_of, digest_of, code_of}
use Rattle.sg_forms.specs.declared.line.RowOpening.TheVariants as row
use Rattle.sg_forms.specs.Said.{Said}
use Rattle.sg_forms.specs.Said.Said.{Version, Election, Instances, Race, Cand, Style, Ballots, CodeCommit, RowCommit, Seal, Cast, Spoiled, Audited, Code, Over, Paper, Flags, Places, Total, DrawFull, DrawPublic, Row, Dispute, Voided}

-- ---- a line's text and its words

-- what stands before the line feed that ends a line
abbrev pub text_of : List ℕ → Option (List ℕ)
text_of bytes = if ends_with_byte 10 bytes then Some (take (length bytes - 1) bytes) else None

abbrev pub is_space : ℕ → Bool
is_space byte = byte == 32

-- the words of a text: what stands between single spaces
abbrev pub words_in : List ℕ → List (List ℕ)
words_in text = slice_split is_space text

-- the words that are left, where there is a space and more text behind it
abbrev pub words_left : Option (List ℕ) → List (List ℕ)
words_left None = []
words_left (Some text) = words_in text

-- ---- words that are kept as they are

-- 1 to so many elements
abbrev pub is_few : {A : Type 0} → ℕ → List A → Bool
is_few most list = nat_le 1 (length list) && nat_le (length list) most

abbrev pub kept_where : (List ℕ → Bool) → List ℕ → Option (List ℕ)
kept_where test word = if test word then Some word else None

abbrev pub is_name_byte : ℕ → Bool
is_name_byte byte = nat_le 0x21 byte && nat_le byte 0x7E

-- a name
abbrev pub name_of : List ℕ → Option (List ℕ)
name_of = kept_where (λ word. is_few longest_name word && list_all is_name_byte word)

abbrev pub is_bit_sign : ℕ → Bool
is_bit_sign byte = byte == 48 || byte == 49

-- 1 to 64 bits
abbrev pub bits_of : List ℕ → Option (List ℕ)
bits_of = kept_where (λ word. is_few most_bits word && list_all is_bit_sign word)

abbrev pub is_hex_sign : ℕ → Bool
is_hex_sign byte = (nat_le 48 byte && nat_le byte 57) || (nat_le 97 byte && nat_le byte 102)

-- 2 to 8,192 lower-case hexadecimal digits, an even number
abbrev pub digits_of : List ℕ → Option (List ℕ)
digits_of = kept_where (λ word. is_few (2 * most_public_bytes) word && ((length word % 2 == 0) && list_all is_hex_sign word))

-- the public bytes that their hexadecimal digits stand for
abbrev pub bytes_of_digits : List ℕ → List ℕ
bytes_of_digits digits = result_unwrap_or (decode_of digits) []

-- a dispute's answer
abbrev pub claim_of : List ℕ → Option ClaimWord
claim_of word =
    if bytes_eq word (codes "posted") then Some Posted
    else (if bytes_eq word (codes "unposted") then Some Unposted
    else (if bytes_eq word (codes "absent") then Some Absent else None))

-- ---- words in a row

-- the first word, read by its kind, and the words behind it
abbrev pub first_by : {A : Type 0} → (List ℕ → Option A) → List (List ℕ) → Option (A × List (List ℕ))
first_by read [] = None
first_by read (word ∷ words) = option_map (λ value. (value, words)) (read word)

-- reads the first word by its kind, and goes on with the words behind it
abbrev pub then_by : {A : Type 0} → (List ℕ → Option A) → (A → List (List ℕ) → Option Said) → List (List ℕ) → Option Said
then_by read next words = option_and_then (λ found. next found.0 found.1) (first_by read words)

-- the line, where no word is left
abbrev pub whole : Said → List (List ℕ) → Option Said
whole line [] = Some line
whole line (word ∷ words) = None

abbrev pub number_then : (ℕ → List (List ℕ) → Option Said) → List (List ℕ) → Option Said
number_then = then_by decimal_of

abbrev pub key_then : (Key → List (List ℕ) → Option Said) → List (List ℕ) → Option Said
key_then next = then_by key_of (λ bytes. next (record { 0 = bytes }))

abbrev pub digest_then : (Digest → List (List ℕ) → Option Said) → List (List ℕ) → Option Said
digest_then next = then_by digest_of (λ bytes. next (record { 0 = bytes }))

abbrev pub opening_then : (Opening → List (List ℕ) → Option Said) → List (List ℕ) → Option Said
opening_then next = key_then (λ key. number_then (λ value. next (record { key = key; value = value })))

-- each word, read by its kind
abbrev pub all_by : {A : Type 0} → (List ℕ → Option A) → List (List ℕ) → Option (List A)
all_by read [] = Some []
all_by read (word ∷ words) = option_and_then (λ value. option_map (λ values. value ∷ values) (all_by read words)) (read word)

-- 1 to so many words, each read by its kind, and no word behind them
abbrev pub few_by : {A : Type 0} → (List ℕ → Option A) → ℕ → List (List ℕ) → Option (List A)
few_by read most words = if is_few most words then all_by read words else None

-- ---- the words behind the first one, form by form

-- one number, as in `cast`
abbrev pub one_number : (ℕ → Said) → List (List ℕ) → Option Said
one_number line = number_then (λ number. whole (line number))

-- one name, as in `cand`
abbrev pub one_name : (List ℕ → Said) → List (List ℕ) → Option Said
one_name line = then_by name_of (λ name. whole (line name))

abbrev pub read_version : List (List ℕ) → Option Said
read_version = number_then (λ number words. if number == 1 || number == 2 then whole (Version number) words else None)

abbrev pub read_race : List (List ℕ) → Option Said
read_race = then_by name_of (λ name. number_then (λ candidates. number_then (λ votes. whole (Race name candidates votes))))

abbrev pub read_style : List (List ℕ) → Option Said
read_style = then_by name_of (λ name words. option_map (λ races. Style name races) (few_by decimal_of most_races words))

abbrev pub read_ballots : List (List ℕ) → Option Said
read_ballots = number_then (λ style. number_then (λ count. whole (Ballots style count)))

abbrev pub read_code_commit : List (List ℕ) → Option Said
read_code_commit = number_then (λ race. digest_then (λ digest. whole (CodeCommit race digest)))

abbrev pub read_row_commit : List (List ℕ) → Option Said
read_row_commit = number_then (λ race. number_then (λ instance. digest_then (λ left. digest_then (λ right. whole (RowCommit race instance left right)))))

abbrev pub read_seal : List (List ℕ) → Option Said
read_seal = number_then (λ number. digest_then (λ digest. whole (Seal number digest)))

abbrev pub read_code_line : ℕ → List (List ℕ) → Option Said
read_code_line version = number_then (λ race. number_then (λ column. key_then (λ key. then_by (code_of version) (λ code. whole (Code (record { race = race; column = column; key = key; code = code }))))))

abbrev pub read_paper : ℕ → List (List ℕ) → Option Said
read_paper version = number_then (λ race words. option_map (λ list. Paper race list) (few_by (code_of version) most_candidates words))

abbrev pub read_flags : List (List ℕ) → Option Said
read_flags = number_then (λ race. number_then (λ instance. then_by bits_of (λ bits. whole (Flags race instance bits))))

abbrev pub read_places : List (List ℕ) → Option Said
read_places = number_then (λ race. then_by bits_of (λ bits. whole (Places race bits)))

abbrev pub read_total : List (List ℕ) → Option Said
read_total = number_then (λ race. number_then (λ candidate. number_then (λ count. whole (Total race candidate count))))

abbrev pub read_draw : List (List ℕ) → Option Said
read_draw = then_by (λ word. Some word) (λ word words. if bytes_eq word (codes "full") then whole DrawFull words else option_and_then (λ digits. whole (DrawPublic digits) words) (digits_of word))

abbrev pub read_left : List (List ℕ) → Option Said
read_left = opening_then (λ opening. whole (Row (row.Left opening)))

abbrev pub read_right : List (List ℕ) → Option Said
read_right = opening_then (λ opening. whole (Row (row.Right opening)))

abbrev pub read_both : List (List ℕ) → Option Said
read_both = opening_then (λ left. opening_then (λ right. whole (Row (row.Both left right))))

abbrev pub read_dispute : ℕ → List (List ℕ) → Option Said
read_dispute version = number_then (λ ballot. number_then (λ race. then_by (code_of version) (λ code. then_by claim_of (λ word. whole (Dispute ballot race code word)))))

-- ---- the form, by the first word

-- the lines of the plan
unfoldable pub plan_form : List ℕ → List (List ℕ) → Option Said
plan_form first words =
    if bytes_eq first (codes "cand") then one_name Cand words
    else (if bytes_eq first (codes "race") then read_race words
    else (if bytes_eq first (codes "style") then read_style words
    else (if bytes_eq first (codes "ballots") then read_ballots words
    else (if bytes_eq first (codes "scantegrity2") then read_version words
    else (if bytes_eq first (codes "election") then one_name Election words
    else (if bytes_eq first (codes "instances") then one_number Instances words else None))))))

-- the lines of results, and those of the plan
unfoldable pub result_form : List ℕ → List (List ℕ) → Option Said
result_form first words =
    if bytes_eq first (codes "flags") then read_flags words
    else (if bytes_eq first (codes "places") then read_places words
    else (if bytes_eq first (codes "total") then read_total words
    else (if bytes_eq first (codes "seal") then read_seal words
    else (if bytes_eq first (codes "draw") then read_draw words
    else plan_form first words))))

-- the lines of ballots, and those above
unfoldable pub ballot_form : ℕ → List ℕ → List (List ℕ) → Option Said
ballot_form version first words =
    if bytes_eq first (codes "code") then read_code_line version words
    else (if bytes_eq first (codes "cast") then one_number Cast words
    else (if bytes_eq first (codes "spoiled") then one_number Spoiled words
    else (if bytes_eq first (codes "audited") then one_number Audited words
    else (if bytes_eq first (codes "voided") then one_number Voided words
    else (if bytes_eq first (codes "over") then one_number Over words
    else (if bytes_eq first (codes "paper") then read_paper version words
    else (if bytes_eq first (codes "dispute") then read_dispute version words
    else result_form first words)))))))

-- the lines of rows and entries, of which there are most, and those above
unfoldable pub form_of : ℕ → List ℕ → List (List ℕ) → Option Said
form_of version first words =
    if bytes_eq first (codes "row-commit") then read_row_commit words
    else (if bytes_eq first (codes "both") then read_both words
    else (if bytes_eq first (codes "left") then read_left words
    else (if bytes_eq first (codes "right") then read_right words
    else (if bytes_eq first (codes "code-commit") then read_code_commit words
    else ballot_form version first words))))

abbrev pub form_in : ℕ → List (List ℕ) → Option Said
form_in version [] = None
form_in version (first ∷ words) = form_of version first words

-- what a line says, by the version of its record: nothing where it is longer than a line may be, where no line feed
-- ends it, or where its words are those of no form
unfoldable pub line_of : ℕ → List ℕ → Option Said
line_of version bytes = if nat_le (length bytes) longest_line then option_and_then (λ text. form_in version (words_in text)) (text_of bytes) else None
