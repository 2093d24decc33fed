-- The laws of reading a line.
use Rattle.std.proofs.Common.{◌≡◌, ℕ, suc, ◌+◌, ◌-◌, ◌<◌, ◌≤◌, ◌==◌, nat_le, nat_lt, Bool, true, false, cond, List, [], ◌∷◌, ◌++◌, All, length, take, drop, get_or, slice_index, Option, None, Some, refl, sym, ap, ◌∙◌, subst, arith, length-append}
use Rattle.std.proofs.Math.Seq.{split_at, get_or-append_seam, take-append_seam}
use Rattle.std.proofs.lemmas.Bool.{le-leb, lt-ltb, ltb-true, eqb-true, ne_eqb, and_parts}
use Rattle.std.proofs.lemmas.List.Elements.{All-weaker, All-get_or, All-cons, All-append}
use Rattle.std.proofs.Math.Bool.{or-true}
use Rattle.std.proofs.lemmas.List.{append-nil, drop_all, get_or_append_left, nil_from_length}
use Rattle.std.proofs.lemmas.List.Folds.{list_any-append}
use Rattle.std.proofs.lemmas.List.Splits.{slice_split_at, slice_split_none, join_with_byte-slice_split}
use Rattle.std.specs.Io.BufRead.{ends_with_byte}
use Rattle.std.specs.List.{join_with_byte, list_any}
use Rattle.std.specs.Option.{option_and_then}
use Rattle.sg_forms.specs.Laws.{LinesAreSpelled, LinesAreRead, LinesDiffer, LinesAreShort, OpenLinesHaveNoForm, LongLinesHaveNoForm, CutLinesHaveNoForm, SplitLinesHaveNoForm}
use Rattle.sg_forms.specs.Said.{Said}
use Rattle.sg_forms.specs.Spelling.{words_of, spelling, IsInRange}
use Rattle.sg_plan.specs.Limits.{longest_line}
use Rattle.sg_forms.specs.Reading.{text_of, is_space, words_in, form_in, line_of}
use Rattle.sg_forms.proofs.WordKinds.{IsInk}
use Rattle.sg_forms.proofs.FormsFound.{Says, form_in_says}
use Rattle.sg_forms.proofs.FormsRead.{form_in_read}
use Rattle.sg_forms.proofs.Lengths.{spelled_length, words_length}
use Rattle.sg_forms.proofs.Plain.{ArePlain, words_plain}

-- ---- the text and the line feed

-- a list that ends with this byte is what stands before it and the byte
ends_at : (bytes : List ℕ) → ends_with_byte 10 bytes ≡ true → bytes ≡ take (length bytes - 1) bytes ++ 10 ∷ []
ends_at bytes ends =
    let parts = and_parts (nat_lt 0 (length bytes)) (slice_index bytes (length bytes - 1) == 10) ends in
    let some : 0 < length bytes = ltb-true 0 (length bytes) parts.0 in
    let last : get_or bytes (length bytes - 1) 0 ≡ 10 = eqb-true (slice_index bytes (length bytes - 1)) 10 parts.1 in
    let front : List ℕ = take (length bytes - 1) bytes in
    split_at bytes (length bytes - 1) 0 (omega arith)
    ∙ ap (λ byte. front ++ byte ∷ drop (suc (length bytes - 1)) bytes) last
    ∙ ap (λ rest. front ++ 10 ∷ rest) (drop_all (suc (length bytes - 1)) bytes (omega arith))

-- `text_found`, by the test of the last byte
text_found_at : (bytes text : List ℕ) (ends : Bool) → ends_with_byte 10 bytes ≡ ends → cond {A = Option (List ℕ)} ends (Some (take (length bytes - 1) bytes)) None ≡ Some text → bytes ≡ text ++ 10 ∷ []
text_found_at bytes text true is e = subst (λ t. bytes ≡ t ++ 10 ∷ []) (let same : take (length bytes - 1) bytes ≡ text = cc in same) (ends_at bytes is)
text_found_at bytes text false is e = cc

-- the bytes are the text and a line feed
text_found : (bytes text : List ℕ) → text_of bytes ≡ Some text → bytes ≡ text ++ 10 ∷ []
text_found bytes text e = text_found_at bytes text (ends_with_byte 10 bytes) refl e

-- a text and a line feed end with it
ends_with_feed : (text : List ℕ) → ends_with_byte 10 (text ++ 10 ∷ []) ≡ true
ends_with_feed text =
    let count : length (text ++ 10 ∷ []) - 1 ≡ length text = omega (arith, length-append text (10 ∷ [])) in
    let some : 0 < length (text ++ 10 ∷ []) = omega (arith, length-append text (10 ∷ [])) in
    let last : get_or (text ++ 10 ∷ []) (length text) 0 ≡ 10 = get_or-append_seam text 10 [] 0 in
    rw (count, lt-ltb 0 (length (text ++ 10 ∷ [])) some, last) refl

-- the text before a line feed is found
text_read : (text : List ℕ) → text_of (text ++ 10 ∷ []) ≡ Some text
text_read text =
    let count : length (text ++ 10 ∷ []) - 1 ≡ length text = omega (arith, length-append text (10 ∷ [])) in
    let some : 0 < length (text ++ 10 ∷ []) = omega (arith, length-append text (10 ∷ [])) in
    let last : get_or (text ++ 10 ∷ []) (length text) 0 ≡ 10 = get_or-append_seam text 10 [] 0 in
    rw (count, lt-ltb 0 (length (text ++ 10 ∷ [])) some, last, take-append_seam text (10 ∷ [])) refl

-- ---- the words of a text

-- a word has no space
no_space : (word : List ℕ) → All IsInk word → All (λ byte. is_space byte ≡ false) word
no_space word plain = All-weaker IsInk (λ byte. is_space byte ≡ false) (λ byte ink. ne_eqb byte 32 (λ space. omega arith)) word plain

-- words without a space, joined by spaces, are cut again as they were
pub words_joined : (first : List ℕ) (words : List (List ℕ)) → All IsInk first → ArePlain words → words_in (join_with_byte 32 (first ∷ words)) ≡ first ∷ words
words_joined first [] plain others = slice_split_none is_space first (no_space first plain)
words_joined first (next ∷ words) plain others =
    slice_split_at is_space first 32 (join_with_byte 32 (next ∷ words)) (no_space first plain) refl ∙ ap (λ list. first ∷ list) (words_joined next words others.0 others.1)

-- ---- the laws

-- `lines_are_spelled`, by the text
spelled_at : (version : ℕ) (bytes : List ℕ) (line : Said) (text : Option (List ℕ)) → text_of bytes ≡ text → option_and_then (λ t. form_in version (words_in t)) text ≡ Some line
    → IsInRange version line × (bytes ≡ spelling version line)
spelled_at version bytes line None is e = cc
spelled_at version bytes line (Some text) is e =
    let says : Says version (words_in text) line = form_in_says version (words_in text) line e in
    (says.0, text_found bytes text is ∙ ap (λ t. t ++ 10 ∷ []) (sym (join_with_byte-slice_split 32 text) ∙ ap (join_with_byte 32) says.1))

-- `lines_are_spelled`, by the test of the length
spelled_within : (version : ℕ) (bytes : List ℕ) (line : Said) (short : Bool) → cond short (option_and_then (λ t. form_in version (words_in t)) (text_of bytes)) None ≡ Some line
    → IsInRange version line × (bytes ≡ spelling version line)
spelled_within version bytes line true e = spelled_at version bytes line (text_of bytes) refl e
spelled_within version bytes line false e = cc

-- what is read is in range, and the bytes are its spelling
pub lines_are_spelled : LinesAreSpelled
unfolding line_of
lines_are_spelled version bytes line e = spelled_within version bytes line (nat_le (length bytes) longest_line) e

-- words that are joined are read as the words
read_words : (version : ℕ) (line : Said) (words : List (List ℕ)) → ArePlain words → 0 < length words → form_in version words ≡ Some line → form_in version (words_in (join_with_byte 32 words)) ≡ Some line
read_words version line [] plain some e = absurd (omega arith)
read_words version line (first ∷ words) plain some e = ap (form_in version) (words_joined first words plain.0 plain.1) ∙ e

-- no line in range is too long
pub lines_are_short : LinesAreShort
lines_are_short version line fits =
    omega (arith, spelled_length (words_of version line) (words_plain version line fits).1, words_length version line fits)

-- each line in range is read from its spelling
pub lines_are_read : LinesAreRead
unfolding line_of
lines_are_read version line fits =
    let words = words_plain version line fits in
    rw (le-leb (length (spelling version line)) longest_line (lines_are_short version line fits), text_read (join_with_byte 32 (words_of version line)))
    (read_words version line (words_of version line) words.0 words.1 (form_in_read version line fits))

-- different lines in range have different spellings
pub lines_differ : LinesDiffer
lines_differ version a b a_fits b_fits same =
    let both : Some a ≡ Some b = sym (lines_are_read version a a_fits) ∙ (ap (line_of version) same ∙ lines_are_read version b b_fits) in
    cc

-- ---- bytes that have no form

-- what is never found is nothing
nothing_of : (found : Option Said) → ((line : Said) → found ≡ Some line → ⊥) → found ≡ None
nothing_of None never = refl
nothing_of (Some line) never = absurd (never line refl)

-- what is read ends with a line feed, is short, and has no line feed before its end
pub record IsOneLine (bytes : List ℕ) : Type 0 where
  pub text : List ℕ
  pub is : bytes ≡ text ++ 10 ∷ []
  pub visible : All (λ byte. 32 ≤ byte) text
  pub short : length bytes ≤ longest_line

-- joined words are made of spaces and of bytes above it
joined_visible : (first : List ℕ) (words : List (List ℕ)) → All IsInk first → ArePlain words → All (λ byte. 32 ≤ byte) (join_with_byte 32 (first ∷ words))
joined_visible first [] plain others = All-weaker IsInk (λ byte. 32 ≤ byte) (λ byte ink. omega arith) first plain
joined_visible first (next ∷ words) plain others =
    All-append (λ byte. 32 ≤ byte) first (32 ∷ join_with_byte 32 (next ∷ words))
    (All-weaker IsInk (λ byte. 32 ≤ byte) (λ byte ink. omega arith) first plain)
    (All-cons (λ byte. 32 ≤ byte) 32 (join_with_byte 32 (next ∷ words)) (omega arith) (joined_visible next words others.0 others.1))

-- the same of words of which there is one
words_visible : (words : List (List ℕ)) → ArePlain words → 0 < length words → All (λ byte. 32 ≤ byte) (join_with_byte 32 words)
words_visible [] plain some = absurd (omega arith)
words_visible (first ∷ words) plain some = joined_visible first words plain.0 plain.1

-- what is read is one line
is_one_line : (version : ℕ) (bytes : List ℕ) (line : Said) → line_of version bytes ≡ Some line → IsOneLine bytes
is_one_line version bytes line e =
    let spelled = lines_are_spelled version bytes line e in
    let words = words_plain version line spelled.0 in
    record {
      text = join_with_byte 32 (words_of version line);
      is = spelled.1;
      visible = words_visible (words_of version line) words.0 words.1;
      short = omega (arith, lines_are_short version line spelled.0, ap length spelled.1);
    }

-- what is not one line is not read
no_line : (version : ℕ) (bytes : List ℕ) → (IsOneLine bytes → ⊥) → line_of version bytes ≡ None
no_line version bytes never = nothing_of (line_of version bytes) (λ line e. never (is_one_line version bytes line e))

-- a line feed at the end passes the test
ends_anyway : (bytes text : List ℕ) → bytes ≡ text ++ 10 ∷ [] → ends_with_byte 10 bytes ≡ false → ⊥
ends_anyway bytes text is open_end =
    let ends : ends_with_byte 10 bytes ≡ true = ap (ends_with_byte 10) is ∙ ends_with_feed text in
    cc

-- a line feed at the end is found
last_feed : (text : List ℕ) → list_any (λ byte. byte == 10) (text ++ 10 ∷ []) ≡ true
last_feed text = list_any-append (λ byte. byte == 10) text (10 ∷ []) ∙ or-true (list_any (λ byte. byte == 10) text)

-- bytes that are too many have no form
pub long_lines : LongLinesHaveNoForm
long_lines version bytes long = no_line version bytes (λ line. omega (arith, line.short))

-- bytes without a line feed at their end have no form
pub open_lines : OpenLinesHaveNoForm
open_lines version bytes open_end = no_line version bytes (λ line. ends_anyway bytes line.text line.is open_end)

-- bytes with a line feed before their last byte have no form
pub split_lines : SplitLinesHaveNoForm
split_lines version text more some =
    no_line version (text ++ 10 ∷ more)
    (λ line.
    let here : get_or (text ++ 10 ∷ more) (length text) 0 ≡ 10 = get_or-append_seam text 10 more 0 in
    let counts : length text + suc (length more) ≡ length line.text + 1 =
    sym (length-append text (10 ∷ more)) ∙ (ap length line.is ∙ length-append line.text (10 ∷ [])) in
    let inside : length text < length line.text = omega arith in
    let there : get_or (text ++ 10 ∷ more) (length text) 0 ≡ get_or line.text (length text) 0 =
    ap (λ bytes. get_or bytes (length text) 0) line.is ∙ get_or_append_left line.text (10 ∷ []) 0 (length text) inside in
    let seen : 32 ≤ get_or line.text (length text) 0 = All-get_or (λ byte. 32 ≤ byte) line.text (length text) 0 inside line.visible in
    omega arith)

-- where the most bytes of a line stand in front without a line feed, there is no form
pub cut_lines : CutLinesHaveNoForm
cut_lines version text more full none =
    no_line version (text ++ more)
    (λ line.
    let count : length (text ++ more) ≡ length text + length more = length-append text more in
    let short = line.short in
    let nothing : length more ≡ 0 = omega arith in
    let alone : text ≡ line.text ++ 10 ∷ [] = sym (append-nil text) ∙ (ap (λ rest. text ++ rest) (sym (nil_from_length more nothing)) ∙ line.is) in
    let found : list_any (λ byte. byte == 10) text ≡ true = ap (list_any (λ byte. byte == 10)) alone ∙ last_feed line.text in
    cc)
