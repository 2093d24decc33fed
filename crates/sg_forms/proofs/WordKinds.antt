-- The kinds of words: each is read from its spelling alone, in which no byte is a space or a line feed.
use Rattle.std.proofs.Common.{◌≡◌, ℕ, ◌+◌, ◌-◌, ◌*◌, ◌/◌, ◌%◌, ◌<◌, ◌≤◌, ◌==◌, nat_le, Bool, true, false, ◌&&◌, ◌||◌, cond, inl, inr, List, [], ◌∷◌, All, length, slice_index, Option, None, Some, bytes_eq, codes, refl, sym, ap, ◌∙◌, subst, arith}
use Rattle.std.proofs.lemmas.Bool.{agree_below_at, cases_lt, leb-true, eq-eqb, eqb-true, and_parts}
use Rattle.std.proofs.lemmas.List.{get_or_past}
use Rattle.std.proofs.lemmas.List.Elements.{All-nil, All-cons, All-head, All-tail, All-get_or, All-from_get_or, All-weaker}
use Rattle.std.proofs.lemmas.List.Sums.{AllPass-from_list_all}
use Rattle.std.proofs.lemmas.Slice.Eq.{bytes_eq-Decides}
use Rattle.std.specs.List.{list_all}
use Rattle.hex.specs.Hex.{encode_with, lower_digits, IsBytes}
use Rattle.sg_plan.specs.Names.{IsName, IsNameByte}
use Rattle.sg_plan.specs.declared.plan.ClaimWord.{ClaimWord}
use Rattle.sg_plan.specs.declared.plan.ClaimWord.TheVariants.{Posted, Unposted, Absent}
use Rattle.sg_lines.specs.Words.{IsBit, decimal, decimal_of, key_of, digest_of, sign_of, code_word, code_of, encode_lower}
use Rattle.sg_lines.proofs.Hex.{keys_are_spelled, keys_are_read, digests_are_spelled, digests_are_read, length-encode_lower}
use Rattle.sg_lines.proofs.Numbers.{decimals_are_spelled, decimals_are_read, decimal-digits_only}
use Rattle.sg_lines.proofs.Signs.{by_version, codes_are_spelled, codes_are_read, code_word-digits, code_word-signs}
use Rattle.sg_forms.specs.Reading.{is_few, is_name_byte, is_bit_sign, is_hex_sign, name_of, bits_of, digits_of, claim_of}
use Rattle.sg_forms.specs.Spelling.{IsNumber, IsCode, AreBytes, AreFewBits, AreDigits, claim_word}
use Rattle.sg_forms.proofs.Kept.{kept_yes, kept_found, few_parts, few_test, name_kept, name_from_test, bits_kept, bits_from_test}

-- a byte above the space, and so above the line feed
abbrev pub IsInk : ℕ → Type 0
IsInk byte = 33 ≤ byte

-- a kind of words: what is read is in range and spelled so, and what is in range is read from its spelling, which has
-- no space and no line feed
pub record IsKind {A : Type 0} (read : List ℕ → Option A) (spell : A → List ℕ) (Fits : A → Type 0) : Type 0 where
  pub found : (word : List ℕ) (value : A) → read word ≡ Some value → Fits value × (word ≡ spell value)
  pub only : (value : A) → Fits value → read (spell value) ≡ Some value
  pub plain : (value : A) → Fits value → All IsInk (spell value)

-- a literal without a space and a line feed
pub literal_plain : (word : List ℕ) → list_all (λ byte. nat_le 33 byte) word ≡ true → All IsInk word
literal_plain word e = All-weaker (λ byte. nat_le 33 byte ≡ true) IsInk (leb-true 33) word (AllPass-from_list_all (λ byte. nat_le 33 byte) word e)

-- ---- numbers

pub number_kind : IsKind decimal_of decimal IsNumber
number_kind = record {
  found = decimals_are_spelled;
  only = decimals_are_read;
  plain = λ number fits. All-weaker (λ byte. (48 ≤ byte) × (byte ≤ 57)) IsInk (λ byte digit. omega arith) (decimal number) (decimal-digits_only number fits);
}

-- ---- keys, digests and public bytes

-- bytes in a list are bytes at each index, and past the end
pub bytes_everywhere : (bytes : List ℕ) → All (λ byte. byte < 256) bytes → IsBytes bytes
bytes_everywhere bytes all i = elim (cases_lt i (length bytes)) [
  | inl below ↦ All-get_or (λ byte. byte < 256) bytes i 0 below all
  | inr past ↦ rw (get_or_past bytes i 0 past) (omega arith)
]

-- bytes at each index are those of the list
pub bytes_in_list : (bytes : List ℕ) → IsBytes bytes → All (λ byte. byte < 256) bytes
bytes_in_list bytes everywhere = All-from_get_or (λ byte. byte < 256) bytes 0 (λ i below. everywhere i)

-- a digit passes the test
lower_digit_sign : (value : ℕ) → value < 16 → is_hex_sign (slice_index lower_digits value) ≡ true
lower_digit_sign value fits = agree_below_at (λ v. is_hex_sign (slice_index lower_digits v)) (λ v. true) 16 value refl fits

-- bytes are spelled in hexadecimal digits
pub hex_signs : (bytes : List ℕ) → All (λ byte. byte < 256) bytes → list_all is_hex_sign (encode_lower bytes) ≡ true
unfolding encode_with
hex_signs [] all = refl
hex_signs (byte ∷ bytes) all =
    let fits : byte < 256 = All-head (λ b. b < 256) byte bytes all in
    rw (lower_digit_sign (byte / 16) (omega arith), lower_digit_sign (byte % 16) (omega arith)) (hex_signs bytes (All-tail (λ b. b < 256) byte bytes all))

-- `sign_ink`, by the two ranges
sign_ink_at : (byte : ℕ) (digit letter : Bool) → (digit ≡ true → 48 ≤ byte) → (letter ≡ true → 97 ≤ byte) → (digit || letter) ≡ true → IsInk byte
sign_ink_at byte true letter low high e = omega (arith, low refl)
sign_ink_at byte false true low high e = omega (arith, high refl)
sign_ink_at byte false false low high e = cc

-- a hexadecimal digit is above the space
sign_ink : (byte : ℕ) → is_hex_sign byte ≡ true → IsInk byte
sign_ink byte e =
    sign_ink_at byte (nat_le 48 byte && nat_le byte 57) (nat_le 97 byte && nat_le byte 102)
    (λ digit. leb-true 48 byte (and_parts (nat_le 48 byte) (nat_le byte 57) digit).0)
    (λ letter. leb-true 97 byte (and_parts (nat_le 97 byte) (nat_le byte 102) letter).0) e

-- a spelling in hexadecimal digits has no space and no line feed
pub hex_plain : (bytes : List ℕ) → All (λ byte. byte < 256) bytes → All IsInk (encode_lower bytes)
hex_plain bytes all = All-weaker (λ byte. is_hex_sign byte ≡ true) IsInk sign_ink (encode_lower bytes) (AllPass-from_list_all is_hex_sign (encode_lower bytes) (hex_signs bytes all))

pub key_kind : IsKind key_of encode_lower (AreBytes 16)
key_kind = record {
  found = λ word key e. let read = keys_are_spelled word key e in ((read.0, bytes_in_list key read.1), read.2);
  only = λ key fits. keys_are_read key fits.0 (bytes_everywhere key fits.1);
  plain = λ key fits. hex_plain key fits.1;
}

pub digest_kind : IsKind digest_of encode_lower (AreBytes 32)
digest_kind = record {
  found = λ word digest e. let read = digests_are_spelled word digest e in ((read.0, bytes_in_list digest read.1), read.2);
  only = λ digest fits. digests_are_read digest fits.0 (bytes_everywhere digest fits.1);
  plain = λ digest fits. hex_plain digest fits.1;
}

-- a hexadecimal digit has a value
pub record HasValue (sign : ℕ) : Type 0 where
  pub value : ℕ
  pub fits : value < 16
  pub spelled : sign ≡ slice_index lower_digits value

-- a decimal digit by its value
digit_sign : (value : ℕ) → value < 10 → 48 + value ≡ slice_index lower_digits value
digit_sign value fits = eqb-true (48 + value) (slice_index lower_digits value) (agree_below_at (λ v. 48 + v == slice_index lower_digits v) (λ v. true) 10 value refl fits)

-- a letter by its value
letter_sign : (value : ℕ) → value < 6 → 97 + value ≡ slice_index lower_digits (10 + value)
letter_sign value fits = eqb-true (97 + value) (slice_index lower_digits (10 + value)) (agree_below_at (λ v. 97 + v == slice_index lower_digits (10 + v)) (λ v. true) 6 value refl fits)

-- `value_of_sign`, by the two ranges
value_at : (sign : ℕ) (digit letter : Bool) → (digit ≡ true → (48 ≤ sign) × (sign ≤ 57)) → (letter ≡ true → (97 ≤ sign) × (sign ≤ 102)) → (digit || letter) ≡ true → HasValue sign
value_at sign true letter low high e =
    let range = low refl in
    let back : sign ≡ 48 + (sign - 48) = omega (arith, range) in
    record { value = sign - 48; fits = omega (arith, range); spelled = back ∙ digit_sign (sign - 48) (omega (arith, range)) }
value_at sign false true low high e =
    let range = high refl in
    let back : sign ≡ 97 + (sign - 97) = omega (arith, range) in
    record { value = 10 + (sign - 97); fits = omega (arith, range); spelled = back ∙ letter_sign (sign - 97) (omega (arith, range)) }
value_at sign false false low high e = cc

-- each sign that passes the test is a digit
value_of_sign : (sign : ℕ) → is_hex_sign sign ≡ true → HasValue sign
value_of_sign sign e =
    value_at sign (nat_le 48 sign && nat_le sign 57) (nat_le 97 sign && nat_le sign 102)
    (λ digit. let parts = and_parts (nat_le 48 sign) (nat_le sign 57) digit in (leb-true 48 sign parts.0, leb-true sign 57 parts.1))
    (λ letter. let parts = and_parts (nat_le 97 sign) (nat_le sign 102) letter in (leb-true 97 sign parts.0, leb-true sign 102 parts.1)) e

-- an even number of hexadecimal digits spells bytes
pub record SpellsBytes (word : List ℕ) : Type 0 where
  pub bytes : List ℕ
  pub spelled : word ≡ encode_lower bytes
  pub fit : All (λ byte. byte < 256) bytes

-- an even number of hexadecimal digits spells bytes
pub spells_bytes : (word : List ℕ) → length word % 2 ≡ 0 → list_all is_hex_sign word ≡ true → SpellsBytes word
unfolding encode_with
spells_bytes [] even signs = record { bytes = []; spelled = refl; fit = All-nil (λ byte. byte < 256) }
spells_bytes (high ∷ []) even signs = absurd (omega arith)
spells_bytes (high ∷ low ∷ word) even signs =
    let first = and_parts (is_hex_sign high) (is_hex_sign low && list_all is_hex_sign word) signs in
    let second = and_parts (is_hex_sign low) (list_all is_hex_sign word) first.1 in
    let a = value_of_sign high first.0 in
    let b = value_of_sign low second.0 in
    let rest = spells_bytes word (omega arith) second.1 in
    let byte : ℕ = 16 * a.value + b.value in
    let a_fits = a.fits in
    let b_fits = b.fits in
    let high_is : byte / 16 ≡ a.value = omega arith in
    let low_is : byte % 16 ≡ b.value = omega arith in
    record {
      bytes = byte ∷ rest.bytes;
      spelled = rw (high_is, low_is, ← a.spelled, ← b.spelled, ← rest.spelled) refl;
      fit = All-cons (λ b. b < 256) byte rest.bytes (omega arith) rest.fit;
    }

-- public bytes that are read
digits_found : (word value : List ℕ) → digits_of word ≡ Some value → AreDigits value × (word ≡ value)
digits_found word value e =
    let kept = kept_found (λ w. is_few 8192 w && ((length w % 2 == 0) && list_all is_hex_sign w)) word value e in
    let parts = few_parts 8192 ((length word % 2 == 0) && list_all is_hex_sign word) word kept.0 in
    let tests = and_parts (length word % 2 == 0) (list_all is_hex_sign word) parts.2 in
    let even : length word % 2 ≡ 0 = eqb-true (length word % 2) 0 tests.0 in
    let spells = spells_bytes word even tests.1 in
    let count : length word ≡ 2 * length spells.bytes = ap length spells.spelled ∙ length-encode_lower spells.bytes in
    (subst AreDigits kept.1 (spells.bytes, spells.spelled, spells.fit, omega (arith, parts.0), omega (arith, parts.1)), kept.1)

-- public bytes in range are read
digits_only : (digits : List ℕ) → AreDigits digits → digits_of digits ≡ Some digits
digits_only digits fits =
    let count : length digits ≡ 2 * length fits.0 = ap length fits.1 ∙ length-encode_lower fits.0 in
    let some = fits.3 in
    let few = fits.4 in
    let signs : list_all is_hex_sign digits ≡ true = ap (list_all is_hex_sign) fits.1 ∙ hex_signs fits.0 fits.2 in
    let even : length digits % 2 ≡ 0 = omega arith in
    kept_yes (λ w. is_few 8192 w && ((length w % 2 == 0) && list_all is_hex_sign w)) digits
    (few_test 8192 ((length digits % 2 == 0) && list_all is_hex_sign digits) digits (omega arith) (omega arith) (rw (eq-eqb (length digits % 2) 0 even, signs) refl))

pub digits_kind : IsKind digits_of (λ word. word) AreDigits
digits_kind = record {
  found = digits_found;
  only = digits_only;
  plain = λ digits fits. subst (All IsInk) (sym fits.1) (hex_plain fits.0 fits.2);
}

-- ---- codes

-- three bytes above the space
three_plain : (a b c : ℕ) → IsInk a → IsInk b → IsInk c → All IsInk (a ∷ b ∷ c ∷ [])
three_plain a b c first second third = All-cons IsInk a (b ∷ c ∷ []) first (All-cons IsInk b (c ∷ []) second (All-cons IsInk c [] third (All-nil IsInk)))

-- a sign of a code is above the space
sign_of_ink : (value : ℕ) → value < 32 → IsInk (sign_of value)
unfolding sign_of
sign_of_ink value fits = leb-true 33 (sign_of value) (agree_below_at (λ v. nat_le 33 (sign_of v)) (λ v. true) 32 value refl fits)

-- a code has no space and no line feed
code_plain : (version code : ℕ) → IsCode version code → All IsInk (code_word version code)
code_plain version code fits =
    by_version (λ v. All IsInk (code_word v code)) version code fits
    (λ small. subst (All IsInk) (sym (code_word-digits code)) (three_plain _ _ _ (omega arith) (omega arith) (omega arith)))
    (λ small. subst (All IsInk) (sym (code_word-signs code))
    (three_plain _ _ _ (sign_of_ink (code / 32 / 32) (omega arith)) (sign_of_ink (code / 32 % 32) (omega arith)) (sign_of_ink (code % 32) (omega arith))))

pub code_kind : (version : ℕ) → IsKind (code_of version) (code_word version) (IsCode version)
code_kind version = record { found = codes_are_spelled version; only = codes_are_read version; plain = code_plain version }

-- ---- names and bits

pub name_kind : IsKind name_of (λ word. word) IsName
name_kind = record {
  found = λ word value e. let kept = kept_found (λ w. is_few 64 w && list_all is_name_byte w) word value e in (subst IsName kept.1 (name_from_test word kept.0), kept.1);
  only = name_kept;
  plain = λ word fits. All-weaker IsNameByte IsInk (λ byte seen. omega arith) word fits.2;
}

-- a bit is above the space
bit_ink : (byte : ℕ) → IsBit byte → IsInk byte
bit_ink byte (inl zero_sign) = omega arith
bit_ink byte (inr one_sign) = omega arith

pub bits_kind : IsKind bits_of (λ word. word) AreFewBits
bits_kind = record {
  found = λ word value e. let kept = kept_found (λ w. is_few 64 w && list_all is_bit_sign w) word value e in (subst AreFewBits kept.1 (bits_from_test word kept.0), kept.1);
  only = λ word fits. bits_kept word fits.0 fits.1 fits.2;
  plain = λ word fits. All-weaker IsBit IsInk bit_ink word fits.2.1;
}

-- ---- a dispute's answer

-- `claim_found`, by the three tests
claim_found_at : (word : List ℕ) (value : ClaimWord) (posted unposted absent : Bool)
    → (posted ≡ true → word ≡ codes "posted") → (unposted ≡ true → word ≡ codes "unposted") → (absent ≡ true → word ≡ codes "absent")
    → cond posted (Some Posted) (cond unposted (Some Unposted) (cond absent (Some Absent) None)) ≡ Some value
    → Unit {0} × (word ≡ claim_word value)
claim_found_at word value true unposted absent p u a e = (tt, p refl ∙ ap claim_word (let same : Posted ≡ value = cc in same))
claim_found_at word value false true absent p u a e = (tt, u refl ∙ ap claim_word (let same : Unposted ≡ value = cc in same))
claim_found_at word value false false true p u a e = (tt, a refl ∙ ap claim_word (let same : Absent ≡ value = cc in same))
claim_found_at word value false false false p u a e = cc

-- an answer that is read
claim_found : (word : List ℕ) (value : ClaimWord) → claim_of word ≡ Some value → Unit {0} × (word ≡ claim_word value)
claim_found word value e =
    claim_found_at word value (bytes_eq word (codes "posted")) (bytes_eq word (codes "unposted")) (bytes_eq word (codes "absent"))
    (bytes_eq-Decides word (codes "posted")).0 (bytes_eq-Decides word (codes "unposted")).0 (bytes_eq-Decides word (codes "absent")).0 e

-- each answer is read from its word
claim_only : (value : ClaimWord) → Unit {0} → claim_of (claim_word value) ≡ Some value
claim_only Posted fits = refl
claim_only Unposted fits = refl
claim_only Absent fits = refl

-- an answer has no space and no line feed
claim_plain : (value : ClaimWord) → Unit {0} → All IsInk (claim_word value)
claim_plain Posted fits = literal_plain (codes "posted") refl
claim_plain Unposted fits = literal_plain (codes "unposted") refl
claim_plain Absent fits = literal_plain (codes "absent") refl

pub claim_kind : IsKind claim_of claim_word (λ word. Unit {0})
claim_kind = record { found = claim_found; only = claim_only; plain = claim_plain }
