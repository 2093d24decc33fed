-- The text of each act of the version is made of plain bytes.
use Rattle.std.proofs.Common.{◌≡◌, ℕ, ◌+◌, ◌/◌, ◌%◌, ◌<◌, ◌≤◌, nat_le, Bool, true, false, ◌&&◌, ◌||◌, inl, inr, List, [], ◌∷◌, All, map, codes, refl, sym, subst, arith}
use Rattle.std.specs.List.{join_with_byte, list_all}
use Rattle.std.proofs.lemmas.Bool.{agree_below_at, and_parts, leb-true}
use Rattle.std.proofs.lemmas.List.Elements.{All-append, All-cons, All-head, All-nil, All-tail, All-weaker}
use Rattle.std.proofs.lemmas.List.Sums.{AllPass-from_list_all}
use Rattle.sg_plan.specs.declared.plan.Draw.{Draw}
use Rattle.sg_plan.specs.declared.plan.Draw.TheVariants as draw
use Rattle.sg_plan.specs.declared.plan.Mark.{Mark}
use Rattle.sg_lines.specs.Words.{code_word, decimal, encode_lower, sign_of}
use Rattle.sg_lines.proofs.Numbers.{decimal-digits_only}
use Rattle.sg_lines.proofs.Signs.{by_version, code_word-digits, code_word-signs}
use Rattle.sg_forms.specs.Reading.{is_hex_sign}
use Rattle.sg_forms.specs.Spelling.{IsCode, IsNumber}
use Rattle.sg_forms.proofs.WordKinds.{hex_signs}
use Rattle.sg_acts.specs.declared.asks.Act.{Act}
use Rattle.sg_acts.specs.declared.asks.Act.TheVariants as act
use Rattle.sg_asks.specs.Replies.{IsPlain}
use Rattle.sg_desks.specs.ActTexts.{HasCodes, HasNumbers, IsDraw, IsMark, act_text, codes_word, draw_word, mark_word}

-- the byte is in one of two ranges
in_one : (byte a b c d : ℕ) (first second : Bool) → (first ≡ true → (a ≤ byte) × (byte ≤ b)) → (second ≡ true → (c ≤ byte) × (byte ≤ d)) → (P : Type 0)
    → ((a ≤ byte) × (byte ≤ b) → P) → ((c ≤ byte) × (byte ≤ d) → P) → (first || second) ≡ true → P
in_one byte a b c d true second one two P left right e = left (one refl)
in_one byte a b c d false true one two P left right e = right (two refl)
in_one byte a b c d false false one two P left right e = cc

between : (byte a b : ℕ) → (nat_le a byte && nat_le byte b) ≡ true → (a ≤ byte) × (byte ≤ b)
between byte a b e = let parts = and_parts (nat_le a byte) (nat_le byte b) e in (leb-true a byte parts.0, leb-true byte b parts.1)

-- a literal of lower-case letters
abbrev is_lower : ℕ → Bool
is_lower byte = nat_le 97 byte && nat_le byte 122

literal_plain : (word : List ℕ) → list_all is_lower word ≡ true → All IsPlain word
literal_plain word e = All-weaker (λ byte. is_lower byte ≡ true) IsPlain (λ byte letter. inl (between byte 97 122 letter)) word (AllPass-from_list_all is_lower word e)

digit_plain : (byte : ℕ) → 48 ≤ byte → byte ≤ 58 → IsPlain byte
digit_plain byte low high = inr (inr (inl (low, high)))

space_plain : IsPlain 32
space_plain = inr (inr (inr (inl refl)))

comma_plain : IsPlain 44
comma_plain = inr (inr (inr (inr refl)))

number_plain : (number : ℕ) → IsNumber number → All IsPlain (decimal number)
number_plain number fits = All-weaker (λ byte. (48 ≤ byte) × (byte ≤ 57)) IsPlain (λ byte digit. digit_plain byte digit.0 (omega (arith, digit.1))) (decimal number) (decimal-digits_only number fits)

mark_plain : (mark : Mark) → IsMark mark → All IsPlain (mark_word mark)
mark_plain mark fits =
    All-append IsPlain (decimal mark.race) (58 ∷ decimal mark.candidate) (number_plain mark.race fits.0)
    (All-cons IsPlain 58 (decimal mark.candidate) (digit_plain 58 (omega arith) (omega arith)) (number_plain mark.candidate fits.1))

hex_sign_plain : (byte : ℕ) → is_hex_sign byte ≡ true → IsPlain byte
hex_sign_plain byte e =
    in_one byte 48 57 97 102 (nat_le 48 byte && nat_le byte 57) (nat_le 97 byte && nat_le byte 102) (between byte 48 57) (between byte 97 102) (IsPlain byte)
    (λ digit. digit_plain byte digit.0 (omega (arith, digit.1))) (λ letter. inl (letter.0, omega (arith, letter.1))) e

hex_plain : (bytes : List ℕ) → All (λ byte. byte < 256) bytes → All IsPlain (encode_lower bytes)
hex_plain bytes fit = All-weaker (λ byte. is_hex_sign byte ≡ true) IsPlain hex_sign_plain (encode_lower bytes) (AllPass-from_list_all is_hex_sign (encode_lower bytes) (hex_signs bytes fit))

three_plain : (a b c : ℕ) → IsPlain a → IsPlain b → IsPlain c → All IsPlain (a ∷ b ∷ c ∷ [])
three_plain a b c first second third =
    All-cons IsPlain a (b ∷ c ∷ []) first (All-cons IsPlain b (c ∷ []) second (All-cons IsPlain c [] third (All-nil IsPlain)))

-- a sign of version 2: an upper-case letter or a digit
abbrev is_sign : ℕ → Bool
is_sign byte = (nat_le 65 byte && nat_le byte 90) || (nat_le 48 byte && nat_le byte 58)

sign_plain : (value : ℕ) → value < 32 → IsPlain (sign_of value)
unfolding sign_of
sign_plain value fits =
    let byte = sign_of value in
    in_one byte 65 90 48 58 (nat_le 65 byte && nat_le byte 90) (nat_le 48 byte && nat_le byte 58) (between byte 65 90) (between byte 48 58) (IsPlain byte)
    (λ letter. inr (inl letter)) (λ digit. digit_plain byte digit.0 digit.1) (agree_below_at (λ v. is_sign (sign_of v)) (λ v. true) 32 value refl fits)

digits_plain : (value : ℕ) → value < 10 → IsPlain (48 + value)
digits_plain value fits = digit_plain (48 + value) (omega arith) (omega (arith, fits))

code_plain : (version code : ℕ) → IsCode version code → All IsPlain (code_word version code)
code_plain version code fits =
    by_version (λ v. All IsPlain (code_word v code)) version code fits
    (λ small. subst (All IsPlain) (sym (code_word-digits code))
    (three_plain (48 + code / 10 / 10) (48 + code / 10 % 10) (48 + code % 10)
    (digits_plain (code / 10 / 10) (omega (arith, small))) (digits_plain (code / 10 % 10) (omega arith)) (digits_plain (code % 10) (omega arith))))
    (λ small. subst (All IsPlain) (sym (code_word-signs code))
    (three_plain (sign_of (code / 32 / 32)) (sign_of (code / 32 % 32)) (sign_of (code % 32))
    (sign_plain (code / 32 / 32) (omega (arith, small))) (sign_plain (code / 32 % 32) (omega arith)) (sign_plain (code % 32) (omega arith))))

-- WORDS

abbrev ArePlain : List (List ℕ) → Type 0
ArePlain [] = Unit {0}
ArePlain (word ∷ words) = All IsPlain word × ArePlain words

each_plain : {B : Type 0} (spell : B → List ℕ) (Fits : B → Type 0) → ((value : B) → Fits value → All IsPlain (spell value)) → (values : List B) → All Fits values → ArePlain (map spell values)
each_plain spell Fits plain [] fit = tt
each_plain spell Fits plain (value ∷ values) fit = (plain value (All-head Fits value values fit), each_plain spell Fits plain values (All-tail Fits value values fit))

joined_plain : (byte : ℕ) → IsPlain byte → (words : List (List ℕ)) → ArePlain words → All IsPlain (join_with_byte byte words)
joined_plain byte is [] all = All-nil IsPlain
joined_plain byte is (word ∷ []) all = all.0
joined_plain byte is (word ∷ next ∷ words) all =
    All-append IsPlain word (byte ∷ join_with_byte byte (next ∷ words)) all.0 (All-cons IsPlain byte (join_with_byte byte (next ∷ words)) is (joined_plain byte is (next ∷ words) all.1))

list_plain : (version : ℕ) (list : List ℕ) → All (IsCode version) list → All IsPlain (codes_word version list)
list_plain version list fit = joined_plain 44 comma_plain (map (code_word version) list) (each_plain (code_word version) (IsCode version) (code_plain version) list fit)

draw_plain : (drawn : Draw) → IsDraw drawn → All IsPlain (draw_word drawn)
draw_plain draw.Full fits = literal_plain (codes "full") refl
draw_plain (draw.Public bytes) fits = hex_plain bytes fits

-- the text of an act whose numbers are in range and whose codes are codes of the version
pub text_plain : (version : ℕ) (done : Act) → HasNumbers done → HasCodes version done → All IsPlain (act_text version done)
unfolding act_text
text_plain version (act.Scan ballot marks) fits has =
    joined_plain 32 space_plain (codes "scan" ∷ decimal ballot ∷ map mark_word marks)
    (literal_plain (codes "scan") refl, (number_plain ballot fits.0, each_plain mark_word IsMark mark_plain marks fits.1))
text_plain version (act.Spoil ballot) fits has = joined_plain 32 space_plain (codes "spoil" ∷ decimal ballot ∷ []) (literal_plain (codes "spoil") refl, (number_plain ballot fits, tt))
text_plain version (act.Audit ballot paper) fits has =
    joined_plain 32 space_plain (codes "audit" ∷ decimal ballot ∷ map (codes_word version) paper)
    (literal_plain (codes "audit") refl, (number_plain ballot fits, each_plain (codes_word version) (All (IsCode version)) (list_plain version) paper has))
text_plain version act.Close fits has = joined_plain 32 space_plain (codes "close" ∷ []) (literal_plain (codes "close") refl, tt)
text_plain version (act.Draw drawn) fits has = joined_plain 32 space_plain (codes "draw" ∷ draw_word drawn ∷ []) (literal_plain (codes "draw") refl, (draw_plain drawn fits, tt))
text_plain version (act.Claim ballot race code) fits has =
    joined_plain 32 space_plain (codes "claim" ∷ decimal ballot ∷ decimal race ∷ code_word version code ∷ [])
    (literal_plain (codes "claim") refl, (number_plain ballot fits.0, (number_plain race fits.1, (code_plain version code has, tt))))
text_plain version (act.Void ballot) fits has = joined_plain 32 space_plain (codes "void" ∷ decimal ballot ∷ []) (literal_plain (codes "void") refl, (number_plain ballot fits, tt))
