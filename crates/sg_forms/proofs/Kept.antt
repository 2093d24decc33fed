-- The tests of words that a line keeps as they are say what the definitions of names and bits say.
use Rattle.std.proofs.Common.{◌≡◌, ℕ, ◌<◌, ◌≤◌, Bool, true, false, cond, ◌&&◌, ◌||◌, ◌==◌, nat_le, List, length, Option, None, Some, inl, inr, refl, arith}
use Rattle.std.proofs.lemmas.Bool.{leb-true, le-leb, eqb-true, and_parts}
use Rattle.std.proofs.lemmas.List.Elements.{All-weaker}
use Rattle.std.proofs.lemmas.List.Sums.{AllPass-from_list_all, list_all-from_AllPass}
use Rattle.std.specs.List.{list_all}
use Rattle.sg_plan.specs.Names.{IsName, IsNameByte}
use Rattle.sg_lines.specs.Words.{IsBit, IsBits}
use Rattle.sg_forms.specs.Reading.{kept_where, is_few, is_name_byte, name_of, is_bit_sign, bits_of}

-- what is kept
pub kept_yes : (test : List ℕ → Bool) (word : List ℕ) → test word ≡ true → kept_where test word ≡ Some word
kept_yes test word yes_test = rw yes_test refl

-- `kept_no`, by the test
none_kept : (word : List ℕ) (test : Bool) → (test ≡ true → ⊥) → cond {A = Option (List ℕ)} test (Some word) None ≡ None
none_kept word true never = absurd (never refl)
none_kept word false never = refl

-- what is not kept
pub kept_no : (test : List ℕ → Bool) (word : List ℕ) → (test word ≡ true → ⊥) → kept_where test word ≡ None
kept_no test word never = none_kept word (test word) never

-- `kept_found`, by the test
kept_found_at : (word value : List ℕ) (test : Bool) → cond {A = Option (List ℕ)} test (Some word) None ≡ Some value → (test ≡ true) × (word ≡ value)
kept_found_at word value true e = (refl, cc)
kept_found_at word value false e = cc

-- a word that is kept passes
pub kept_found : (test : List ℕ → Bool) (word value : List ℕ) → kept_where test word ≡ Some value → (test word ≡ true) × (word ≡ value)
kept_found test word value e = kept_found_at word value (test word) e

-- the parts of a test of a short word
pub few_parts : (most : ℕ) (test : Bool) (word : List ℕ) → (is_few most word && test) ≡ true → (1 ≤ length word) × (length word ≤ most) × (test ≡ true)
few_parts most test word is =
    let parts = and_parts (is_few most word) test is in
    let ends = and_parts (nat_le 1 (length word)) (nat_le (length word) most) parts.0 in
    (leb-true 1 (length word) ends.0, leb-true (length word) most ends.1, parts.1)

-- a short word that passes
pub few_test : (most : ℕ) (test : Bool) (word : List ℕ) → 1 ≤ length word → length word ≤ most → test ≡ true → (is_few most word && test) ≡ true
few_test most test word some few passes = rw (le-leb 1 (length word) some, le-leb (length word) most few, passes) refl

-- ---- names

-- the test of a byte of a name
name_byte_test : (byte : ℕ) → IsNameByte byte → is_name_byte byte ≡ true
name_byte_test byte is = rw (le-leb 0x21 byte is.0, le-leb byte 0x7E is.1) refl

-- a byte that passes the test
name_byte_from_test : (byte : ℕ) → is_name_byte byte ≡ true → IsNameByte byte
name_byte_from_test byte test =
    let parts = and_parts (nat_le 0x21 byte) (nat_le byte 0x7E) test in
    (leb-true 0x21 byte parts.0, leb-true byte 0x7E parts.1)

-- a name passes the test
pub name_test : (word : List ℕ) → IsName word → (is_few 64 word && list_all is_name_byte word) ≡ true
name_test word named =
    let all = list_all-from_AllPass is_name_byte word (All-weaker IsNameByte (λ b. is_name_byte b ≡ true) name_byte_test word named.2) in
    few_test 64 (list_all is_name_byte word) word named.0 named.1 all

-- what passes the test is a name
pub name_from_test : (word : List ℕ) → (is_few 64 word && list_all is_name_byte word) ≡ true → IsName word
name_from_test word test =
    let parts = few_parts 64 (list_all is_name_byte word) word test in
    (parts.0, parts.1, All-weaker (λ b. is_name_byte b ≡ true) IsNameByte name_byte_from_test word (AllPass-from_list_all is_name_byte word parts.2))

-- a name is kept
pub name_kept : (word : List ℕ) → IsName word → name_of word ≡ Some word
name_kept word named = kept_yes (λ w. is_few 64 w && list_all is_name_byte w) word (name_test word named)

-- what is no name is not kept
pub no_name : (word : List ℕ) → (IsName word → ⊥) → name_of word ≡ None
no_name word never = kept_no (λ w. is_few 64 w && list_all is_name_byte w) word (λ test. never (name_from_test word test))

-- ---- bits

-- the test of a bit
bit_test : (byte : ℕ) → IsBit byte → is_bit_sign byte ≡ true
bit_test byte (inl zero_sign) = rw zero_sign refl
bit_test byte (inr one_sign) = rw one_sign refl

-- `bit_from_test`, by the tests of both signs
bit_cases : (byte : ℕ) (zero_sign one_sign : Bool) → (byte == 48) ≡ zero_sign → (byte == 49) ≡ one_sign → (zero_sign || one_sign) ≡ true → IsBit byte
bit_cases byte true one_sign e f test = inl (eqb-true byte 48 e)
bit_cases byte false true e f test = inr (eqb-true byte 49 f)
bit_cases byte false false e f test = cc

-- a sign that passes the test is a bit
bit_from_test : (byte : ℕ) → is_bit_sign byte ≡ true → IsBit byte
bit_from_test byte test = bit_cases byte (byte == 48) (byte == 49) refl refl test

-- few bits pass the test
pub bits_test : (word : List ℕ) → 1 ≤ length word → length word ≤ 64 → IsBits (length word) word → (is_few 64 word && list_all is_bit_sign word) ≡ true
bits_test word some few are =
    few_test 64 (list_all is_bit_sign word) word some few (list_all-from_AllPass is_bit_sign word (All-weaker IsBit (λ b. is_bit_sign b ≡ true) bit_test word are.1))

-- what passes the test is few bits
pub bits_from_test : (word : List ℕ) → (is_few 64 word && list_all is_bit_sign word) ≡ true → (1 ≤ length word) × (length word ≤ 64) × IsBits (length word) word
bits_from_test word test =
    let parts = few_parts 64 (list_all is_bit_sign word) word test in
    (parts.0, parts.1, (refl, All-weaker (λ b. is_bit_sign b ≡ true) IsBit bit_from_test word (AllPass-from_list_all is_bit_sign word parts.2)))

-- few bits are kept
pub bits_kept : (word : List ℕ) → 1 ≤ length word → length word ≤ 64 → IsBits (length word) word → bits_of word ≡ Some word
bits_kept word some few are = kept_yes (λ w. is_few 64 w && list_all is_bit_sign w) word (bits_test word some few are)

-- what is no bits is not kept
pub no_bits : (word : List ℕ) → (IsBits (length word) word → ⊥) → bits_of word ≡ None
no_bits word never = kept_no (λ w. is_few 64 w && list_all is_bit_sign w) word (λ test. never (bits_from_test word test).2)

-- too many bits are not kept
pub no_few_bits : (word : List ℕ) → 64 < length word → bits_of word ≡ None
no_few_bits word many = kept_no (λ w. is_few 64 w && list_all is_bit_sign w) word (λ test. let few = (bits_from_test word test).1 in omega (arith, few))
