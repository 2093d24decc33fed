-- No word of a line has a space.
use Rattle.std.proofs.Common.{◌≡◌, ℕ, ◌+◌, ◌/◌, ◌%◌, ◌^◌, ◌<◌, ◌≤◌, ◌==◌, false, inl, inr, List, [], ◌∷◌, slice_index, refl, arith}
use Rattle.std.proofs.lemmas.Bool.{agree_below_at, cases_lt, ne_eqb}
use Rattle.std.proofs.lemmas.List.{get_or_past}
use Rattle.std.proofs.lemmas.List.Elements.{All-cons, All-nil, All-weaker}
use Rattle.hex.specs.Hex.{encode_with, lower_digits}
use Rattle.sg_plan.specs.Codes.{codes_of}
use Rattle.sg_plan.specs.Names.{IsName, IsNameByte}
use Rattle.sg_lines.specs.Words.{decimal, encode_lower, digit_of, sign_of, code_word, IsBit, IsBits, HasNoSpace}
use Rattle.sg_lines.proofs.Numbers.{decimal-digits_only}
use Rattle.sg_lines.proofs.Signs.{by_version}

-- the byte is no space
abbrev IsNoSpace : ℕ → Type 0
IsNoSpace byte = (byte == 32) ≡ false

-- numbers
pub HasNoSpace-decimal : (n : ℕ) → n < 2 ^ 32 → HasNoSpace (decimal n)
HasNoSpace-decimal n small =
    All-weaker (λ byte. (48 ≤ byte) × (byte ≤ 57)) IsNoSpace (λ byte digit. ne_eqb byte 32 (λ space. omega arith)) (decimal n) (decimal-digits_only n small)

-- hexadecimal digits, each
lower_digit-no_space : (value : ℕ) → IsNoSpace (slice_index lower_digits value)
lower_digit-no_space value =
    elim (cases_lt value 16) [
      | inl below ↦ agree_below_at (λ v. slice_index lower_digits v == 32) (λ v. false) 16 value refl below
      | inr past ↦ rw (get_or_past lower_digits value 0 past) refl
    ]

-- keys, digests and other bytes in hexadecimal digits
pub HasNoSpace-encode_lower : (bytes : List ℕ) → HasNoSpace (encode_lower bytes)
unfolding encode_with
HasNoSpace-encode_lower [] = All-nil IsNoSpace
HasNoSpace-encode_lower (byte ∷ rest) =
    All-cons IsNoSpace (slice_index lower_digits (byte / 16)) (slice_index lower_digits (byte % 16) ∷ encode_lower rest) (lower_digit-no_space (byte / 16))
    (All-cons IsNoSpace (slice_index lower_digits (byte % 16)) (encode_lower rest) (lower_digit-no_space (byte % 16)) (HasNoSpace-encode_lower rest))

-- the signs of version 2, each
sign_of-no_space : (value : ℕ) → value < 32 → IsNoSpace (sign_of value)
unfolding sign_of
sign_of-no_space value fits = agree_below_at (λ v. sign_of v == 32) (λ v. false) 32 value refl fits

-- three bytes that are no spaces
three : (a b c : ℕ) → IsNoSpace a → IsNoSpace b → IsNoSpace c → HasNoSpace (a ∷ b ∷ c ∷ [])
three a b c first second third =
    All-cons IsNoSpace a (b ∷ c ∷ []) first (All-cons IsNoSpace b (c ∷ []) second (All-cons IsNoSpace c [] third (All-nil IsNoSpace)))

-- decimal digits, each
digit_of-no_space : (value : ℕ) → IsNoSpace (digit_of value)
digit_of-no_space value = ne_eqb (48 + value) 32 (λ space. omega arith)

-- codes
pub HasNoSpace-code_word : (version code : ℕ) → code < codes_of version → HasNoSpace (code_word version code)
unfolding code_word
HasNoSpace-code_word version code fits =
    by_version (λ v. HasNoSpace (code_word v code)) version code fits
    (λ small. three _ _ _ (digit_of-no_space (code / 10 / 10)) (digit_of-no_space (code / 10 % 10)) (digit_of-no_space (code % 10)))
    (λ small.
    three _ _ _ (sign_of-no_space (code / 32 / 32) (omega arith)) (sign_of-no_space (code / 32 % 32) (omega arith)) (sign_of-no_space (code % 32) (omega arith)))

-- names
pub HasNoSpace-name : (word : List ℕ) → IsName word → HasNoSpace word
HasNoSpace-name word name = All-weaker IsNameByte IsNoSpace (λ byte seen. ne_eqb byte 32 (λ space. omega arith)) word name.2

-- `0` and `1`
bit-no_space : (byte : ℕ) → IsBit byte → IsNoSpace byte
bit-no_space byte (inl zero_is) = ne_eqb byte 32 (λ space. omega arith)
bit-no_space byte (inr one_is) = ne_eqb byte 32 (λ space. omega arith)

-- bits
pub HasNoSpace-bits : (count : ℕ) (word : List ℕ) → IsBits count word → HasNoSpace word
HasNoSpace-bits count word bits = All-weaker IsBit IsNoSpace bit-no_space word bits.1

-- no word has a space, for `using`
pub ruleset words_without_space = (HasNoSpace-decimal, HasNoSpace-encode_lower, HasNoSpace-code_word, HasNoSpace-name, HasNoSpace-bits)
