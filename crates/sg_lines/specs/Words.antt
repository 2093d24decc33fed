-- The one spelling of each word of a line, and its reading (this project's rules for the record).
--
-- A reading takes the value that the signs have by their places, and keeps it only where it is in
-- range and its spelling is the word that was read. So a word is read exactly where it is a spelling.
--
-- `decimal n` is the number n in decimal digits, the highest first, without a leading zero (n below 10 ^ 64).
-- `encode_lower bytes` is two lower-case hexadecimal digits for each byte, the high four bits first.
-- `IsBytes xs` says that each number in the list is a byte.
use Rattle.std.specs.Prelude.{◌≡◌, ◌⊎◌, ℕ, ◌+◌, ◌-◌, ◌*◌, ◌/◌, ◌%◌, ◌^◌, nat_lt, ◌==◌, Bool, true, false, ◌&&◌, if◌then◌else◌, List, [], ◌∷◌, length, slice_index, All, fold, bytes_eq, codes, Option, Some, None}
use Rattle.std.specs.List.{position_or_len}
use Rattle.std.specs.Result.{result_unwrap_or}
use Rattle.std.specs.Str.Parse.{digits_value}
use Rattle.sg_plan.specs.Codes.{codes_of}
pub use Rattle.std.specs.Prelude.{decimal}
pub use Rattle.hex.specs.Hex.{IsBytes, decode_of, encode_lower}

-- the value, where it is in range and the word is its spelling
abbrev pub where_spelled : {A : Type 0} → (A → List ℕ) → List ℕ → A → Bool → Option A
where_spelled spelling word value is_in_range = if is_in_range && bytes_eq word (spelling value) then Some value else None

-- ---- numbers

-- reading a decimal number below 2 ^ 32
unfoldable pub decimal_of : List ℕ → Option ℕ
decimal_of word = let n = digits_value 10 word in where_spelled decimal word n (nat_lt n (2 ^ 32))

-- ---- keys and digests

-- reading so many bytes from lower-case hexadecimal digits
unfoldable pub bytes_of : ℕ → List ℕ → Option (List ℕ)
bytes_of count word = let bytes = result_unwrap_or (decode_of word) [] in where_spelled encode_lower word bytes (length bytes == count)

-- reading a key, which has 16 bytes
unfoldable pub key_of : List ℕ → Option (List ℕ)
key_of word = bytes_of 16 word

-- reading a digest, which has 32 bytes
unfoldable pub digest_of : List ℕ → Option (List ℕ)
digest_of word = bytes_of 32 word

-- reading bytes, however many they are
unfoldable pub hex_of : List ℕ → Option (List ℕ)
hex_of word = let bytes = result_unwrap_or (decode_of word) [] in where_spelled encode_lower word bytes true

-- ---- codes

-- the decimal digit of a value below 10
abbrev pub digit_of : ℕ → ℕ
digit_of value = 48 + value

-- the 32 signs of version 2, in the order of their values: no `0`, `1`, `I` and `O`
abbrev pub signs : List ℕ
signs = codes "23456789ABCDEFGHJKLMNPQRSTUVWXYZ"

-- the sign of a value below 32
unfoldable pub sign_of : ℕ → ℕ
sign_of value = slice_index signs value

-- a number below the third power of the base in three places, the highest first
abbrev pub three_places : (ℕ → ℕ) → ℕ → ℕ → List ℕ
three_places sign base n = sign (n / base / base) ∷ sign (n / base % base) ∷ sign (n % base) ∷ []

-- the word of a code: three decimal digits in version 1, three of the 32 signs in version 2
unfoldable pub code_word : ℕ → ℕ → List ℕ
code_word version code =
    (if version == 1 then three_places digit_of 10 code
    else (if version == 2 then three_places sign_of 32 code else []))

-- the number that a word has in a base, by the value of each of its signs
abbrev pub number_in : (ℕ → ℕ) → ℕ → List ℕ → ℕ
number_in value base word = fold (λ n sign. n * base + value sign) 0 word

-- the number that a word of a version has, where it is a code's
abbrev pub code_number : ℕ → List ℕ → ℕ
code_number version word =
    (if version == 1 then number_in (λ digit. digit - 48) 10 word
    else number_in (λ sign. position_or_len (λ s. s == sign) signs) 32 word)

-- reading a code of a version
unfoldable pub code_of : ℕ → List ℕ → Option ℕ
code_of version word =
    let code = code_number version word in
    where_spelled (code_word version) word code (nat_lt code (codes_of version))

-- ---- bits

-- the character `0` or `1`
abbrev pub IsBit : ℕ → Type 0
IsBit byte = (byte ≡ 48) ⊎ (byte ≡ 49)

-- exactly `count` characters, each `0` or `1`
abbrev pub IsBits : ℕ → List ℕ → Type 0
IsBits count word = (length word ≡ count) × All IsBit word

-- ---- spaces

-- no byte is a space: what stands between spaces on a line is one word
abbrev pub HasNoSpace : List ℕ → Type 0
HasNoSpace word = All (λ byte. (byte == 32) ≡ false) word
