-- The laws of the spellings: reading and spelling undo each other, and different values have different spellings.
use Rattle.std.specs.Prelude.{◌≡◌, ℕ, ◌^◌, ◌<◌, List, length, Some}
use Rattle.sg_plan.specs.Codes.{codes_of}
use Rattle.sg_lines.specs.Words.{decimal, decimal_of, IsBytes, encode_lower, key_of, digest_of, hex_of, code_word, code_of}

-- what is read as a number is its spelling
abbrev pub DecimalsAreSpelled : Type 0
DecimalsAreSpelled = (word : List ℕ) (n : ℕ) → decimal_of word ≡ Some n → (n < 2 ^ 32) × (word ≡ decimal n)

-- each number is read from its spelling
abbrev pub DecimalsAreRead : Type 0
DecimalsAreRead = (n : ℕ) → n < 2 ^ 32 → decimal_of (decimal n) ≡ Some n

-- different numbers have different spellings
abbrev pub DecimalsDiffer : Type 0
DecimalsDiffer = (m n : ℕ) → m < 2 ^ 32 → n < 2 ^ 32 → decimal m ≡ decimal n → m ≡ n

-- what is read as a key is its spelling
abbrev pub KeysAreSpelled : Type 0
KeysAreSpelled = (word key : List ℕ) → key_of word ≡ Some key → (length key ≡ 16) × IsBytes key × (word ≡ encode_lower key)

-- each key is read from its spelling
abbrev pub KeysAreRead : Type 0
KeysAreRead = (key : List ℕ) → length key ≡ 16 → IsBytes key → key_of (encode_lower key) ≡ Some key

-- what is read as a digest is its spelling
abbrev pub DigestsAreSpelled : Type 0
DigestsAreSpelled = (word digest : List ℕ) → digest_of word ≡ Some digest → (length digest ≡ 32) × IsBytes digest × (word ≡ encode_lower digest)

-- each digest is read from its spelling
abbrev pub DigestsAreRead : Type 0
DigestsAreRead = (digest : List ℕ) → length digest ≡ 32 → IsBytes digest → digest_of (encode_lower digest) ≡ Some digest

-- what is read as bytes is their spelling
abbrev pub HexIsSpelled : Type 0
HexIsSpelled = (word bytes : List ℕ) → hex_of word ≡ Some bytes → IsBytes bytes × (word ≡ encode_lower bytes)

-- all bytes are read from their spelling
abbrev pub HexIsRead : Type 0
HexIsRead = (bytes : List ℕ) → IsBytes bytes → hex_of (encode_lower bytes) ≡ Some bytes

-- different bytes have different spellings
abbrev pub BytesDiffer : Type 0
BytesDiffer = (a b : List ℕ) → IsBytes a → IsBytes b → encode_lower a ≡ encode_lower b → a ≡ b

-- what is read as a code is its spelling in that version
abbrev pub CodesAreSpelled : Type 0
CodesAreSpelled = (version : ℕ) (word : List ℕ) (code : ℕ) → code_of version word ≡ Some code → (code < codes_of version) × (word ≡ code_word version code)

-- each code of a version is read from its spelling
abbrev pub CodesAreRead : Type 0
CodesAreRead = (version code : ℕ) → code < codes_of version → code_of version (code_word version code) ≡ Some code

-- different codes of a version have different spellings
abbrev pub CodesDiffer : Type 0
CodesDiffer = (version a b : ℕ) → a < codes_of version → b < codes_of version → code_word version a ≡ code_word version b → a ≡ b
