-- Lower-case hexadecimal digits: read, spelled, and the steps of the loop that reads them.
use Rattle.std.proofs.Common.{◌≡◌, ◌≢◌, true, ℕ, zero, suc, ◌+◌, ◌*◌, ◌/◌, ◌%◌, ◌<◌, ◌≤◌, ◌==◌, List, [], ◌∷◌, ◌++◌, length, take, drop, slice_index, slice_set, Some, None, Result, Ok, Err, refl, sym, ap, ◌∙◌, arith}
use Rattle.std.proofs.lemmas.Bool.{eqb-true, eq-eqb}
use Rattle.std.proofs.lemmas.List.{append-nil, append_assoc, drop_all, drop_more, take_all, take_more_set}
use Rattle.std.specs.Result.{result_unwrap_or}
use Rattle.hex.specs.Hex.{decode_of, encode_with, lower_digits, IsBytes}
use Rattle.hex.specs.declared.error.FromHexError.{FromHexError}
use Rattle.hex.proofs.HexLemmas.{decode_of-encode_lower, decode_of-ok, decode_of-same, length-encode_with}
use Rattle.hex.proofs.Pairs.{drop-pair, encode_with-drop}
use Rattle.sg_lists.proofs.Options.{same_Options}
use Rattle.sg_lines.specs.Words.{encode_lower, bytes_of, key_of, digest_of, hex_of}
use Rattle.sg_lines.specs.Laws.{KeysAreSpelled, KeysAreRead, DigestsAreSpelled, DigestsAreRead, HexIsSpelled, HexIsRead, BytesDiffer}
use Rattle.sg_lines.proofs.Spelled.{where_spelled-found, where_spelled-only}

-- ---- the laws

-- what the kit's decoder gives is bytes
pub decoded_bytes : (word : List ℕ) (result : Result (List ℕ) FromHexError) → decode_of word ≡ result → IsBytes (result_unwrap_or result [])
decoded_bytes word (Ok bytes) is = (decode_of-ok word bytes is).3
decoded_bytes word (Err e) is = λ i. omega arith

-- what is read as so many bytes is their spelling
bytes_of-spelled : (count : ℕ) (word bytes : List ℕ) → bytes_of count word ≡ Some bytes → (length bytes ≡ count) × IsBytes bytes × (word ≡ encode_lower bytes)
unfolding bytes_of
bytes_of-spelled count word bytes read =
    let decoded : List ℕ = result_unwrap_or (decode_of word) [] in
    let found = where_spelled-found encode_lower word decoded (length decoded == count) bytes read in
    let count_is = eqb-true (length decoded) count found.0 in
    (ap length (sym found.1) ∙ count_is, rw found.1 at (decoded_bytes word (decode_of word) refl), found.2)

-- so many bytes are read from their spelling
bytes_of-read : (count : ℕ) (bytes : List ℕ) → length bytes ≡ count → IsBytes bytes → bytes_of count (encode_lower bytes) ≡ Some bytes
unfolding bytes_of
bytes_of-read count bytes count_is fits =
    rw (decode_of-encode_lower bytes fits) (where_spelled-only encode_lower (encode_lower bytes) bytes (length bytes == count) (eq-eqb _ _ count_is) refl)

-- what is read as a key is its spelling
pub keys_are_spelled : KeysAreSpelled
unfolding key_of
keys_are_spelled word key read = bytes_of-spelled 16 word key read

-- each key is read from its spelling
pub keys_are_read : KeysAreRead
unfolding key_of
keys_are_read key count fits = bytes_of-read 16 key count fits

-- what is read as a digest is its spelling
pub digests_are_spelled : DigestsAreSpelled
unfolding digest_of
digests_are_spelled word digest read = bytes_of-spelled 32 word digest read

-- each digest is read from its spelling
pub digests_are_read : DigestsAreRead
unfolding digest_of
digests_are_read digest count fits = bytes_of-read 32 digest count fits

-- a spelling has two digits for each byte
pub length-encode_lower : (bytes : List ℕ) → length (encode_lower bytes) ≡ 2 * length bytes
length-encode_lower bytes = length-encode_with lower_digits bytes

-- what is read as bytes is their spelling
pub hex_is_spelled : HexIsSpelled
unfolding hex_of
hex_is_spelled word bytes read =
    let decoded : List ℕ = result_unwrap_or (decode_of word) [] in
    let found = where_spelled-found encode_lower word decoded true bytes read in
    (rw found.1 at (decoded_bytes word (decode_of word) refl), found.2)

-- all bytes are read from their spelling
pub hex_is_read : HexIsRead
unfolding hex_of
hex_is_read bytes fits = rw (decode_of-encode_lower bytes fits) (where_spelled-only encode_lower (encode_lower bytes) bytes true refl refl)

-- bytes that the word spells are what is read
pub hex_of-some : (word bytes : List ℕ) → IsBytes bytes → word ≡ encode_lower bytes → Some bytes ≡ hex_of word
hex_of-some word bytes fits is = sym (ap hex_of is ∙ hex_is_read bytes fits)

-- where the word spells no bytes, nothing is read
pub hex_of-none : (word : List ℕ) → ((bytes : List ℕ) → IsBytes bytes → word ≡ encode_lower bytes → ⊥) → None ≡ hex_of word
hex_of-none word none =
    same_Options None (hex_of word) (λ bytes read. cc read)
    (λ bytes read. let found = hex_is_spelled word bytes read in absurd (none bytes found.0 found.1))

-- an odd number of digits spells none
pub hex_of-odd : (word : List ℕ) → length word % 2 ≢ 0 → None ≡ hex_of word
hex_of-odd word odd = hex_of-none word (λ bytes fits is. odd (omega (arith, ap (λ l. length l) is, length-encode_lower bytes)))

-- different bytes have different spellings
pub bytes_differ : BytesDiffer
bytes_differ a b a_fits b_fits same =
    decode_of-same (encode_lower a) a b (decode_of-encode_lower a a_fits) (ap decode_of same ∙ decode_of-encode_lower b b_fits)

-- a key that the word spells is what is read
pub key_of-some : (word key : List ℕ) → length key ≡ 16 → IsBytes key → word ≡ encode_lower key → Some key ≡ key_of word
key_of-some word key count fits is = sym (ap key_of is ∙ keys_are_read key count fits)

-- a digest that the word spells is what is read
pub digest_of-some : (word digest : List ℕ) → length digest ≡ 32 → IsBytes digest → word ≡ encode_lower digest → Some digest ≡ digest_of word
digest_of-some word digest count fits is = sym (ap digest_of is ∙ digests_are_read digest count fits)

-- where the word spells no key, nothing is read
pub key_of-none : (word : List ℕ) → ((key : List ℕ) → length key ≡ 16 → IsBytes key → word ≡ encode_lower key → None ≡ Some key) → None ≡ key_of word
key_of-none word only =
    same_Options None (key_of word) (λ key none. cc none)
    (λ key read. let found = keys_are_spelled word key read in only key found.0 found.1 found.2)

-- where the word spells no digest, nothing is read
pub digest_of-none : (word : List ℕ) → ((digest : List ℕ) → length digest ≡ 32 → IsBytes digest → word ≡ encode_lower digest → None ≡ Some digest) → None ≡ digest_of word
digest_of-none word only =
    same_Options None (digest_of word) (λ digest none. cc none)
    (λ digest read. let found = digests_are_spelled word digest read in only digest found.0 found.1 found.2)

-- ---- the steps of the loop

-- one byte more behind what is spelled
encode_lower-push : (bytes : List ℕ) (byte : ℕ)
    → encode_lower (bytes ++ byte ∷ []) ≡ encode_lower bytes ++ (slice_index lower_digits (byte / 16) ∷ slice_index lower_digits (byte % 16) ∷ [])
unfolding encode_with
encode_lower-push [] byte = refl
encode_lower-push (x ∷ xs) byte = rw (encode_lower-push xs byte) refl

-- a byte is written into bytes
pub IsBytes-set : (out : List ℕ) (at byte : ℕ) → IsBytes out → byte < 256 → IsBytes (slice_set out at byte)
IsBytes-set [] at byte fits small i = omega arith
IsBytes-set (x ∷ xs) zero byte fits small zero = small
IsBytes-set (x ∷ xs) zero byte fits small (suc i) = fits (suc i)
IsBytes-set (x ∷ xs) (suc at) byte fits small zero = fits 0
IsBytes-set (x ∷ xs) (suc at) byte fits small (suc i) = IsBytes-set xs at byte (λ k. fits (suc k)) small i

-- at the start nothing is spelled
pub found_start : (word : List ℕ) → encode_lower [] ++ word ≡ word
unfolding encode_with
found_start word = refl

-- the bytes so far spell the front of the word
pub found_step : (word out : List ℕ) (at high low byte : ℕ) → length word ≡ 2 * length out → at < length out
    → slice_index word (2 * at) ≡ slice_index lower_digits high → slice_index word (2 * at + 1) ≡ slice_index lower_digits low
    → high < 16 → low < 16 → byte ≡ high * 16 + low
    → encode_lower (take at out) ++ drop (2 * at) word ≡ word
    → encode_lower (take (at + 1) (slice_set out at byte)) ++ drop (2 * (at + 1)) word ≡ word
found_step word out at high low byte len within first second high_fits low_fits is before =
    let high_is : byte / 16 ≡ high = omega arith in
    let low_is : byte % 16 ≡ low = omega arith in
    let rest = drop-pair word at (omega arith) in
    rw (take_more_set out at byte within, encode_lower-push (take at out) byte, append_assoc, high_is, low_is, ← first, ← second)
    (rw rest at before)

-- where the word spells bytes, those so far are their front, and the rest spells the rest
abbrev pub IsOnTheWay : List ℕ → List ℕ → ℕ → List ℕ → Type 0
IsOnTheWay word out at bytes = (take at out ++ drop at bytes ≡ bytes) × (drop (2 * at) word ≡ encode_lower (drop at bytes))

-- the first two digits of what is left are those of the next byte
pub next_digits : (word bytes : List ℕ) (at : ℕ) → length word ≡ 2 * length bytes → at < length bytes
    → drop (2 * at) word ≡ encode_lower (drop at bytes)
    → (slice_index word (2 * at) ≡ slice_index lower_digits (slice_index bytes at / 16))
    × (slice_index word (2 * at + 1) ≡ slice_index lower_digits (slice_index bytes at % 16))
    × (drop (2 * (at + 1)) word ≡ encode_lower (drop (at + 1) bytes))
next_digits word bytes at len within left =
    let both = sym (drop-pair word at (omega arith)) ∙ left ∙ encode_with-drop lower_digits bytes at within in
    (cc both, cc both, cc both)

-- one byte more is read
pub only_step : (word out bytes : List ℕ) (at byte : ℕ) → length word ≡ 2 * length bytes → length out ≡ length bytes → at < length out
    → byte ≡ slice_index bytes at → IsOnTheWay word out at bytes → IsOnTheWay word (slice_set out at byte) (at + 1) bytes
only_step word out bytes at byte len same within is before =
    let digits = next_digits word bytes at len (omega arith) before.1 in
    (rw (take_more_set out at byte within, append_assoc, is) (rw (drop_more bytes at 0 (omega arith)) at before.0), digits.2)

-- at the end all bytes are read
pub only_end : (word out bytes : List ℕ) (at : ℕ) → length word ≡ 2 * length bytes → length word ≡ 2 * length out → length out ≤ at
    → IsOnTheWay word out at bytes → out ≡ bytes
only_end word out bytes at count same all last = rw (take_all at out all, drop_all at bytes (omega arith), append-nil) at last.0

-- the length of a spelling, for `using`
pub ruleset hex_facts = (length-encode_lower)
