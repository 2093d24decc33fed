-- Rows of hexadecimal digits: their values, the pairs of these, and the bytes.
use Rattle.std.proofs.Common.{◌≡◌, ℕ, zero, suc, ◌+◌, ◌*◌, ◌/◌, ◌%◌, ◌<◌, ◌≤◌, List, [], ◌∷◌, ◌++◌, length, take, slice_index, slice_set, refl, ap, arith}
use Rattle.std.specs.Prelude.{map}
use Rattle.std.proofs.lemmas.List.{take_all, take_more, take_more_set}
use Rattle.hex.specs.Hex.{encode_with, lower_digits, IsBytes}
use Rattle.sg_lines.specs.Words.{encode_lower}
use Rattle.sg_lines.specs.inside.Rows.{AreValues, joined, paired}

-- one digit more, and its value
pub values_step : (word values : List ℕ) (digit value : ℕ) → value < 16 → digit ≡ slice_index lower_digits value
    → AreValues word values → AreValues (word ++ digit ∷ []) (values ++ value ∷ [])
values_step [] [] digit value small is before = (small, is, tt)
values_step [] (v ∷ values) digit value small is before = absurd before
values_step (d ∷ word) [] digit value small is before = absurd before
values_step (d ∷ word) (v ∷ values) digit value small is before = (before.0, before.1, values_step word values digit value small is before.2)

-- there are as many values as digits
pub values_count : (word values : List ℕ) → AreValues word values → length values ≡ length word
values_count [] [] are = refl
values_count [] (v ∷ values) are = absurd are
values_count (d ∷ word) [] are = absurd are
values_count (d ∷ word) (v ∷ values) are = ap suc (values_count word values are.2)

-- the value in a place is that of the digit there
pub value_there : (word values : List ℕ) (at : ℕ) → at < length word → AreValues word values
    → (slice_index values at < 16) × (slice_index word at ≡ slice_index lower_digits (slice_index values at))
value_there [] values at within are = absurd (omega arith)
value_there (d ∷ word) [] at within are = absurd are
value_there (d ∷ word) (v ∷ values) zero within are = (are.0, are.1)
value_there (d ∷ word) (v ∷ values) (suc at) within are = value_there word values at (omega arith) are.2

-- the values so far, with one more
pub found_step : (word values : List ℕ) (at value : ℕ) → length values ≡ length word → at < length values
    → value < 16 → slice_index word at ≡ slice_index lower_digits value
    → AreValues (take at word) (take at values) → AreValues (take (at + 1) word) (take (at + 1) (slice_set values at value))
found_step word values at value count within small is before =
    rw (take_more word at 0 (omega arith), take_more_set values at value within)
    (values_step (take at word) (take at values) (slice_index word at) value small is before)

-- the only values so far, with one more
pub only_step : (values list : List ℕ) (at value : ℕ) → at < length values → at < length list → value ≡ slice_index list at
    → take at values ≡ take at list → take (at + 1) (slice_set values at value) ≡ take (at + 1) list
only_step values list at value within inside is before =
    rw (take_more_set values at value within, take_more list at 0 inside, before, is) refl

-- at the end, all values are the only ones
pub only_end : (values list : List ℕ) (at : ℕ) → length list ≡ length values → length values ≤ at → take at values ≡ take at list → values ≡ list
only_end values list at count all same = rw (take_all at values all, take_all at list (omega arith)) at same

-- one byte more of a row
joined_values : (high low : ℕ) → high < 16 → low < 16 → (joined (high + 256 * low) / 16 ≡ high) × (joined (high + 256 * low) % 16 ≡ low)
joined_values high low high_fits low_fits =
    let low_is : (high + 256 * low) / 256 ≡ low = omega arith in
    let high_is : (high + 256 * low) % 256 ≡ high = omega arith in
    let byte : joined (high + 256 * low) ≡ high * 16 + low = rw (low_is, high_is) (omega arith) in
    (omega (arith, byte), omega (arith, byte))

-- the word spells the bytes of its values
pub row_found : (word values : List ℕ) → length word % 2 ≡ 0 → AreValues word values → word ≡ encode_lower (map joined (paired values))
unfolding encode_with
row_found [] [] even are = refl
row_found [] (v ∷ values) even are = absurd are
row_found (d ∷ word) [] even are = absurd are
row_found (d ∷ []) (v ∷ values) even are = absurd (omega arith)
row_found (d ∷ e ∷ word) (v ∷ []) even are = absurd are.2
row_found (d ∷ e ∷ word) (v ∷ w ∷ values) even are =
    let parts = joined_values v w are.0 are.2.0 in
    let rest = row_found word values (omega arith) are.2.2 in
    rw (parts.0, parts.1, ← are.1, ← are.2.1, ← rest) refl

-- the values of the digits that spell bytes
abbrev pub digits_of : List ℕ → List ℕ
digits_of [] = []
digits_of (byte ∷ bytes) = byte / 16 ∷ byte % 16 ∷ digits_of bytes

-- they are the values of the spelling
pub digits_are : (bytes : List ℕ) → IsBytes bytes → AreValues (encode_lower bytes) (digits_of bytes)
unfolding encode_with
digits_are [] fits = tt
digits_are (byte ∷ bytes) fits =
    let small : byte < 256 = fits 0 in
    (omega arith, refl, (omega arith, refl, digits_are bytes (λ i. fits (suc i))))

-- and their bytes are those that were spelled
pub digits_joined : (bytes : List ℕ) → IsBytes bytes → map joined (paired (digits_of bytes)) ≡ bytes
digits_joined [] fits = refl
digits_joined (byte ∷ bytes) fits =
    let small : byte < 256 = fits 0 in
    let low_is : (byte / 16 + 256 * (byte % 16)) / 256 ≡ byte % 16 = omega arith in
    let high_is : (byte / 16 + 256 * (byte % 16)) % 256 ≡ byte / 16 = omega arith in
    let is : joined (byte / 16 + 256 * (byte % 16)) ≡ byte = rw (low_is, high_is) (omega arith) in
    rw (is, digits_joined bytes (λ i. fits (suc i))) refl
