-- A text is cut at the first byte of one value, and then again behind it.
use Rattle.std.proofs.Common.{◌≡◌, ℕ, suc, ◌+◌, ◌-◌, ◌<◌, ◌≤◌, ◌==◌, true, false, List, [], ◌∷◌, All, length, take, drop, get_or, None, Some, sym, ap, ◌∙◌, arith, add-one, length-drop, length-take}
use Rattle.std.specs.List.{slice_split}
use Rattle.std.proofs.Math.Seq.{split_at}
use Rattle.std.proofs.lemmas.List.{take_all, get_or-take}
use Rattle.std.proofs.lemmas.List.Elements.{All-from_get_or}
use Rattle.std.proofs.lemmas.List.Splits.{slice_split_at, slice_split_none}
use Rattle.std.proofs.lemmas.Bool.{false_from_ne_true}
use Rattle.memchr.specs.Find.{IsFirstByte, is_byte}

-- before the first separator no byte is one
none_before : (separator : ℕ) (text : List ℕ) (at : ℕ) → at ≤ length text → ((k : ℕ) → 0 ≤ k → k < at → is_byte separator (get_or text k 0) ≡ true → ⊥)
    → All (λ byte. (byte == separator) ≡ false) (take at text)
none_before separator text at within none =
    All-from_get_or (λ byte. (byte == separator) ≡ false) (take at text) 0
    (λ k l.
    let below : k < at = omega (arith, length-take at text) in
    rw (get_or-take at text k 0 below) (false_from_ne_true (get_or text k 0 == separator) (none k (omega arith) below)))

-- at the first separator ends the first part
pub cut_at : (separator : ℕ) (text : List ℕ) (at : ℕ) → IsFirstByte (is_byte separator) text (Some at)
    → slice_split (λ byte. byte == separator) text ≡ take at text ∷ slice_split (λ byte. byte == separator) (take (length text - (at + 1)) (drop (at + 1) text))
cut_at separator text at first =
    let rest : take (length text - (at + 1)) (drop (at + 1) text) ≡ drop (suc at) text =
    take_all _ (drop (at + 1) text) (omega (arith, length-drop (at + 1) text)) ∙ ap (λ n. drop n text) (add-one at) in
    ap (slice_split (λ byte. byte == separator)) (split_at text at 0 first.0.high)
    ∙ slice_split_at (λ byte. byte == separator) (take at text) (get_or text at 0) (drop (suc at) text) (none_before separator text at (omega (arith, first.0.high)) first.0.before) first.1
    ∙ ap (λ left. take at text ∷ slice_split (λ byte. byte == separator) left) (sym rest)

-- a text without a separator is one part
pub cut_nowhere : (separator : ℕ) (text : List ℕ) → IsFirstByte (is_byte separator) text None → slice_split (λ byte. byte == separator) text ≡ text ∷ []
cut_nowhere separator text none =
    let all : All (λ byte. (byte == separator) ≡ false) text =
    All-from_get_or (λ byte. (byte == separator) ≡ false) text 0 (λ k l. false_from_ne_true (get_or text k 0 == separator) (none k (omega arith) l)) in
    slice_split_none (λ byte. byte == separator) text all
