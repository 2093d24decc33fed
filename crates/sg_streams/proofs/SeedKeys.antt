-- A generator's key gives back the seed that it was made from.
use Rattle.std.proofs.Common.{◌≡◌, ℕ, zero, suc, ◌+◌, ◌*◌, ◌<◌, List, [], ◌∷◌, ◌++◌, length, get_or, drop, refl, sym, ap, ◌∙◌, arith, add-one, drop-cons}
use Rattle.std.specs.Int.{w32, to_le_bytes}
use Rattle.std.proofs.lemmas.Nat.{le_bytes_4}
use Rattle.std.proofs.lemmas.Grind.{common_steps}
use Rattle.rand_core.specs.Steps.{u32_at}
use Rattle.rand_chacha.specs.ChaCha.{key_of}
use Rattle.sg_streams.specs.Streams.{key_seed}

-- n elements of a list from place i on
abbrev items_from : ℕ → ℕ → List ℕ → List ℕ
items_from i zero xs = []
items_from i (suc n) xs = get_or xs i 0 ∷ items_from (i + 1) n xs

-- they are all that is left, where so many are left
drop-items_from : (i n : ℕ) (xs : List ℕ) → length xs ≡ i + n → drop i xs ≡ items_from i n xs
drop-items_from i zero xs len = grind (arith, common_steps)
drop-items_from i (suc n) xs len =
    let more : i < length xs = omega (arith, len) in
    let rest = drop-items_from (i + 1) n xs (omega (arith, len)) in
    drop-cons xs i 0 more ∙ ap (λ l. get_or xs i 0 ∷ l) (ap (λ k. drop k xs) (sym (add-one i)) ∙ rest)

four_small : (a b c d : ℕ) → a < 256 → b < 256 → c < 256 → d < 256 → (k : ℕ) → get_or (a ∷ b ∷ c ∷ d ∷ []) k 0 < 256
four_small a b c d p q r s zero = p
four_small a b c d p q r s (suc zero) = q
four_small a b c d p q r s (suc (suc zero)) = r
four_small a b c d p q r s (suc (suc (suc zero))) = s
four_small a b c d p q r s (suc (suc (suc (suc k)))) = omega arith

-- the four bytes of a word of a seed
word_bytes : (seed : List ℕ) (i : ℕ) → ((k : ℕ) → get_or seed k 0 < 256) → to_le_bytes w32 (u32_at seed i) ≡ get_or seed (4 * i) 0 ∷ get_or seed (4 * i + 1) 0 ∷ get_or seed (4 * i + 2) 0 ∷ get_or seed (4 * i + 3) 0 ∷ []
unfolding u32_at
word_bytes seed i small =
    le_bytes_4 (get_or seed (4 * i) 0 ∷ get_or seed (4 * i + 1) 0 ∷ get_or seed (4 * i + 2) 0 ∷ get_or seed (4 * i + 3) 0 ∷ []) _ refl
    (four_small _ _ _ _ (small _) (small _) (small _) (small _)) refl

joined : (a b c d : List ℕ) → a ≡ b → c ≡ d → a ++ c ≡ b ++ d
joined a b c d p q = cc

-- a seed is given back by its key
pub key_seed-key_of : (seed : List ℕ) → length seed ≡ 32 → ((k : ℕ) → get_or seed k 0 < 256) → key_seed (key_of seed) ≡ seed
unfolding key_seed
key_seed-key_of seed len small =
    let word : (i : ℕ) → to_le_bytes w32 (u32_at seed i) ≡ get_or seed (4 * i) 0 ∷ get_or seed (4 * i + 1) 0 ∷ get_or seed (4 * i + 2) 0 ∷ get_or seed (4 * i + 3) 0 ∷ [] = λ i. word_bytes seed i small in
    joined _ _ _ _ (joined _ _ _ _ (joined _ _ _ _ (joined _ _ _ _ (joined _ _ _ _ (joined _ _ _ _ (joined _ _ _ _ (word 0) (word 1)) (word 2)) (word 3)) (word 4)) (word 5)) (word 6)) (word 7)
    ∙ sym (drop-items_from 0 32 seed len)
