-- The confirmation codes of a ballot row (this project's rules for the record).
use Rattle.std.specs.Prelude.{◌≡◌, ◌≢◌, ◌<◌, ◌≤◌, ℕ, zero, suc, ◌-◌, ◌*◌, ◌/◌, ◌^◌, ◌==◌, not, List, [], ◌∷◌, ◌++◌, length, take, filter, slice_index, slice_get, All, AllPairs}
use Rattle.std.specs.List.{list_any}
use Rattle.sg_plan.specs.Codes.{codes_of}
use Rattle.sg_streams.specs.Numbers.{numbers_below}
use Rattle.sg_streams.specs.Streams.{word_of}

-- the codes of a version that are not used yet, rising
unfoldable pub unused_codes : ℕ → List ℕ → List ℕ
unused_codes version used =
    filter (λ code. not (list_any (λ u. u == code) used)) (numbers_below (codes_of version))

-- which of the unused codes a word draws, counted from 0, where so many codes are used
abbrev pub draw_of : ℕ → ℕ → ℕ → ℕ
draw_of version word used = word * (codes_of version - used) / 2 ^ 32

-- the first k codes of a row: each is drawn by the next word among those that are not used yet
unfoldable pub row_codes : ℕ → List ℕ → ℕ → ℕ → List ℕ
row_codes version seed stream zero = []
row_codes version seed stream (suc k) =
    let used = row_codes version seed stream k in
    used ++ slice_index (unused_codes version used) (draw_of version (word_of seed stream k) k) ∷ []

-- so many codes of a version, all different
pub record AreCodes (version k : ℕ) (codes : List ℕ) : Type 0 where
  pub many : length codes ≡ k
  pub different : AllPairs (λ a b. a ≢ b) codes
  pub below : All (λ code. code < codes_of version) codes

-- each code is the drawn one of those that the row does not have before it
abbrev pub AreDrawn : ℕ → List ℕ → ℕ → List ℕ → Type 0
AreDrawn version seed stream codes = (t : ℕ) → t < length codes
    → slice_get codes t ≡ slice_get (unused_codes version (take t codes)) (draw_of version (word_of seed stream t) t)
