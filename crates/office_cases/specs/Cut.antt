-- How a stream is cut into steps.
use Rattle.std.specs.Prelude.{◌≡◌, ◌≢◌, ℕ, List, ◌++◌, ◌∷◌, All}

-- the stream is its first line and that one's feed, then what goes in, what must come out, and what stands behind
abbrev pub IsCut : List ℕ → List ℕ → List ℕ → List ℕ → Type 0
IsCut stream input output behind = (line : List ℕ) × All (λ byte. byte ≢ 10) line × (stream ≡ line ++ 10 ∷ (input ++ (output ++ behind)))
