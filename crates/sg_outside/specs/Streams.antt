-- A source or a sink at a moment, and what a piece that is put does to the bytes of a sink, where these are told.
use Rattle.std.specs.Prelude.{◌≡◌, ℕ, List, ◌++◌, Option, Result, MatchResult}
use Rattle.std.specs.Io.KnownBytes.{Appends}

-- known bytes grow by a front of these bytes
abbrev pub AppendsFront : Option (List ℕ) → Option (List ℕ) → List ℕ → Type 0
AppendsFront old new bytes = (front rest : List ℕ) × (bytes ≡ front ++ rest) × Appends old new front

-- after Ok the piece was appended whole, and after Err a front of it
abbrev pub PutAppends : {T E : Type 0} → Option (List ℕ) → Option (List ℕ) → Result T E → List ℕ → Type 0
PutAppends old new result bytes =
    MatchResult result (λ _. Appends old new bytes) (λ _. AppendsFront old new bytes)

-- a source or a sink at a moment: its bytes, where it tells them, and how often it has failed
pub record Seen : Type 0 where
  pub bytes : Option (List ℕ)
  pub faults : ℕ

-- a source or a sink of these bytes and this count of faults
abbrev pub seen : Option (List ℕ) → ℕ → Seen
seen bytes faults = record { bytes = bytes; faults = faults }
