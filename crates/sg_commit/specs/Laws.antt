-- What follows from the definition of a commitment's input alone (this project's rule for commitments).
use Rattle.std.specs.Prelude.{◌≡◌, ℕ, ◌^◌, ◌<◌, length}
use Rattle.sg_commit.specs.Commitments.{commit_input}
use Rattle.sg_commit.specs.declared.CommitKind.{CommitKind}
use Rattle.sg_commit.specs.declared.Opening.{Opening}

-- each part of an input fits the bytes that it has there
pub record FitsInput (race instance place : ℕ) (opening : Opening) : Type 0 where
  pub race_fits : race < 2 ^ 16
  pub instance_fits : instance < 2 ^ 16
  pub place_fits : place < 2 ^ 32
  pub key_fits : length opening.key.0 ≡ 16
  pub value_fits : opening.value < 2 ^ 32

-- an input has 29 bytes
abbrev pub InputsHave29Bytes : Type 0
InputsHave29Bytes = (kind : CommitKind) (race instance place : ℕ) (opening : Opening) → FitsInput race instance place opening
    → length (commit_input kind race instance place opening) ≡ 29

-- two inputs that are the same bytes are of the same kind, race, instance, place, key and value
abbrev pub InputsAreOneToOne : Type 0
InputsAreOneToOne = (kind other_kind : CommitKind) (race other_race instance other_instance place other_place : ℕ) (opening other_opening : Opening)
    → FitsInput race instance place opening → FitsInput other_race other_instance other_place other_opening
    → commit_input kind race instance place opening ≡ commit_input other_kind other_race other_instance other_place other_opening
    → (kind ≡ other_kind) × (race ≡ other_race) × (instance ≡ other_instance) × (place ≡ other_place) × (opening ≡ other_opening)
