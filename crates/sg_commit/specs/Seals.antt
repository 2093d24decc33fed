-- What a running seal has taken in.
use Rattle.std.specs.Prelude.{◌≡◌, ℕ, List, ◌++◌, take}
use Rattle.sha2.specs.Hashers.{Holds256}
use Rattle.sg_commit.specs.declared.Sealer.{Sealer}

-- the sealer took in these bytes, in order: its hasher holds the first ones, and the others wait at the front of its room
pub record StandsFor (sealer : Sealer) (bytes : List ℕ) : Type 0 where
  pub hashed : List ℕ
  pub holds : Holds256 sealer.hasher hashed
  pub is : bytes ≡ hashed ++ take sealer.held sealer.room
