-- What a commitment hashes.
use Rattle.std.specs.Prelude.{ℕ, List, ◌∷◌, ◌++◌}
use Rattle.std.specs.Int.{w16, w32, to_be_bytes}
use Rattle.sg_commit.specs.declared.CommitKind.{CommitKind}
use Rattle.sg_commit.specs.declared.CommitKind.TheVariants.{Q, L, R}
use Rattle.sg_commit.specs.declared.Opening.{Opening}

-- the byte that stands for a kind, its letter in ASCII
abbrev pub letter_of : CommitKind → ℕ
letter_of Q = 0x51
letter_of L = 0x4C
letter_of R = 0x52

-- This project's rule for commitments: SHA-256 (FIPS 180-4) is taken of these 29 bytes, where each number has its highest
-- byte first: the kind (1 byte), the race (2), the instance (2), the place (4), the key (16) and the value (4).
abbrev pub commit_input : CommitKind → ℕ → ℕ → ℕ → Opening → List ℕ
commit_input kind race instance place opening =
    letter_of kind ∷ to_be_bytes w16 race ++ to_be_bytes w16 instance ++ to_be_bytes w32 place
    ++ opening.key.0 ++ to_be_bytes w32 opening.value
