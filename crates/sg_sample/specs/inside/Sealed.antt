-- A text that ends with a seal.
use Rattle.std.specs.Prelude.{◌≡◌, ℕ, List, ◌++◌, length}
use Rattle.sg_commit.specs.declared.Digest.{Digest}
use Rattle.sg_forms.specs.Said.Said.{Seal}
use Rattle.sg_forms.specs.Spelling.{spelling}

-- the last line of the text is the seal with this digest
pub record EndsWith (text : List ℕ) (digest : Digest) : Type 0 where
  pub front : List ℕ
  pub version : ℕ
  pub number : ℕ
  pub whole : length digest.0 ≡ 32
  pub is : text ≡ front ++ spelling version (Seal number digest)

abbrev pub IsSealed : List ℕ → Type 0
IsSealed text = (digest : Digest) × EndsWith text digest
