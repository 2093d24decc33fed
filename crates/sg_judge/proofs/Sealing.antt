-- Seals.
use Rattle.std.proofs.Common.{◌≡◌, Option, Some, None, refl}
use Rattle.sg_commit.specs.declared.Digest.{Digest}
use Rattle.sg_judge.specs.inside.Taking.{or_seal}

-- a line that is not `seal 1` changes nothing
pub or_seal_none : (seal : Option Digest) → or_seal seal None ≡ seal
or_seal_none None = refl
or_seal_none (Some digest) = refl
