-- What was heard of an input.
use Rattle.std.specs.Prelude.{◌≡◌, ℕ, ◌+◌, ◌≤◌, List, Option, length, take, slice_range}
use Rattle.std.specs.Io.KnownBytes.{Consumes, IsAtEnd}

-- the next `count` bytes of a source came behind the first `end` of a buffer, and no byte only at the source's end
pub record HasRead (old new : List ℕ) (end count : ℕ) (left left' : Option (List ℕ)) : Type 0 where
  pub bounds : end + count ≤ length new
  pub front : take end new ≡ take end old
  pub came : Consumes left left' (slice_range new end (end + count))
  pub ended : count ≡ 0 → IsAtEnd left'
