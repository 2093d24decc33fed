-- Where in its buffers a cutter holds its bytes.
use Rattle.std.specs.Prelude.{◌≡◌, ℕ, ◌+◌, ◌≤◌, List, Option, length, take, slice_range, if◌then◌else◌}
use Rattle.std.specs.Io.KnownBytes.{Consumes, IsAtEnd}
use Rattle.sg_outside.specs.declared.cutter.Found.{Found}
use Rattle.sg_outside.specs.Cutting.{Cutting, has_text, is_last}

-- the cutter's state after this was found in its buffer, where an answer without a text leaves this one
abbrev pub found_in : List ℕ → List ℕ → Found → Cutting
found_in buf last found = record {
  limit = length buf;
  text = (if has_text found.got then slice_range buf found.start found.behind else last);
  ahead = slice_range buf found.behind found.end;
  is_over = is_last found.got;
}

-- the text stands before the bytes held, and these in the buffer
pub record IsWithin (buf : List ℕ) (found : Found) : Type 0 where
  pub order : found.start ≤ found.behind
  pub behind : found.behind ≤ found.end
  pub bounds : found.end ≤ length buf

-- the next `count` bytes of a source came behind the first `end` of a buffer, and no byte only at the source's end
pub record HasRead (old new : List ℕ) (end count : ℕ) (left left' : Option (List ℕ)) : Type 0 where
  pub bounds : end + count ≤ length new
  pub front : take end new ≡ take end old
  pub came : Consumes left left' (slice_range new end (end + count))
  pub ended : count ≡ 0 → IsAtEnd left'
