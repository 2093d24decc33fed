-- Which lines of a record the page is shown, by where they stand.
use Rattle.std.specs.Prelude.{◌≡◌, ℕ, ◌==◌, if◌then◌else◌, Bool, true, false, List, [], ◌∷◌, ◌++◌, Some}
use Rattle.std.specs.Option.{option_map_or}
use Rattle.sg_grammar.specs.Placed.{Placed, ballot_on}
use Rattle.sg_grammar.specs.Placed.Placed.{OfPlan, SealAt}
use Rattle.sg_grammar.specs.Walk.{Next, Posted, Walked, start, take_bytes, walk}

-- the line is one of the plan
abbrev pub is_of_plan : Placed → Bool
is_of_plan (OfPlan said) = true
is_of_plan line = false

-- the line is a seal
abbrev pub is_seal : Placed → Bool
is_seal (SealAt number digest) = true
is_seal line = false

-- the line is about the ballot: one of its block, or of the block of a dispute about it
abbrev pub is_about : ℕ → Placed → Bool
is_about ballot line = option_map_or (λ of. of == ballot) (ballot_on line) false

-- the lines in their places, up to the first that may not stand where it does
abbrev pub placed_front : Next → List (List ℕ) → List Posted
placed_front next [] = []
placed_front next (bytes ∷ lines) = option_map_or (λ taken. record { bytes = bytes; line = taken.placed } ∷ placed_front taken.next lines) (take_bytes next bytes) []

-- the bytes of the lines whose place is so
abbrev pub bytes_where : (Placed → Bool) → List Posted → List ℕ
bytes_where is [] = []
bytes_where is (line ∷ lines) = (if is line.line then line.bytes ++ bytes_where is lines else bytes_where is lines)

-- the same of the first lines of a record
abbrev pub text_where : (Placed → Bool) → List (List ℕ) → List ℕ
text_where is lines = bytes_where is (placed_front start lines)

-- these bytes are those of the lines whose place is so
pub record ShowsLines (is : Placed → Bool) (lines : List (List ℕ)) (shown : List ℕ) : Type 0 where
  -- of the first lines, up to one that may not stand where it does
  pub front : shown ≡ text_where is lines
  -- and so of all lines of a record, where each may stand where it does
  pub all : (walked : Walked) → walk start lines ≡ Some walked → shown ≡ bytes_where is walked.posted
