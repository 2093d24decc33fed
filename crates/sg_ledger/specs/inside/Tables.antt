-- What is done to a flat table, over plain lists.
use Rattle.std.specs.Prelude.{ℕ, ◌+◌, ◌-◌, ◌%◌, ◌^◌, ◌==◌, min, if◌then◌else◌, Bool, true, false, not, List, [], ◌∷◌, slice_index_or, slice_set, Option, Some, None, is_some}
use Rattle.std.specs.Option.{option_map_or}

-- with the value at the place, unless one stands there
abbrev pub with_first : {A : Type 0} → List (Option A) → ℕ → A → List (Option A)
with_first table at value = (if is_some (slice_index_or table at None) then table else slice_set table at (Some value))

-- with each value at a place, unless one stands there; the first is of this place
abbrev pub with_firsts : {A : Type 0} → List (Option A) → ℕ → List A → List (Option A)
with_firsts table at [] = table
with_firsts table at (value ∷ values) = with_firsts (with_first table at value) (at + 1) values

-- a count that would be larger stands as this
abbrev pub most_marks : ℕ
most_marks = 2 ^ 32 - 1

abbrev pub most_votes : ℕ
most_votes = 2 ^ 64 - 1

-- with one more counted at the place
abbrev pub with_one_more : ℕ → List ℕ → ℕ → List ℕ
with_one_more most table at = slice_set table at (min (slice_index_or table at 0 + 1) most)

-- with each place set whose bit is a 1; the first bit is of this place
abbrev pub with_bits : List Bool → ℕ → List ℕ → List Bool
with_bits table at [] = table
with_bits table at (bit ∷ bits) = with_bits (if bit == 0x31 then slice_set table at true else table) (at + 1) bits

-- with one more vote for the candidate of each place whose bit is a 1; the first bit is of this place, and the votes
-- of the race's candidates stand from `first` on
abbrev pub with_votes : ℕ → ℕ → List ℕ → ℕ → List ℕ → List ℕ
with_votes candidates first votes place [] = votes
with_votes candidates first votes place (bit ∷ bits) = with_votes candidates first (if bit == 0x31 then with_one_more most_votes votes (first + place % candidates) else votes) (place + 1) bits

-- what is known of column `at` is against the code of the column: another column's and the same code, or this column's
-- and another code
abbrev pub shows_another : ℕ → ℕ → ℕ → Option ℕ → Bool
shows_another column code at known = option_map_or (λ shown. (if at == column then not (shown == code) else shown == code)) known false

-- the entry `other` is led to another place, where it is the entry itself; or to the same candidate, where it is another
-- entry of its ballot
abbrev pub leads_another : ℕ → ℕ → ℕ → ℕ → Option ℕ → Bool
leads_another candidates entry place other to = option_map_or (λ led. (if other == entry then not (led == place) else led % candidates == place % candidates)) to false
