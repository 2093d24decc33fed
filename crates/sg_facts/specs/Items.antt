-- Items of nested lists.
use Rattle.std.specs.Prelude.{ℕ, List, slice_get, Option}
use Rattle.std.specs.Option.{option_and_then}

-- the item with these two numbers
abbrev pub item_in : {A : Type 0} → List (List A) → ℕ → ℕ → Option A
item_in lists outer inner = option_and_then (λ items. slice_get items inner) (slice_get lists outer)

-- the item of a row, by race and instance
abbrev pub row_in : {A : Type 0} → List (List (List A)) → ℕ → ℕ → ℕ → Option A
row_in lists race instance row = option_and_then (λ instances. item_in instances instance row) (slice_get lists race)
