-- Lists that hold the values of a function of numbers.
use Rattle.std.specs.Prelude.{◌≡◌, ℕ, ◌<◌, List, length, slice_get, Some}

-- the list has so many items, and at each number the function's value
pub record HasValues {A : Type 0} (count : ℕ) (value : ℕ → A) (list : List A) : Type 0 where
  pub long : length list ≡ count
  pub are : (at : ℕ) → at < count → slice_get list at ≡ Some (value at)
