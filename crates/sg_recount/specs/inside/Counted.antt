-- How many rows of an instance have each pointer.
use Rattle.std.specs.Prelude.{◌≡◌, ℕ, ◌<◌, List, length, slice_get, Some}
use Rattle.sg_plan.specs.declared.plan.Side.{Side}
use Rattle.sg_check.specs.Facts.{points_to}
use Rattle.sg_check.specs.Printings.{count_below}
use Rattle.sg_parts.specs.Given.{completion_of}
use Rattle.sg_parts.specs.declared.parts.RowGiven.{RowGiven}

-- of the first rows of the instance, so many have the pointer, for each pointer below the count
pub record HasCounts (rows : List (List (List RowGiven))) (on : Side) (race instance count at : ℕ) (counts : List ℕ) : Type 0 where
  pub long : length counts ≡ count
  pub are : (pointer : ℕ) → pointer < count → slice_get counts pointer ≡ Some (count_below (λ row. points_to pointer (completion_of rows on race instance row)) at)
