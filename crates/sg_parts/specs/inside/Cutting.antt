-- Rows that were read one after another, cut into races and instances.
use Rattle.std.specs.Prelude.{◌≡◌, ℕ, ◌==◌, true, List, length}
use Rattle.std.specs.List.{list_all}
use Rattle.sg_plan.specs.declared.plan.Plan.{Plan}
use Rattle.sg_record.specs.Formed.{has_rows}
use Rattle.sg_parts.specs.Given.{joined}
use Rattle.sg_parts.specs.declared.parts.RowGiven.{RowGiven}

-- so many instances, of so many rows each, which are these
pub record AreInstances (instances count : ℕ) (rows : List RowGiven) (cut : List (List RowGiven)) : Type 0 where
  pub long : length cut ≡ instances
  pub each_long : list_all (λ items. length items == count) cut ≡ true
  pub rows_are : joined cut ≡ rows

-- the rows of each instance of each race, which are these
pub record AreCut (plan : Plan) (rows : List RowGiven) (cut : List (List (List RowGiven))) : Type 0 where
  pub rows_fit : has_rows plan cut ≡ true
  pub rows_are : joined (joined cut) ≡ rows
