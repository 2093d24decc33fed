-- An unaltered run and the odds: all lists of coins get yes behind its first two sections (this project's rules for the record).
use Rattle.std.specs.Prelude.{◌≡◌, ℕ, List, length, Some, None}
use Rattle.sg_commit.specs.declared.Opening.{Opening}
use Rattle.sg_plan.specs.Ballots.{r_rows}
use Rattle.sg_plan.specs.Limits.{fault_of}
use Rattle.sg_plan.specs.declared.plan.Plan.{Plan}
use Rattle.sg_plan.specs.declared.plan.Side.{Side}
use Rattle.sg_plan.specs.declared.plan.Side.TheVariants as side
use Rattle.sg_tables.specs.Tables.{left_opening_of, right_opening_of}
use Rattle.sg_record.specs.Laws.{IsTextOf}
use Rattle.sg_record.specs.Places.{places_in}
use Rattle.sg_record.specs.declared.record.Record.{Record}
use Rattle.sg_check.specs.Completions.{Completion}
use Rattle.sg_post.specs.Posted.{posted_text}
use Rattle.sg_post.specs.declared.story.Story.{Story}
use Rattle.sg_accepted.specs.Unaltered.{IsUnaltered}
use Rattle.sg_odds.specs.Coins.{GetsYes, before_draw}
use Rattle.sg_odds.specs.Odds.{IsFullCompletion}

-- the openings of the tables, at each half of each row
abbrev pub table_half : Plan → List ℕ → Side → ℕ → ℕ → ℕ → Opening
table_half plan seed side.Left race instance row = left_opening_of plan seed race instance row
table_half plan seed side.Right race instance row = right_opening_of plan seed race instance row

abbrev pub tables_of : Plan → List ℕ → Completion
tables_of plan seed on race instance row = Some (table_half plan seed on race instance row)

-- the tables are a full completion of this record, and with them all lists of coins get yes behind its first two sections
pub record AllGetYes (plan : Plan) (seed : List ℕ) (posted : Record) : Type 0 where
  pub full : IsFullCompletion posted.plan (places_in posted) (tables_of plan seed)
  pub all : (coins : List Side) → length coins ≡ r_rows posted.plan → GetsYes (before_draw (places_in posted)) (tables_of plan seed) coins

-- so it is of what is posted of each unaltered story, whatever is drawn
abbrev pub UnalteredGetsYes : Type 0
UnalteredGetsYes = (plan : Plan) (seed : List ℕ) (story : Story) → fault_of plan ≡ None → IsUnaltered plan seed story
    → (posted : Record) → IsTextOf (posted_text plan seed story) posted → AllGetYes plan seed posted
