-- The table of the marked entries that are led to each candidate, and what is told from it and the totals of a record.
use Rattle.std.specs.Prelude.{◌≡◌, ℕ, ◌<◌, List, length, Some}
use Rattle.std.specs.Option.{option_map_or}
use Rattle.sg_plan.specs.Ballots.{candidates_of}
use Rattle.sg_plan.specs.declared.plan.Plan.{Plan}
use Rattle.sg_grammar.specs.Placed.{Placed}
use Rattle.sg_check.specs.Completions.{Completion}
use Rattle.sg_check.specs.Printings.{count_below}
use Rattle.sg_facts.specs.Items.{item_in}
use Rattle.sg_odds.specs.Odds.{distance, is_led, least_with, led}

-- how many marked entries the first rows of an instance lead to a candidate
abbrev pub led_by : Plan → List Placed → Completion → ℕ → ℕ → ℕ → ℕ → ℕ
led_by plan lines completion race instance row candidate = count_below (is_led plan lines completion race instance candidate) row

-- of so many instances, the table has how many marked entries are led to each candidate
pub record HasLed (plan : Plan) (lines : List Placed) (completion : Completion) (race count : ℕ) (table : List (List ℕ)) : Type 0 where
  pub long : length table ≡ count
  pub are : (instance candidate : ℕ) → instance < count → candidate < candidates_of plan race
      → item_in table instance candidate ≡ Some (led plan lines completion race instance candidate)

-- a number of a table, or 0
abbrev pub number_in : List (List ℕ) → ℕ → ℕ → ℕ
number_in table outer inner = option_map_or (λ number. number) (item_in table outer inner) 0

-- how far a candidate's total is from the table's number of an instance
abbrev pub gap_in : List (List ℕ) → List (List ℕ) → ℕ → ℕ → ℕ → ℕ
gap_in totals table race candidate instance = distance (number_in totals race candidate) (number_in table instance candidate)

-- in the instance where it is nearest
abbrev pub least_in : List (List ℕ) → List (List ℕ) → ℕ → ℕ → ℕ → ℕ
least_in totals table race instances candidate = least_with (gap_in totals table race candidate 0) (gap_in totals table race candidate) instances
