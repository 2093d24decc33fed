-- The definitions at work on a small record. An example says nothing that the definitions don't; it shows that they say what
-- they should (this project's rules for the record).
use Rattle.std.specs.Prelude.{◌≡◌, ℕ, true, false, List, [], ◌∷◌, ◌++◌, map, Some}
use Rattle.sg_commit.specs.declared.Key.{Key}
use Rattle.sg_commit.specs.declared.Opening.{Opening}
use Rattle.sg_forms.specs.declared.line.RowOpening.TheVariants as opened
use Rattle.sg_plan.specs.Ballots.{r_rows}
use Rattle.sg_plan.specs.declared.plan.Plan.{Plan}
use Rattle.sg_plan.specs.declared.plan.Side.TheVariants as side
use Rattle.sg_grammar.specs.Placed.{Placed}
use Rattle.sg_grammar.specs.Placed.Placed.{CodeAt, DrawnPublic, FlagsAt, PlacesAt, RowAt, TotalAt}
use Rattle.sg_grammar.specs.declared.state.Block.TheVariants as block
use Rattle.sg_check.specs.Completions.{Completion}
use Rattle.sg_odds.specs.Coins.{are_on_coins, before_draw}
use Rattle.sg_odds.specs.Odds.{exponent, is_lacking, led}

-- one race of two candidates, one ballot, and one instance of two rows
abbrev pub small : Plan
small = record {
  version = 1;
  name = 69 ∷ [];
  instances = 1;
  races = record { name = 77 ∷ []; candidates = (65 ∷ []) ∷ (66 ∷ []) ∷ []; votes = 1 } ∷ [];
  styles = record { name = 83 ∷ []; races = 0 ∷ [] } ∷ [];
  runs = record { style = 0; count = 1 } ∷ [];
}

abbrev pub opening : Key → ℕ → Opening
opening key value = record { key = key; value = value }

-- entry 0 is marked
abbrev pub posted : Key → List ℕ → List ℕ → ℕ → ℕ → List Placed
posted key flags places first second =
    CodeAt block.Cast 1 0 0 (record { race = 0; column = 0; key = key; code = 100 })
    ∷ FlagsAt 0 0 0 flags
    ∷ PlacesAt 0 0 places
    ∷ TotalAt 0 0 first
    ∷ TotalAt 0 1 second
    ∷ []

abbrev pub first_bit : List ℕ
first_bit = 0x31 ∷ 0x30 ∷ []

abbrev pub both_bits : List ℕ
both_bits = 0x31 ∷ 0x31 ∷ []

abbrev pub honest : Key → List Placed
honest key = posted key first_bit first_bit 1 0

-- a vote for candidate 1 that nobody gave: its place is set, and the flag of its row is not
abbrev pub stuffed : Key → List Placed
stuffed key = posted key first_bit both_bits 1 1

-- the same, with the flag set
abbrev pub flagged : Key → List Placed
flagged key = posted key both_bits both_bits 1 1

-- each row leads from its entry to its place
abbrev pub straight : Key → Completion
straight key on race instance row = Some (opening key row)

-- both rows have the same pointers
abbrev pub doubled : Key → Completion
doubled key on race instance row = Some (opening key 1)

-- row 0 is opened on the left side, and row 1 on both
abbrev pub opened_rows : Key → List Placed
opened_rows key = RowAt 0 0 0 (opened.Left (opening key 0)) ∷ RowAt 0 0 1 (opened.Both (opening key 1) (opening key 1)) ∷ []

pub record AreOddsShown (key : Key) : Type 0 where
  pub rows : r_rows small ≡ 2
  pub sections : before_draw (honest key ++ DrawnPublic [] ∷ opened_rows key) ≡ honest key
  -- two of the four lists have a left coin for row 0; a list with a coin more, or less, is none of these rows
  pub sides : map (are_on_coins (opened_rows key)) ((side.Left ∷ side.Left ∷ []) ∷ (side.Left ∷ side.Right ∷ []) ∷ (side.Right ∷ side.Left ∷ []) ∷ (side.Right ∷ side.Right ∷ []) ∷ [])
      ≡ true ∷ true ∷ false ∷ false ∷ []
  pub long : map (are_on_coins (opened_rows key)) ((side.Left ∷ []) ∷ (side.Left ∷ side.Left ∷ side.Left ∷ []) ∷ []) ≡ false ∷ false ∷ []
  -- the marked entry is led to candidate 0
  pub leads : map (led small (honest key) (straight key) 0 0) (0 ∷ 1 ∷ []) ≡ 1 ∷ 0 ∷ []
  pub honest_is : exponent small (honest key) (straight key) 0 ≡ 0
  pub stuffed_is : exponent small (stuffed key) (straight key) 0 ≡ 1
  pub flagged_is : exponent small (flagged key) (straight key) 0 ≡ 1
  -- row 1 has the pointers of row 0
  pub lacks : map (is_lacking small (doubled key) 0 0) (0 ∷ 1 ∷ []) ≡ false ∷ true ∷ []

abbrev pub OddsAreShown : Type 0
OddsAreShown = (key : Key) → AreOddsShown key
