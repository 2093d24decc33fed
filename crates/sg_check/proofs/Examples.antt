-- A small record, to see the definitions at work: one race of two candidates, two ballots, one instance.
use Rattle.std.proofs.Common.{◌≡◌, ℕ, ◌+◌, ◌*◌, ◌==◌, true, false, cond, List, [], ◌∷◌, Option, Some, None, refl}
use Rattle.sg_commit.specs.declared.Key.{Key}
use Rattle.sg_commit.specs.declared.Opening.{Opening}
use Rattle.sg_forms.specs.declared.line.RowOpening.TheVariants as opened
use Rattle.sg_plan.specs.declared.plan.Plan.{Plan}
use Rattle.sg_plan.specs.declared.plan.Side.TheVariants as side
use Rattle.sg_grammar.specs.Placed.{Placed}
use Rattle.sg_grammar.specs.Placed.Placed.{CodeAt, FlagsAt, PlacesAt, RowAt}
use Rattle.sg_grammar.specs.declared.state.Block.TheVariants as block
use Rattle.sg_check.specs.Completions.{Completion, altered_rows, is_altered, posted_half}
use Rattle.sg_check.specs.Printings.{Printing, posted_count}

abbrev small : Plan
small = record {
  version = 1;
  name = 69 ∷ [];
  instances = 1;
  races = record { name = 77 ∷ []; candidates = (65 ∷ []) ∷ (66 ∷ []) ∷ []; votes = 1 } ∷ [];
  styles = record { name = 83 ∷ []; races = 0 ∷ [] } ∷ [];
  runs = record { style = 0; count = 2 } ∷ [];
}

module _ (key : Key) where
  abbrev of : ℕ → Opening
  of value = record { key = key; value = value }

  -- entry 0 is marked, and its place is place 0; rows 0 and 2 are opened left, and rows 1 and 3 right
  abbrev lines : List Placed
  lines =
      CodeAt block.Cast 1 0 0 (record { race = 0; column = 0; key = key; code = 100 })
      ∷ FlagsAt 0 0 0 (0x31 ∷ 0x30 ∷ 0x30 ∷ 0x30 ∷ [])
      ∷ PlacesAt 0 0 (0x31 ∷ 0x30 ∷ 0x30 ∷ 0x30 ∷ [])
      ∷ RowAt 0 0 0 (opened.Left (of 0))
      ∷ RowAt 0 0 1 (opened.Right (of 1))
      ∷ RowAt 0 0 2 (opened.Left (of 2))
      ∷ RowAt 0 0 3 (opened.Right (of 3))
      ∷ []

  -- the codes 100 and 200 beside the candidates of each ballot row
  abbrev paper : Printing
  paper race row candidate = 100 + 100 * candidate

  -- the same codes the other way round
  abbrev turned : Printing
  turned race row candidate = cond (candidate == 0) 200 100

  -- each row leads from its entry to its place
  abbrev honest : Completion
  honest side.Left race instance row = Some (of row)
  honest side.Right race instance row = Some (of row)

  -- the right pointers of rows 0 and 2 are these
  abbrev with_rights : Option Opening → Option Opening → Completion
  with_rights zero two side.Left race instance row = Some (of row)
  with_rights zero two side.Right race instance row = cond (row == 0) zero (cond (row == 2) two (Some (of row)))

  -- nothing but what is posted
  abbrev bare : Completion
  bare on race instance row = posted_half lines on race instance row

  -- the marked entry's code is posted for candidate 0
  posted_example : posted_count small lines paper 0 0 ≡ 1
  posted_example = refl

  -- no row of the honest completion is altered
  honest_example : is_altered small lines honest paper 0 0 0 ≡ false
  honest_example = refl

  honest_rows_example : altered_rows small lines honest paper 0 0 ≡ 0
  honest_rows_example = refl

  -- 1: row 2 has no opening on its unopened side
  none_example : is_altered small lines (with_rights (Some (of 0)) None) paper 0 0 2 ≡ true
  none_example = refl

  none_rows_example : altered_rows small lines (with_rights (Some (of 0)) None) paper 0 0 ≡ 1
  none_rows_example = refl

  -- 2: row 2 has the pointer 4, and n is 4
  past_example : is_altered small lines (with_rights (Some (of 0)) (Some (of 4))) paper 0 0 2 ≡ true
  past_example = refl

  past_rows_example : altered_rows small lines (with_rights (Some (of 0)) (Some (of 4))) paper 0 0 ≡ 1
  past_rows_example = refl

  -- 3: row 2 has the pointer of row 3
  repeated_example : is_altered small lines (with_rights (Some (of 0)) (Some (of 3))) paper 0 0 2 ≡ true
  repeated_example = refl

  repeated_rows_example : altered_rows small lines (with_rights (Some (of 0)) (Some (of 3))) paper 0 0 ≡ 1
  repeated_rows_example = refl

  -- 4: row 0 is flagged and leads to a place that is not set, and row 2 is not and leads to one that is
  flag_example : is_altered small lines (with_rights (Some (of 2)) (Some (of 0))) paper 0 0 0 ≡ true
  flag_example = refl

  flag_rows_example : altered_rows small lines (with_rights (Some (of 2)) (Some (of 0))) paper 0 0 ≡ 2
  flag_rows_example = refl

  -- 5: row 0 leads the marked entry to candidate 0, and its code is printed beside candidate 1
  misprinted_example : is_altered small lines honest turned 0 0 0 ≡ true
  misprinted_example = refl

  misprinted_rows_example : altered_rows small lines honest turned 0 0 ≡ 1
  misprinted_rows_example = refl

  misprinted_codes_example : posted_count small lines turned 0 0 ≡ 0
  misprinted_codes_example = refl

  -- with the posted halves alone each half-opened row is altered
  bare_example : altered_rows small lines bare paper 0 0 ≡ 4
  bare_example = refl
