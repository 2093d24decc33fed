-- How rows are judged, one after another.
use Rattle.std.specs.Prelude.{◌≡◌, ℕ, ◌/◌, ◌%◌, ◌<◌, ◌==◌, Bool, true, false, ◌&&◌, ◌⊎◌, List, bytes_eq, Option, Some, None}
use Rattle.std.specs.Option.{option_and_then, option_map, option_map_or}
use Rattle.sg_commit.specs.declared.Opening.{Opening}
use Rattle.sg_plan.specs.Ballots.{candidates_of}
use Rattle.sg_plan.specs.declared.plan.Plan.{Plan}
use Rattle.sg_plan.specs.declared.plan.Side.{Side}
use Rattle.sg_plan.specs.declared.plan.Side.TheVariants as side
use Rattle.sg_forms.specs.declared.line.RowOpening.{RowOpening}
use Rattle.sg_forms.specs.declared.line.RowOpening.TheVariants as opened
use Rattle.sg_record.specs.declared.record.Record.{Record}
use Rattle.sg_check.specs.Completions.{IsHalfOf}
use Rattle.sg_check.specs.Kinds.{opens_digest, half_kind}
use Rattle.sg_check.specs.Facts.{opened_on}
use Rattle.sg_facts.specs.Items.{item_in, row_in}
use Rattle.sg_facts.specs.Listed.{digest_on}
use Rattle.sg_parts.specs.Faults.{IsFirstWrong}
use Rattle.sg_parts.specs.Given.{completion_of, printing_of}
use Rattle.sg_parts.specs.declared.checks.At.{At}
use Rattle.sg_parts.specs.declared.checks.Test.{Test}
use Rattle.sg_parts.specs.declared.checks.Test.TheVariants as asked
use Rattle.sg_parts.specs.declared.parts.RowGiven.{RowGiven}

-- THE FIRST ROW THAT FAILS

abbrev pub FirstBelow : ℕ → (ℕ → Bool) → Option ℕ → Type 0
FirstBelow count test None = (x : ℕ) → x < count → test x ≡ true
FirstBelow count test (Some at) = (at < count) × (test at ≡ false) × ((x : ℕ) → x < at → test x ≡ true)

abbrev pub FirstPair : ℕ → ℕ → (ℕ → ℕ → Bool) → Option (ℕ × ℕ) → Type 0
FirstPair instances count test None = (i x : ℕ) → i < instances → x < count → test i x ≡ true
FirstPair instances count test (Some at) =
    (at.0 < instances) × (at.1 < count) × (test at.0 at.1 ≡ false) × ((i x : ℕ) → i < instances → x < count → ((i < at.0) ⊎ ((i ≡ at.0) × (x < at.1))) → test i x ≡ true)

abbrev pub FirstRow : Plan → (ℕ → ℕ → ℕ → Bool) → Option At → Type 0
FirstRow plan test None = (r i x : ℕ) → IsHalfOf plan r i x → test r i x ≡ true
FirstRow plan test (Some at) = IsFirstWrong plan (λ r i x. test r i x ≡ true) at.race at.instance at.row

-- A ROW STANDS

-- what the row opens on its two sides, where it opens both
abbrev pub both_in : RowOpening → Option (Opening × Opening)
both_in (opened.Left opening) = None
both_in (opened.Right opening) = None
both_in (opened.Both left right) = Some (left, right)

abbrev pub code_stands : Plan → List (List (List ℕ)) → ℕ → Opening × Opening → ℕ → Bool
code_stands plan lists race both code = printing_of lists race (both.0.value / candidates_of plan race) (both.1.value % candidates_of plan race) == code

abbrev pub both_stand : Plan → List (List (Option ℕ)) → List (List (List ℕ)) → ℕ → Opening × Opening → Bool
both_stand plan known lists race both = option_map_or (code_stands plan lists race both) (option_map_or (λ code. code) (item_in known race both.0.value) None) true

-- the row isn't opened on both sides, or its entry has no known code, or it is printed beside the candidate of its place
abbrev pub row_stands : Plan → Record → List (List (Option ℕ)) → List (List (List ℕ)) → ℕ → ℕ → ℕ → Bool
row_stands plan posted known lists race instance row = option_map_or (both_stand plan known lists race) (option_and_then both_in (row_in posted.rows race instance row)) true

-- A ROW IS RIGHT

-- the opening opens the digest
abbrev pub opens_half : Record → Side → ℕ → ℕ → ℕ → Opening → Bool
opens_half posted on race instance row opening = opens_digest (option_map (digest_on on) (row_in posted.row_commits race instance row)) (half_kind on) race instance row opening

abbrev pub half_opens : Record → List (List (List RowGiven)) → Side → ℕ → ℕ → ℕ → Bool
half_opens posted rows on race instance row = option_map_or (opens_half posted on race instance row) (completion_of rows on race instance row) true

abbrev pub row_opens : Record → List (List (List RowGiven)) → ℕ → ℕ → ℕ → Bool
row_opens posted rows race instance row = half_opens posted rows side.Left race instance row && half_opens posted rows side.Right race instance row

-- two openings are the same
abbrev pub is_same_opening : Opening → Opening → Bool
is_same_opening a b = bytes_eq a.key.0 b.key.0 && a.value == b.value

abbrev pub keeps_opening : Option Opening → Opening → Bool
keeps_opening given posted = option_map_or (is_same_opening posted) given false

abbrev pub half_keeps : Record → List (List (List RowGiven)) → Side → ℕ → ℕ → ℕ → Bool
half_keeps posted rows on race instance row = option_map_or (keeps_opening (completion_of rows on race instance row)) (option_and_then (opened_on on) (row_in posted.rows race instance row)) true

abbrev pub row_keeps : Record → List (List (List RowGiven)) → ℕ → ℕ → ℕ → Bool
row_keeps posted rows race instance row = half_keeps posted rows side.Left race instance row && half_keeps posted rows side.Right race instance row

abbrev pub row_right : Record → List (List (List RowGiven)) → ℕ → ℕ → ℕ → Bool
row_right posted rows race instance row = row_opens posted rows race instance row && row_keeps posted rows race instance row

-- A ROW PASSES A TEST

abbrev pub passes : Plan → Record → Test → ℕ → ℕ → ℕ → Bool
passes plan posted (asked.Stands known lists) = row_stands plan posted known.now lists.now
passes plan posted (asked.Right rows) = row_right posted rows.now
