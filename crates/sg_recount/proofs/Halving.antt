-- A half is altered where it isn't posted, and has no opening or a wrong one.
use Rattle.std.proofs.Common.{◌≡◌, ℕ, Bool, true, false, ◌&&◌, List, Option, Some, None, is_none, refl, sym, ap, ◌∙◌}
use Rattle.std.specs.Option.{option_and_then, option_map_or}
use Rattle.std.specs.Prelude.{is_some}
use Rattle.sg_commit.specs.declared.Opening.{Opening}
use Rattle.sg_plan.specs.declared.plan.Side.{Side}
use Rattle.sg_record.specs.Places.{places_in}
use Rattle.sg_record.specs.declared.record.Record.{Record}
use Rattle.sg_check.specs.Completions.{is_half_altered, is_wrong_pointer, posted_half}
use Rattle.sg_check.specs.Facts.{opened_on}
use Rattle.sg_facts.proofs.Facts.{are_listed}
use Rattle.sg_facts.specs.Items.{row_in}
use Rattle.sg_parts.specs.Given.{completion_of}
use Rattle.sg_parts.specs.declared.parts.RowGiven.{RowGiven}

none_of : (o : Option Opening) → is_some o ≡ true → is_none o ≡ false
none_of (Some x) e = refl
none_of None e = cc

none_is : (o : Option Opening) → is_some o ≡ false → is_none o ≡ true
none_is None e = refl
none_is (Some x) e = cc

module _ (posted : Record) (rows : List (List (List RowGiven))) (on : Side) (race instance row : ℕ) where
  wrong : Opening → Bool
  wrong opening = is_wrong_pointer posted.plan (places_in posted) (completion_of rows) on race instance row opening.value

  is_unposted : (half : Option Opening) → half ≡ option_and_then (opened_on on) (row_in posted.rows race instance row) → is_none (posted_half (places_in posted) on race instance row) ≡ is_none half
  is_unposted half is = ap is_none ((are_listed posted).half on race instance row ∙ sym is)

  pub altered_posted : (half : Option Opening) → half ≡ option_and_then (opened_on on) (row_in posted.rows race instance row) → is_some half ≡ true
      → is_half_altered posted.plan (places_in posted) (completion_of rows) on race instance row ≡ false
  unfolding wrong
  altered_posted half is some = ap (λ (b : Bool). b && option_map_or wrong (completion_of rows on race instance row) true) (is_unposted half is ∙ none_of half some)

  pub altered_none : (half : Option Opening) → half ≡ option_and_then (opened_on on) (row_in posted.rows race instance row) → is_some half ≡ false → completion_of rows on race instance row ≡ None
      → is_half_altered posted.plan (places_in posted) (completion_of rows) on race instance row ≡ true
  unfolding wrong
  altered_none half is none given =
      ap (λ (b : Bool). b && option_map_or wrong (completion_of rows on race instance row) true) (is_unposted half is ∙ none_is half none) ∙ ap (λ (o : Option Opening). option_map_or wrong o true) given

  pub altered_given : (opening : Opening) (half : Option Opening) → half ≡ option_and_then (opened_on on) (row_in posted.rows race instance row) → is_some half ≡ false → completion_of rows on race instance row ≡ Some opening
      → is_half_altered posted.plan (places_in posted) (completion_of rows) on race instance row ≡ is_wrong_pointer posted.plan (places_in posted) (completion_of rows) on race instance row opening.value
  unfolding wrong
  altered_given opening half is none given =
      ap (λ (b : Bool). b && option_map_or wrong (completion_of rows on race instance row) true) (is_unposted half is ∙ none_is half none) ∙ ap (λ (o : Option Opening). option_map_or wrong o true) given
