-- The table of paths tells one more line, where it told the lines before.
use Rattle.std.proofs.Common.{◌≡◌, ℕ, ◌==◌, nat_lt, inl, inr, Bool, true, false, ◌&&◌, ◌||◌, List, [], ◌∷◌, ◌++◌, length, Option, Some, None, refl, sym, ap, ◌∙◌, eqb-true, eq-eqb, ltb-true}
use Rattle.std.proofs.lemmas.Bool.{and_left, and_parts, and_right, both_ways, cases_Bool, false_from_ne_true, false≢true}
use Rattle.std.specs.List.{list_any}
use Rattle.sg_check.specs.Kinds.{clashes_with}
use Rattle.sg_commit.specs.declared.Opening.{Opening}
use Rattle.sg_forms.specs.declared.line.RowOpening.TheVariants as row
use Rattle.sg_ledger.proofs.KeptSteps.{AgreesWith}
use Rattle.sg_ledger.proofs.Lists.{any-along, any-push, any-skip}
use Rattle.sg_ledger.proofs.Places.{entry_other, entry_same, tells-set}
use Rattle.sg_ledger.specs.inside.Steps.{paths_after}
use Rattle.sg_ledger.specs.Tells.{ArePlacedIn, TellsPaths, is_value, leads_entry, leads_to}
use Rattle.sg_plan.proofs.PlanLaws.{entry_place-below}
use Rattle.sg_plan.specs.Ballots.{all_entries, entries_of, entry_place}
use Rattle.sg_plan.specs.declared.plan.Plan.{Plan}
use Rattle.sg_grammar.specs.Placed.{Placed}
use Rattle.sg_grammar.specs.Placed.Placed.{RowAt}
use Rattle.sg_grammar.specs.Coordinates.{IsPlacedIn}

-- both pointers are below n
abbrev pub are_small : Plan → ℕ → Opening → Opening → Bool
are_small plan race left right = nat_lt left.value (entries_of plan race) && nat_lt right.value (entries_of plan race)

-- a row that leads the entry to another place clashes with this one
led_otherwise : (plan : Plan) (race entry place to : ℕ) → (place == to) ≡ false
    → (line : Placed) → IsPlacedIn plan line → leads_entry plan race entry to line ≡ true → clashes_with plan race entry place line ≡ true
led_otherwise plan race entry place to differ (RowAt of instance number (row.Both left right)) placed leads =
    let parts = and_parts (of == race) (are_small plan race left right && (left.value == entry && right.value == to)) leads in
    let inner = and_parts (are_small plan race left right) (left.value == entry && right.value == to) parts.1 in
    let ends = and_parts (left.value == entry) (right.value == to) inner.1 in
    let apart : (right.value == place) ≡ false = false_from_ne_true (right.value == place) (λ e. both_ways (place == to) differ (eq-eqb place to (sym (eqb-true right.value place e) ∙ eqb-true right.value to ends.1))) in
    rw (parts.0, inner.0, ends.0, apart) refl
led_otherwise plan race entry place to differ (RowAt of instance number (row.Left opening)) placed leads = absurd (false≢true (sym (and_right (of == race) false refl) ∙ leads))
led_otherwise plan race entry place to differ (RowAt of instance number (row.Right opening)) placed leads = absurd (false≢true (sym (and_right (of == race) false refl) ∙ leads))
led_otherwise plan race entry place to differ line placed leads = absurd (false≢true leads)

leads_false : (race small entry place : Bool) → (race && entry) ≡ false → (race && (small && (entry && place))) ≡ false
leads_false true true true place other = absurd (false≢true (sym other))
leads_false true false true place other = refl
leads_false true true false place other = refl
leads_false true false false place other = refl
leads_false false small entry place other = refl

lead_push : (some equal : Bool) → (equal ≡ false → some ≡ false) → (some || equal) ≡ equal
lead_push true true only = refl
lead_push false true only = refl
lead_push some false only = rw (only refl) refl

pub paths_step : (plan : Plan) (table : List (Option ℕ)) (lines : List Placed) (line : Placed) → IsPlacedIn plan line → length table ≡ all_entries plan → ArePlacedIn plan lines
    → AgreesWith plan line lines → TellsPaths plan table lines → TellsPaths plan (paths_after plan table line) (lines ++ line ∷ [])
paths_step plan table lines (RowAt race instance number (row.Both left right)) placed sized placed_lines agrees told = λ r e r_in e_in.
    let line = RowAt race instance number (row.Both left right) in
    let small = are_small plan race left right in
    elim (cases_Bool small) [
      | inl is_small ↦
          let below = ltb-true left.value (entries_of plan race) (and_parts (nat_lt left.value (entries_of plan race)) (nat_lt right.value (entries_of plan race)) is_small).0 in
          rw is_small (tells-set table None (entry_place plan race left.value) (entry_place plan r e) (Some right.value)
          (λ (v : Option ℕ). (place : ℕ) → list_any (leads_entry plan r e place) (lines ++ line ∷ []) ≡ is_value v place) (race == r && left.value == e)
          (rw sized (entry_place-below plan race left.value placed.0 below)) (entry_same plan race left.value r e) (entry_other plan race left.value r e below e_in)
          (λ same place.
          let parts = and_parts (race == r) (left.value == e) same in
          let race_is : race ≡ r = eqb-true race r parts.0 in
          let entry_is : left.value ≡ e = eqb-true left.value e parts.1 in
          let small' : are_small plan r left right ≡ true = rw (← race_is) is_small in
          let leads : leads_entry plan r e place line ≡ (right.value == place) = rw (parts.0, small', parts.1) refl in
          any-push (leads_entry plan r e place) lines line
          ∙ (ap (λ (b : Bool). list_any (leads_entry plan r e place) lines || b) leads
          ∙ lead_push (list_any (leads_entry plan r e place) lines) (right.value == place)
          (λ differ. rw (← race_is, ← entry_is) (false_from_ne_true (list_any (leads_entry plan race left.value place) lines)
          (λ some. both_ways (list_any (clashes_with plan race left.value right.value) lines) (agrees is_small)
          (any-along plan (leads_entry plan race left.value place) (clashes_with plan race left.value right.value) lines placed_lines (led_otherwise plan race left.value right.value place differ) some))))))
          (λ other place. any-skip (leads_entry plan r e place) lines line (leads_false (race == r) (are_small plan r left right) (left.value == e) (right.value == place) other) ∙ told r e r_in e_in place))
      | inr not_small ↦ λ place.
          let none : leads_entry plan r e place line ≡ false = elim (cases_Bool (race == r)) [
            | inl same ↦
                let race_is = eqb-true race r same in
                let not_small' : are_small plan r left right ≡ false = rw (← race_is) not_small in
                rw (same, not_small') refl
            | inr other ↦ and_left (race == r) (leads_to plan r e place (row.Both left right)) other
          ] in
          rw not_small (any-skip (leads_entry plan r e place) lines line none ∙ told r e r_in e_in place)
    ]
paths_step plan table lines (RowAt race instance number (row.Left opening)) placed sized placed_lines agrees told = λ r e r_in e_in place.
    any-skip (leads_entry plan r e place) lines (RowAt race instance number (row.Left opening)) (and_right (race == r) false refl) ∙ told r e r_in e_in place
paths_step plan table lines (RowAt race instance number (row.Right opening)) placed sized placed_lines agrees told = λ r e r_in e_in place.
    any-skip (leads_entry plan r e place) lines (RowAt race instance number (row.Right opening)) (and_right (race == r) false refl) ∙ told r e r_in e_in place
paths_step plan table lines line placed sized placed_lines agrees told = λ r e r_in e_in place. any-skip (leads_entry plan r e place) lines line refl ∙ told r e r_in e_in place
