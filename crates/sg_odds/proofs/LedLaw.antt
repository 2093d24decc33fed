-- Where each marked entry's code is printed beside the candidate that its row leads to, as many marked entries are led to a
-- candidate as codes are posted for it.
use Rattle.std.proofs.Common.{◌≡◌, ℕ, ◌/◌, ◌%◌, ◌<◌, ◌==◌, true, false, ◌&&◌, inl, inr, not, List, length, Option, Some, None, refl, sym, ap, ◌∙◌, arith}
use Rattle.std.specs.Option.{is_some}
use Rattle.std.proofs.lemmas.Bool.{cases_eq, eq-eqb, eqb-true, lt-ltb, ne_eqb, not-false}
use Rattle.std.proofs.lemmas.Nat.{div_below, mod_below}
use Rattle.sg_commit.specs.declared.Opening.{Opening}
use Rattle.sg_plan.specs.Ballots.{candidates_of, entries_of, rows_of}
use Rattle.sg_plan.specs.declared.plan.Plan.{Plan}
use Rattle.sg_plan.specs.declared.plan.Side.TheVariants as side
use Rattle.sg_grammar.specs.Placed.{Placed}
use Rattle.sg_check.specs.Facts.{is_marked}
use Rattle.sg_check.proofs.Bounding.{marked_is}
use Rattle.sg_check.proofs.Counting.{count-same}
use Rattle.sg_check.specs.Completions.{Completion, is_row_misprinted}
use Rattle.sg_check.specs.Printings.{AreCodesDifferent, Printing, is_posted_for, marked_code, posted_count}
use Rattle.sg_odds.specs.Odds.{IsInstanceFull, LedIsPosted, is_led, led}
use Rattle.sg_odds.proofs.Leading.{count-onto, has_half, pointer, pointer_is, pointers_once}

module _ (plan : Plan) (lines : List Placed) (completion : Completion) (printing : Printing) (differ : AreCodesDifferent plan printing)
    (race instance candidate : ℕ) (race_in : race < length plan.races) (candidate_in : candidate < candidates_of plan race) (full : IsInstanceFull plan completion race instance) where
  -- the code is printed beside this candidate exactly where the row leads to it
  beside : (entry column shown : ℕ) → entry < entries_of plan race → column < candidates_of plan race → printing race (entry / candidates_of plan race) column ≡ shown
      → (column == candidate) ≡ (printing race (entry / candidates_of plan race) candidate == shown)
  beside entry column shown low within is = elim (cases_eq column candidate) [
    | inl same ↦
        rw (eq-eqb column candidate same) (sym (eq-eqb (printing race (entry / candidates_of plan race) candidate) shown (ap (λ (j : ℕ). printing race (entry / candidates_of plan race) j) (sym same) ∙ is)))
    | inr other ↦
        rw (ne_eqb column candidate other)
        (sym (ne_eqb (printing race (entry / candidates_of plan race) candidate) shown
        (λ e. differ race (entry / candidates_of plan race) column candidate (race_in, in_row) within candidate_in other (is ∙ sym e))))
  ]
    where
      in_row : entry / candidates_of plan race < rows_of plan race
      in_row = div_below entry (candidates_of plan race) (rows_of plan race) (omega (arith, candidate_in)) low

  printed : (row shown : ℕ) (l r : Opening) → completion side.Left race instance row ≡ Some l → completion side.Right race instance row ≡ Some r → l.value < entries_of plan race → r.value < entries_of plan race
      → marked_code plan race l.value lines ≡ Some shown → is_row_misprinted plan lines completion printing race instance row ≡ false
      → printing race (l.value / candidates_of plan race) (r.value % candidates_of plan race) ≡ shown
  printed row shown l r left right low high is none =
      let beside_is = printing race (l.value / candidates_of plan race) (r.value % candidates_of plan race) in
      let here : is_row_misprinted plan lines completion printing race instance row ≡ not (beside_is == shown)
      = rw (left, right, lt-ltb l.value (entries_of plan race) low, lt-ltb r.value (entries_of plan race) high, is) refl in
      eqb-true beside_is shown (not-false (beside_is == shown) (sym here ∙ none))

  alike : (row : ℕ) (l r : Opening) → completion side.Left race instance row ≡ Some l → completion side.Right race instance row ≡ Some r → l.value < entries_of plan race → r.value < entries_of plan race
      → is_row_misprinted plan lines completion printing race instance row ≡ false
      → (is_marked plan race l.value lines && r.value % candidates_of plan race == candidate) ≡ is_posted_for plan lines printing race candidate l.value
  alike row l r left right low high none = by_code (marked_code plan race l.value lines) refl
    where
      by_code : (x : Option ℕ) → marked_code plan race l.value lines ≡ x → (is_marked plan race l.value lines && r.value % candidates_of plan race == candidate) ≡ is_posted_for plan lines printing race candidate l.value
      by_code None e =
          let unmarked : is_marked plan race l.value lines ≡ false = sym (marked_is plan race l.value lines) ∙ ap is_some e in
          rw (e, unmarked) refl
      by_code (Some shown) e =
          let marked : is_marked plan race l.value lines ≡ true = sym (marked_is plan race l.value lines) ∙ ap is_some e in
          rw (e, marked)
          (beside l.value (r.value % candidates_of plan race) shown low (mod_below r.value (candidates_of plan race) (omega (arith, candidate_in))) (printed row shown l r left right low high e none))

  module _ (none : (row : ℕ) → row < entries_of plan race → is_row_misprinted plan lines completion printing race instance row ≡ false) where
    row_alike : (row : ℕ) → row < entries_of plan race
        → is_led plan lines completion race instance candidate row ≡ is_posted_for plan lines printing race candidate (pointer plan completion race instance full side.Left row)
    row_alike row less =
        let l = has_half plan completion race instance full side.Left row less in
        let r = has_half plan completion race instance full side.Right row less in
        rw (pointer_is plan completion race instance full side.Left row l, pointer_is plan completion race instance full side.Right row r)
        (alike row l.opening r.opening l.is r.is l.below r.below (none row less))

    pub led_posted : led plan lines completion race instance candidate ≡ posted_count plan lines printing race candidate
    led_posted =
        count-same (is_led plan lines completion race instance candidate) (λ row. is_posted_for plan lines printing race candidate (pointer plan completion race instance full side.Left row)) (entries_of plan race) row_alike
        ∙ count-onto (pointer plan completion race instance full side.Left) (entries_of plan race) (is_posted_for plan lines printing race candidate) (pointers_once plan completion race instance full side.Left)

pub led_is_posted : LedIsPosted
led_is_posted plan lines completion full printing differ race instance candidate race_in instance_in candidate_in none =
    led_posted plan lines completion printing differ race instance candidate race_in candidate_in (full.full race instance race_in instance_in) none
