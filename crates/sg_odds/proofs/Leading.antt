-- In each instance of a full completion at least as many rows are wrong on one of their sides as a total differs from the
-- marked entries that are led to the candidate.
use Rattle.std.proofs.Common.{◌≡◌, ℕ, zero, suc, ◌+◌, ◌%◌, ◌<◌, ◌≤◌, ◌==◌, nat_le, nat_lt, Bool, true, false, ◌&&◌, ◌||◌, inl, inr, not, List, Option, Some, None, refl, sym, subst, ap, ◌∙◌, arith}
use Rattle.std.specs.Option.{option_map_or}
use Rattle.std.proofs.lemmas.Bool.{cases_eq, cases_lt, eq-eqb, leb-false, lt-ltb, or_parts}
use Rattle.sg_lists.proofs.Bools.{one_if}
use Rattle.sg_commit.specs.declared.Opening.{Opening}
use Rattle.sg_plan.specs.Ballots.{candidates_of, entries_of}
use Rattle.sg_plan.specs.declared.plan.Plan.{Plan}
use Rattle.sg_plan.specs.declared.plan.Side.{Side}
use Rattle.sg_plan.specs.declared.plan.Side.TheVariants as side
use Rattle.sg_grammar.specs.Placed.{Placed}
use Rattle.sg_grammar.specs.declared.state.Slot.TheVariants as slot
use Rattle.sg_check.specs.Facts.{is_flagged, is_marked, is_set, points_to}
use Rattle.sg_check.specs.Kinds.{differ}
use Rattle.sg_check.proofs.Counting.{IsOneToOne, count-into, count-not}
use Rattle.sg_check.proofs.Rows.{any_below-none, same_bits}
use Rattle.sg_check.proofs.Votes.{is_vote}
use Rattle.sg_check.specs.Bounds.{DifferByAtMost}
use Rattle.sg_check.specs.Completions.{Completion, any_below}
use Rattle.sg_check.specs.Printings.{count_below}
use Rattle.sg_odds.specs.Odds.{IsInstanceFull, distance, half_of, is_half_lacking, is_led, led, no_opening}
use Rattle.sg_odds.proofs.Halving.{is_barred}
use Rattle.sg_odds.proofs.Barred.{bars}

-- COUNTING

-- a one-to-one map of the numbers below n leads to each of them
pub count-onto : (f : ℕ → ℕ) (n : ℕ) (p : ℕ → Bool) → IsOneToOne (λ row. true) f n → count_below (λ k. p (f k)) n ≡ count_below p n
count-onto f n p ones =
    let found = count-into (λ k. true) f n p n ones.below ones.one in
    let missed = count-into (λ k. true) f n (λ k. not (p k)) n ones.below ones.one in
    omega (arith, found, missed, count-not p n, count-not (λ k. p (f k)) n)

-- tests that agree but for some numbers
pub count-apart : (p q bad : ℕ → Bool) (n : ℕ) → ((k : ℕ) → k < n → bad k ≡ false → p k ≡ q k) → count_below p n ≤ count_below q n + count_below bad n
count-apart p q bad zero same = omega arith
count-apart p q bad (suc n) same = omega (arith, count-apart p q bad n (λ k less. same k (omega arith)), here (bad n) (p n) (q n) (same n (omega arith)))
  where
    here : (b x y : Bool) → (b ≡ false → x ≡ y) → one_if x ≤ one_if y + one_if b
    here true true y alike = omega arith
    here true false y alike = omega arith
    here false x y alike = rw (alike refl) (omega arith)

-- THE POINTERS OF A FULL COMPLETION

module _ (plan : Plan) (completion : Completion) (race instance : ℕ) (full : IsInstanceFull plan completion race instance) where
  abbrev pub pointer : Side → ℕ → ℕ
  pointer on row = (half_of completion on race instance row).value

  not_lacking : (on : Side) (row : ℕ) → row < entries_of plan race → is_half_lacking plan completion on race instance row ≡ false
  not_lacking side.Left row less = (or_parts (is_half_lacking plan completion side.Left race instance row) (is_half_lacking plan completion side.Right race instance row) (full row less)).0
  not_lacking side.Right row less = (or_parts (is_half_lacking plan completion side.Left race instance row) (is_half_lacking plan completion side.Right race instance row) (full row less)).1

  -- the row's opening, whose pointer is below n and no earlier row's
  pub record HasHalf (on : Side) (row : ℕ) : Type 0 where
    pub opening : Opening
    pub is : completion on race instance row ≡ Some opening
    pub below : opening.value < entries_of plan race
    pub alone : any_below (λ earlier. points_to opening.value (completion on race instance earlier)) row ≡ false

  pub has_half : (on : Side) (row : ℕ) → row < entries_of plan race → HasHalf on row
  has_half on row less = by_opening (completion on race instance row) refl (not_lacking on row less)
    where
      lacks : Option Opening → Bool
      lacks x = option_map_or (λ (o : Opening). nat_le (entries_of plan race) o.value || any_below (λ earlier. points_to o.value (completion on race instance earlier)) row) x true

      by_opening : (x : Option Opening) → completion on race instance row ≡ x → lacks (completion on race instance row) ≡ false → HasHalf on row
      by_opening None e good = let both : true ≡ false = sym (ap lacks e) ∙ good in cc
      by_opening (Some o) e good =
          let parts = or_parts (nat_le (entries_of plan race) o.value) (any_below (λ earlier. points_to o.value (completion on race instance earlier)) row) (sym (ap lacks e) ∙ good) in
          record { opening = o; is = e; below = leb-false (entries_of plan race) o.value parts.0; alone = parts.1 }

  pub pointer_is : (on : Side) (row : ℕ) (h : HasHalf on row) → pointer on row ≡ h.opening.value
  pointer_is on row h = ap (λ (x : Option Opening). (option_map_or (λ (o : Opening). o) x no_opening).value) h.is

  -- two rows have two pointers
  earlier_other : (on : Side) (row other : ℕ) (a : HasHalf on row) (b : HasHalf on other) → row < other → a.opening.value ≡ b.opening.value → ⊥
  earlier_other on row other a b less same =
      let here = any_below-none (λ earlier. points_to b.opening.value (completion on race instance earlier)) other row b.alone less in
      let both : true ≡ false = sym (rw (a.is, eq-eqb a.opening.value b.opening.value same) refl) ∙ here in
      cc

  one_row : (on : Side) (row other : ℕ) → HasHalf on row → HasHalf on other → pointer on row ≡ pointer on other → row ≡ other
  one_row on row other a b same = elim (cases_lt row other) [
    | inl less ↦ absurd (earlier_other on row other a b less values)
    | inr not_less ↦ elim (cases_eq row other) [
      | inl equal ↦ equal
      | inr unequal ↦ absurd (earlier_other on other row b a (omega (arith, not_less, unequal)) (sym values))
    ]
  ]
    where
      values : a.opening.value ≡ b.opening.value
      values = sym (pointer_is on row a) ∙ (same ∙ pointer_is on other b)

  pub pointers_once : (on : Side) → IsOneToOne (λ row. true) (pointer on) (entries_of plan race)
  pointers_once on = record {
    below = λ row less g. let h = has_half on row less in subst (λ (v : ℕ). v < entries_of plan race) (sym (pointer_is on row h)) h.below;
    one = λ row other less other_less g d same. one_row on row other (has_half on row less) (has_half on other other_less) same;
  }

  -- ROWS THAT ARE WRONG ON NO SIDE

  module _ (sections : List Placed) (candidate : ℕ) where
    abbrev pub barred : ℕ → Bool
    barred row = is_barred (bars plan sections completion) (slot.Row race instance row)

    -- its entry is marked exactly where its place is set
    marked_set : (row : ℕ) → row < entries_of plan race → barred row ≡ false
        → is_marked plan race (pointer side.Left row) sections ≡ is_set race (pointer side.Right row) sections
    marked_set row less free =
        let parts = or_parts (bars plan sections completion (slot.Row race instance row) side.Left) (bars plan sections completion (slot.Row race instance row) side.Right) free in
        sym (agree (pointer side.Left row) (is_marked plan race (pointer side.Left row) sections) ((pointers_once side.Left).below row less refl) parts.0)
        ∙ agree (pointer side.Right row) (is_set race (pointer side.Right row) sections) ((pointers_once side.Right).below row less refl) parts.1
      where
        agree : (v : ℕ) (counted : Bool) → v < entries_of plan race → (nat_lt v (entries_of plan race) && differ (is_flagged race instance row sections) counted) ≡ false
            → is_flagged race instance row sections ≡ counted
        agree v counted below right = same_bits _ _ (sym (ap (λ (b : Bool). b && differ (is_flagged race instance row sections) counted) (lt-ltb v (entries_of plan race) below)) ∙ right)

    led_vote : (row : ℕ) → row < entries_of plan race → barred row ≡ false
        → is_led plan sections completion race instance candidate row ≡ is_vote plan race candidate sections (pointer side.Right row)
    led_vote row less free = ap (λ (b : Bool). b && pointer side.Right row % candidates_of plan race == candidate) (marked_set row less free)

    pub led_bound : DifferByAtMost (count_below barred (entries_of plan race)) (count_below (is_vote plan race candidate sections) (entries_of plan race)) (led plan sections completion race instance candidate)
    led_bound =
        let votes = count-onto (pointer side.Right) (entries_of plan race) (is_vote plan race candidate sections) (pointers_once side.Right) in
        let fewer = count-apart (λ row. is_vote plan race candidate sections (pointer side.Right row)) (is_led plan sections completion race instance candidate) barred (entries_of plan race)
        (λ row less free. sym (led_vote row less free)) in
        let greater = count-apart (is_led plan sections completion race instance candidate) (λ row. is_vote plan race candidate sections (pointer side.Right row)) barred (entries_of plan race) led_vote in
        record { more = omega (arith, votes, fewer); less = omega (arith, votes, greater) }

    pub distance_bound : distance (count_below (is_vote plan race candidate sections) (entries_of plan race)) (led plan sections completion race instance candidate) ≤ count_below barred (entries_of plan race)
    distance_bound = omega (arith, led_bound.more, led_bound.less)
