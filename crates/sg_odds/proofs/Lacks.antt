-- What is noted of the pointers of an instance, row by row.
use Rattle.std.proofs.Common.{◌≡◌, ℕ, suc, ◌+◌, nat_le, Bool, true, false, ◌||◌, inl, inr, List, length, replicate, Option, Some, None, refl, sym, ap, ◌∙◌, arith}
use Rattle.std.specs.Option.{option_map_or}
use Rattle.std.specs.Prelude.{slice_get}
use Rattle.std.proofs.lemmas.Bool.{cases_eq, cases_lt, le-leb}
use Rattle.std.proofs.lemmas.List.{length-replicate}
use Rattle.sg_lists.proofs.Lists.{slice_get-replicate}
use Rattle.sg_commit.specs.declared.Opening.{Opening}
use Rattle.sg_plan.specs.Ballots.{entries_of}
use Rattle.sg_plan.specs.declared.plan.Plan.{Plan}
use Rattle.sg_plan.specs.declared.plan.Side.{Side}
use Rattle.sg_plan.specs.declared.plan.Side.TheVariants as side
use Rattle.sg_check.specs.Completions.{Completion}
use Rattle.sg_check.specs.Facts.{points_to}
use Rattle.sg_odds.specs.Odds.{is_half_lacking, is_lacking}
use Rattle.sg_odds.specs.inside.Lacking.{IsFullBefore, is_earlier, lacks_in}
use Rattle.sg_odds.specs.inside.Values.{HasValues}

-- LISTS OF ONE VALUE

pub values_filled : {A : Type 0} (n : ℕ) (x : A) (list : List A) → list ≡ replicate n x → HasValues n (λ at. x) list
values_filled n x list is = record {
  long = ap length is ∙ length-replicate n x;
  are = λ at less. ap (λ l. slice_get l at) is ∙ slice_get-replicate n at x less;
}

-- THE POINTERS OF A SIDE

module _ (completion : Completion) (on : Side) (race instance : ℕ) where
  pub seen_more : (count row : ℕ) (seen new : List Bool) (half : Option Opening) → HasValues count (is_earlier completion on race instance row) seen → half ≡ completion on race instance row
      → length new ≡ length seen → ((pointer : ℕ) (was : Bool) → slice_get seen pointer ≡ Some was → slice_get new pointer ≡ Some (was || points_to pointer half))
      → HasValues count (is_earlier completion on race instance (row + 1)) new
  seen_more count row seen new half has is long puts = record {
    long = long ∙ has.long;
    are = λ pointer less.
        let next : suc row ≡ row + 1 = omega arith in
        puts pointer (is_earlier completion on race instance row pointer) (has.are pointer less)
        ∙ (ap (λ (h : Option Opening). Some (is_earlier completion on race instance row pointer || points_to pointer h)) is
        ∙ ap (λ (n : ℕ). Some (is_earlier completion on race instance n pointer)) next);
  }

  -- what is told of the list is told of the half
  pub lacks_is : (plan : Plan) (count row : ℕ) (seen : List Bool) (half : Option Opening) → count ≡ entries_of plan race → HasValues count (is_earlier completion on race instance row) seen
      → half ≡ completion on race instance row → lacks_in seen half ≡ is_half_lacking plan completion on race instance row
  lacks_is plan count row seen half same has is = by_half half ∙ ap (λ (h : Option Opening). option_map_or lacks h true) is
    where
      lacks : Opening → Bool
      lacks opening = nat_le (entries_of plan race) opening.value || is_earlier completion on race instance row opening.value

      long : length seen ≡ entries_of plan race
      long = has.long ∙ same

      by_order : (pointer : ℕ) → (nat_le (length seen) pointer || option_map_or (λ (was : Bool). was) (slice_get seen pointer) false)
          ≡ (nat_le (entries_of plan race) pointer || is_earlier completion on race instance row pointer)
      by_order pointer = elim (cases_lt pointer (entries_of plan race)) [
        | inl below ↦
            ap (λ (n : ℕ). nat_le n pointer || option_map_or (λ (was : Bool). was) (slice_get seen pointer) false) long
            ∙ ap (λ (o : Option Bool). nat_le (entries_of plan race) pointer || option_map_or (λ (was : Bool). was) o false) (has.are pointer (omega (arith, below, same)))
        | inr above ↦
            ap (λ (b : Bool). b || option_map_or (λ (was : Bool). was) (slice_get seen pointer) false) (ap (λ (n : ℕ). nat_le n pointer) long ∙ le-leb (entries_of plan race) pointer above)
            ∙ sym (ap (λ (b : Bool). b || is_earlier completion on race instance row pointer) (le-leb (entries_of plan race) pointer above))
      ]

      by_half : (h : Option Opening) → lacks_in seen h ≡ option_map_or lacks h true
      by_half None = refl
      by_half (Some opening) = by_order opening.value

-- ROWS THAT AREN'T LACKING

pub full_more : (plan : Plan) (completion : Completion) (race instance row : ℕ) → IsFullBefore plan completion race instance row → is_lacking plan completion race instance row ≡ false
    → IsFullBefore plan completion race instance (row + 1)
full_more plan completion race instance row before full = λ earlier less. elim (cases_eq earlier row) [
  | inl same ↦ ap (λ (n : ℕ). is_lacking plan completion race instance n) same ∙ full
  | inr other ↦ before earlier (omega (arith, less, other))
]

-- a row is not lacking where none of its halves is
pub none_lacking : (plan : Plan) (completion : Completion) (race instance row : ℕ) → is_half_lacking plan completion side.Left race instance row ≡ false
    → is_half_lacking plan completion side.Right race instance row ≡ false → is_lacking plan completion race instance row ≡ false
none_lacking plan completion race instance row left right = ap (λ (b : Bool). b || is_half_lacking plan completion side.Right race instance row) left ∙ right
