-- How the counts of led entries grow, row by row, and the table of these counts.
use Rattle.std.proofs.Common.{◌≡◌, ℕ, suc, ◌+◌, ◌%◌, ◌≤◌, ◌==◌, Bool, ◌&&◌, cond, inl, inr, List, [], ◌∷◌, ◌++◌, length, replicate, Some, refl, sym, ap, ◌∙◌, arith}
use Rattle.std.specs.Option.{option_and_then}
use Rattle.std.specs.Prelude.{slice_get}
use Rattle.std.proofs.lemmas.Bool.{cases_eq}
use Rattle.std.proofs.lemmas.List.{length_push}
use Rattle.std.proofs.lemmas.Option.{same_Some, slice_get_within}
use Rattle.sg_lists.proofs.Lists.{slice_get-push, slice_get-push_last}
use Rattle.sg_plan.specs.Ballots.{candidates_of}
use Rattle.sg_plan.specs.declared.plan.Plan.{Plan}
use Rattle.sg_plan.specs.declared.plan.Side.TheVariants as side
use Rattle.sg_grammar.specs.Placed.{Placed}
use Rattle.sg_check.specs.Completions.{Completion}
use Rattle.sg_check.specs.Facts.{is_marked}
use Rattle.sg_facts.specs.Items.{item_in}
use Rattle.sg_recount.proofs.Counting.{count_most}
use Rattle.sg_odds.proofs.Lacks.{values_filled}
use Rattle.sg_odds.specs.Odds.{half_of, is_led, led}
use Rattle.sg_odds.specs.inside.Gaps.{HasLed, led_by}
use Rattle.sg_odds.specs.inside.Values.{HasValues}

module _ (plan : Plan) (lines : List Placed) (completion : Completion) (race instance : ℕ) where
  abbrev counted : ℕ → ℕ → ℕ
  counted = led_by plan lines completion race instance

  pub leads_start : (count : ℕ) (counts : List ℕ) → counts ≡ replicate count 0 → HasValues count (counted 0) counts
  leads_start count counts is = values_filled count 0 counts is

  pub leads_few : (count row : ℕ) (counts : List ℕ) → HasValues count (counted row) counts → row ≤ 200000 → (at number : ℕ) → slice_get counts at ≡ Some number → number ≤ 200000
  leads_few count row counts has few at number is =
      let within = slice_get_within counts at number is in
      let same = same_Some (counted row at) number (sym (has.are at (omega (arith, within, has.long))) ∙ is) in
      omega (arith, same, few, count_most (is_led plan lines completion race instance at) row)

  pub leads_more : (count row at : ℕ) (marked : Bool) (counts new : List ℕ) → HasValues count (counted row) counts → marked ≡ is_marked plan race (half_of completion side.Left race instance row).value lines
      → at ≡ (half_of completion side.Right race instance row).value % candidates_of plan race → length new ≡ length counts
      → ((candidate number : ℕ) → slice_get counts candidate ≡ Some number → slice_get new candidate ≡ Some (number + cond (marked && at == candidate) 1 0)) → HasValues count (counted (row + 1)) new
  leads_more count row at marked counts new has marks leads long puts = record {
    long = long ∙ has.long;
    are = λ candidate less.
        let next : suc row ≡ row + 1 = omega arith in
        puts candidate (counted row candidate) (has.are candidate less)
        ∙ (ap (λ (b : Bool). Some (counted row candidate + cond (b && at == candidate) 1 0)) marks
        ∙ (ap (λ (n : ℕ). Some (counted row candidate + cond (is_marked plan race (half_of completion side.Left race instance row).value lines && n == candidate) 1 0)) leads
        ∙ ap (λ (n : ℕ). Some (counted n candidate)) next));
  }

-- THE TABLE

pub table_more : (plan : Plan) (lines : List Placed) (completion : Completion) (race instance : ℕ) (table new : List (List ℕ)) (counts : List ℕ) → HasLed plan lines completion race instance table
    → HasValues (candidates_of plan race) (led plan lines completion race instance) counts → new ≡ table ++ counts ∷ [] → HasLed plan lines completion race (instance + 1) new
table_more plan lines completion race instance table new counts has here is = record {
  long = ap (λ (l : List (List ℕ)). length l) is ∙ (length_push table counts ∙ ap (λ (n : ℕ). n + 1) has.long);
  are = λ at candidate less within. elim (cases_eq at instance) [
    | inl same ↦
        ap (λ (l : List (List ℕ)). item_in l at candidate) is
        ∙ (ap (λ (n : ℕ). item_in (table ++ counts ∷ []) n candidate) (same ∙ sym has.long)
        ∙ (ap (option_and_then (λ (l : List ℕ). slice_get l candidate)) (slice_get-push_last table counts (length table) refl)
        ∙ (here.are candidate within ∙ ap (λ (n : ℕ). Some (led plan lines completion race n candidate)) (sym same))))
    | inr other ↦
        ap (λ (l : List (List ℕ)). item_in l at candidate) is
        ∙ (ap (option_and_then (λ (l : List ℕ). slice_get l candidate)) (slice_get-push table counts at (omega (arith, less, other, has.long)))
        ∙ has.are at candidate (omega (arith, less, other)) within)
  ];
}
