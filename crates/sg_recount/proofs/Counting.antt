-- How the counts of pointers grow, row by row.
use Rattle.std.proofs.Common.{◌≡◌, ℕ, zero, suc, ◌+◌, ◌≤◌, Bool, true, false, cond, List, length, Option, Some, refl, sym, ap, ◌∙◌, arith}
use Rattle.std.specs.Prelude.{slice_get}
use Rattle.std.proofs.lemmas.Option.{same_Some, slice_get_within}
use Rattle.sg_commit.specs.declared.Opening.{Opening}
use Rattle.sg_plan.specs.declared.plan.Side.{Side}
use Rattle.sg_check.specs.Facts.{points_to}
use Rattle.sg_check.specs.Printings.{count_below}
use Rattle.sg_parts.specs.Given.{completion_of}
use Rattle.sg_parts.specs.declared.parts.RowGiven.{RowGiven}
use Rattle.sg_recount.specs.inside.Counted.{HasCounts}

pub count_most : (test : ℕ → Bool) (n : ℕ) → count_below test n ≤ n
count_most test zero = omega arith
count_most test (suc n) = by_test (test n) refl (count_most test n)
  where
    by_test : (b : Bool) → test n ≡ b → count_below test n ≤ n → count_below test n + cond (test n) 1 0 ≤ suc n
    by_test true e less = rw e (omega (arith, less))
    by_test false e less = rw e (omega (arith, less))

pub counts_few : (rows : List (List (List RowGiven))) (on : Side) (race instance count at : ℕ) (counts : List ℕ) → HasCounts rows on race instance count at counts → at ≤ 200000
    → (pointer n : ℕ) → slice_get counts pointer ≡ Some n → n ≤ 200000
counts_few rows on race instance count at counts has few pointer n is =
    let within = slice_get_within counts pointer n is in
    let same = same_Some (count_below (λ row. points_to pointer (completion_of rows on race instance row)) at) n (sym (has.are pointer (omega (arith, within, has.long))) ∙ is) in
    omega (arith, same, few, count_most (λ row. points_to pointer (completion_of rows on race instance row)) at)

pub counts_more : (rows : List (List (List RowGiven))) (on : Side) (race instance count at : ℕ) (counts new : List ℕ) (half : Option Opening) → HasCounts rows on race instance count at counts → half ≡ completion_of rows on race instance at
    → length new ≡ length counts → ((pointer n : ℕ) → slice_get counts pointer ≡ Some n → slice_get new pointer ≡ Some (n + cond (points_to pointer half) 1 0)) → HasCounts rows on race instance count (at + 1) new
counts_more rows on race instance count at counts new half has is long puts = record {
  long = long ∙ has.long;
  are = λ pointer less.
      let next : suc at ≡ at + 1 = omega arith in
      puts pointer (count_below (λ row. points_to pointer (completion_of rows on race instance row)) at) (has.are pointer less)
      ∙ (ap (λ (h : Option Opening). Some (count_below (λ row. points_to pointer (completion_of rows on race instance row)) at + cond (points_to pointer h) 1 0)) is
      ∙ ap (λ (n : ℕ). Some (count_below (λ row. points_to pointer (completion_of rows on race instance row)) n)) next);
}
