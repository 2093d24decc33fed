-- The first row that fails, one number after another.
use Rattle.std.proofs.Common.{◌≡◌, ℕ, ◌+◌, ◌<◌, Bool, true, inl, inr, length, Some, sym, ap, ◌∙◌, arith}
use Rattle.std.proofs.lemmas.Bool.{cases_eq, true≢false}
use Rattle.sg_plan.specs.Ballots.{entries_of}
use Rattle.sg_plan.specs.declared.plan.Plan.{Plan}
use Rattle.sg_check.specs.Completions.{IsHalfOf}
use Rattle.sg_parts.specs.Faults.{IsEarlierRow, IsFirstWrong}
use Rattle.sg_parts.specs.inside.Checks.{FirstPair}

pub below_more : (test : ℕ → Bool) (n : ℕ) → ((x : ℕ) → x < n → test x ≡ true) → test n ≡ true → (x : ℕ) → x < n + 1 → test x ≡ true
below_more test n before here x less = elim (cases_eq x n) [
  | inl same ↦ ap test same ∙ here
  | inr other ↦ before x (omega (arith, less, other))
]

pub pair_more : (count : ℕ) (test : ℕ → ℕ → Bool) (n : ℕ) → ((i x : ℕ) → i < n → x < count → test i x ≡ true) → ((x : ℕ) → x < count → test n x ≡ true) → (i x : ℕ) → i < n + 1 → x < count → test i x ≡ true
pair_more count test n before here i x less below = elim (cases_eq i n) [
  | inl same ↦ ap (λ k. test k x) same ∙ here x below
  | inr other ↦ before i x (omega (arith, less, other)) below
]

pub race_more : (plan : Plan) (test : ℕ → ℕ → ℕ → Bool) (n count : ℕ) → count ≡ entries_of plan n → ((r i x : ℕ) → r < n → i < plan.instances → x < entries_of plan r → test r i x ≡ true)
    → ((i x : ℕ) → i < plan.instances → x < count → test n i x ≡ true) → (r i x : ℕ) → r < n + 1 → i < plan.instances → x < entries_of plan r → test r i x ≡ true
race_more plan test n count many before here r i x less within below = elim (cases_eq r n) [
  | inl same ↦ ap (λ k. test k i x) same ∙ here i x within (omega (arith, below, many, ap (entries_of plan) same))
  | inr other ↦ before r i x (omega (arith, less, other)) within below
]

pub race_found : (plan : Plan) (test : ℕ → ℕ → ℕ → Bool) (race count instance row : ℕ) → race < length plan.races → count ≡ entries_of plan race
    → ((r i x : ℕ) → r < race → i < plan.instances → x < entries_of plan r → test r i x ≡ true) → FirstPair plan.instances count (test race) (Some (instance, row))
    → IsFirstWrong plan (λ r i x. test r i x ≡ true) race instance row
race_found plan test race count instance row within many before found = record {
  within = (within, found.0, omega (arith, found.1, many));
  wrong = λ passes. true≢false (sym passes ∙ found.2);
  before = λ of on at half earlier. by_order of on at half earlier;
}
  where
    by_order : (of on at : ℕ) → IsHalfOf plan of on at → IsEarlierRow of on at race instance row → test of on at ≡ true
    by_order of on at half (inl less) = before of on at less half.1 half.2
    by_order of on at half (inr same) =
        ap (λ k. test k on at) same.0 ∙ found.3 on at half.1 (omega (arith, half.2, many, ap (entries_of plan) same.0)) same.1
