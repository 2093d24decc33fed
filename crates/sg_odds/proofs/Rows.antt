-- The rows of all races: how many they are, and that as many are wrong on a side as in all instances of one race.
use Rattle.std.proofs.Common.{◌≡◌, ℕ, zero, suc, ◌+◌, ◌-◌, ◌*◌, ◌<◌, ◌≤◌, Bool, cond, inl, inr, List, [], ◌∷◌, length, count_by, length-append, refl, sym, subst, ap, ◌∙◌, arith}
use Rattle.std.proofs.Math.Nat.{mul-add}
use Rattle.std.proofs.lemmas.Bool.{cases_eq}
use Rattle.std.proofs.lemmas.List.Sums.{sum_by-cons}
use Rattle.sg_lists.proofs.Counting.{count_by-append}
use Rattle.sg_plan.specs.Ballots.{entries_before, entries_of, r_rows}
use Rattle.sg_plan.specs.declared.plan.Plan.{Plan}
use Rattle.sg_grammar.specs.Due.{each, instance_rows, numbered, race_rows, row_opening}
use Rattle.sg_grammar.specs.declared.state.Slot.{Slot}
use Rattle.sg_grammar.specs.declared.state.Slot.TheVariants as slot
use Rattle.sg_check.specs.Printings.{count_below}

-- the rows of all races, in the order in which they are opened
abbrev pub rows_due : Plan → List Slot
rows_due plan = each (race_rows plan) 0 (length plan.races)

-- HOW MANY THEY ARE

all_long : {A : Type 0} (f : ℕ → List A) (long at count : ℕ) → ((k : ℕ) → length (f k) ≡ long) → length (numbered f at count) ≡ count * long
unfolding numbered
all_long f long at zero each = omega arith
all_long f long at (suc count) each = omega (arith, length-append (f at) (numbered f (at + 1) count), each at, all_long f long (at + 1) count each)

race_long : (plan : Plan) (race : ℕ) → length (race_rows plan race) ≡ plan.instances * entries_of plan race
race_long plan race =
    all_long (instance_rows plan race) (entries_of plan race) 0 (plan.instances - 0)
    (λ instance. all_long (row_opening race instance) 1 0 (entries_of plan race - 0) (λ row. refl) ∙ one_each (entries_of plan race))
    ∙ ap (λ (n : ℕ). n * entries_of plan race) (from_none plan.instances)
  where
    from_none : (n : ℕ) → n - 0 ≡ n
    from_none n = omega arith

    one_each : (n : ℕ) → (n - 0) * 1 ≡ n
    one_each n = omega arith

rows_from : (plan : Plan) (at count : ℕ) → plan.instances * entries_before plan at + length (numbered (race_rows plan) at count) ≡ plan.instances * entries_before plan (at + count)
unfolding numbered
rows_from plan at zero = let none : at + 0 ≡ at = omega arith in omega (arith, ap (λ (n : ℕ). plan.instances * entries_before plan n) none)
rows_from plan at (suc count) =
    let next : at + suc count ≡ (at + 1) + count = omega arith in
    let one : at + 1 ≡ suc at = omega arith in
    omega (
      arith,
      rows_from plan (at + 1) count,
      ap (λ (n : ℕ). plan.instances * entries_before plan n) next,
      ap (λ (n : ℕ). plan.instances * entries_before plan n) one,
      mul-add plan.instances (entries_before plan at) (entries_of plan at),
      length-append (race_rows plan at) (numbered (race_rows plan) (at + 1) count),
      race_long plan at,
    )

pub rows_long : (plan : Plan) → length (rows_due plan) ≡ r_rows plan
rows_long plan =
    let all : 0 + (length plan.races - 0) ≡ length plan.races = omega arith in
    omega (arith, rows_from plan 0 (length plan.races - 0), ap (λ (n : ℕ). plan.instances * entries_before plan n) all)

-- HOW MANY PASS A TEST

module _ {A : Type 0} (p : A → Bool) where
  -- in one of the lists are no more than in all
  one_of : (f : ℕ → List A) (at count k : ℕ) → at ≤ k → k < at + count → count_by p (f k) ≤ count_by p (numbered f at count)
  unfolding numbered
  one_of f at zero k from to = absurd (omega arith)
  one_of f at (suc count) k from to = elim (cases_eq k at) [
    | inl same ↦ omega (arith, count_by-append p (f at) (numbered f (at + 1) count), ap (λ (n : ℕ). count_by p (f n)) same)
    | inr other ↦ omega (arith, count_by-append p (f at) (numbered f (at + 1) count), one_of f (at + 1) count k (omega (arith, other)) (omega arith))
  ]

  -- so many in each of the lists
  each_of : (f : ℕ → List A) (least at count : ℕ) → ((k : ℕ) → at ≤ k → k < at + count → least ≤ count_by p (f k)) → least * count ≤ count_by p (numbered f at count)
  unfolding numbered
  each_of f least at zero has = omega arith
  each_of f least at (suc count) has =
      let here = has at (omega arith) (omega arith) in
      let rest = each_of f least (at + 1) count (λ k from to. has k (omega arith) (omega arith)) in
      omega (arith, here, rest, count_by-append p (f at) (numbered f (at + 1) count))

  -- lists of one item each
  singles : (item : ℕ → A) (at count : ℕ) → count_below (λ k. p (item k)) (at + count) ≡ count_below (λ k. p (item k)) at + count_by p (numbered (λ k. item k ∷ []) at count)
  unfolding numbered
  singles item at zero = let none : at + 0 ≡ at = omega arith in omega (arith, ap (count_below (λ k. p (item k))) none)
  singles item at (suc count) =
      let next : at + suc count ≡ (at + 1) + count = omega arith in
      let one : at + 1 ≡ suc at = omega arith in
      omega (
        arith,
        ap (count_below (λ k. p (item k))) next,
        singles item (at + 1) count,
        ap (count_below (λ k. p (item k))) one,
        count_by-append p (item at ∷ []) (numbered (λ k. item k ∷ []) (at + 1) count),
        sum_by-cons (λ x. cond (p x) 1 0) (item at) [],
      )

module _ (plan : Plan) (p : Slot → Bool) where
  instance_count : (race instance : ℕ) → count_by p (instance_rows plan race instance) ≡ count_below (λ row. p (slot.Row race instance row)) (entries_of plan race)
  instance_count race instance =
      let all = singles p (λ row. slot.Row race instance row) 0 (entries_of plan race) in
      let whole : entries_of plan race - 0 ≡ entries_of plan race = omega arith in
      omega (arith, all, ap (λ (n : ℕ). count_by p (numbered (row_opening race instance) 0 n)) whole, ap (count_below (λ row. p (slot.Row race instance row))) (from_none (entries_of plan race)))
    where
      from_none : (n : ℕ) → 0 + n ≡ n
      from_none n = omega arith

  -- so many in each instance of a race
  pub rows_count : (race least : ℕ) → race < length plan.races
      → ((instance : ℕ) → instance < plan.instances → least ≤ count_below (λ row. p (slot.Row race instance row)) (entries_of plan race))
      → least * plan.instances ≤ count_by p (rows_due plan)
  rows_count race least within has =
      let whole : plan.instances - 0 ≡ plan.instances = omega arith in
      let of_race = each_of p (instance_rows plan race) least 0 (plan.instances - 0) (λ instance from to. subst (λ (c : ℕ). least ≤ c) (sym (instance_count race instance)) (has instance (omega arith))) in
      let of_all = one_of p (race_rows plan) 0 (length plan.races - 0) race (omega arith) (omega (arith, within)) in
      omega (arith, of_race, of_all, ap (λ (n : ℕ). least * n) whole)
