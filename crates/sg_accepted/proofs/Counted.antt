-- Counting entries: those of one ballot row, and those of several.
use Rattle.std.proofs.Common.{◌≡◌, ℕ, zero, suc, ◌+◌, ◌-◌, ◌*◌, ◌/◌, ◌<◌, ◌≤◌, ◌==◌, nat_lt, Bool, true, false, ◌&&◌, ◌||◌, cond, inl, inr, List, [], ◌∷◌, map, refl, sym, ap, ◌∙◌, arith}
use Rattle.std.specs.Prelude.{count_by, sum_by}
use Rattle.std.specs.List.{list_any, range_with_len}
use Rattle.std.proofs.lemmas.Bool.{and_left, and_parts, and_right, cases_Bool, cases_eq, eq-eqb, eqb-true, false_from_ne_true, ltb-true, ne_eqb, or_from}
use Rattle.std.proofs.lemmas.List.Sums.{sum_by-append, sum_by-cons}
use Rattle.std.proofs.lemmas.Nat.{div-mul-add, div_below}
use Rattle.std.proofs.lemmas.List.Sorted.{sum_by-IsPermutation}
use Rattle.sg_lists.proofs.Bools.{one_if}
use Rattle.sg_lists.proofs.Counting.{count_by-append}
use Rattle.sg_lists.proofs.Sums.{sum-map, sum-nothing, sum-ones, sum-range}
use Rattle.sg_plan.proofs.PlanLaws.{rows_are_one}
use Rattle.sg_plan.specs.Ballots.{ballot_has, ballot_row, candidates_of, entries_of}
use Rattle.sg_plan.specs.Fates.{fate_fits}
use Rattle.sg_plan.specs.declared.plan.Plan.{Plan}
use Rattle.sg_tables.proofs.TableLaws.{pointer_laws}
use Rattle.sg_tables.specs.Tables.{left_of}
use Rattle.sg_streams.proofs.NumberLists.{numbers_below-append, numbers_below-none, numbers_below-push}
use Rattle.sg_streams.specs.Numbers.{numbers_below}
use Rattle.sg_check.specs.Printings.{count_below}
use Rattle.sg_post.specs.Fits.{fates_fit}
use Rattle.sg_post.specs.Marks.{is_entry_of}
use Rattle.sg_post.specs.declared.story.Told.{Told}

-- two tests of which at most one is passed
pub count-either : (p q : ℕ → Bool) (xs : List ℕ) → ((x : ℕ) → (p x && q x) ≡ false) → count_by (λ x. p x || q x) xs ≡ count_by p xs + count_by q xs
count-either p q [] apart = omega arith
count-either p q (x ∷ xs) apart =
    let here = at_first (p x) (q x) (apart x) in
    let rest = count-either p q xs apart in
    let a = sum_by-cons (λ y. cond (p y || q y) 1 0) x xs in
    let b = sum_by-cons (λ y. cond (p y) 1 0) x xs in
    let c = sum_by-cons (λ y. cond (q y) 1 0) x xs in
    omega (arith, here, rest, a, b, c)
  where
    at_first : (a b : Bool) → (a && b) ≡ false → (cond (a || b) 1 0) ≡ (cond a 1 0) + (cond b 1 0)
    at_first true true e = cc
    at_first true false e = refl
    at_first false b e = omega arith

-- numbers that all pass, or all fail
count-all : (p : ℕ → Bool) (at count : ℕ) → ((k : ℕ) → at ≤ k → k < at + count → p k ≡ true) → count_by p (range_with_len at count) ≡ count
count-all p at count all = sum-range (λ k. one_if (p k)) (λ k. 1) at count (λ k a b. ap one_if (all k a b)) ∙ sum-ones at count

count-none : (p : ℕ → Bool) (at count : ℕ) → ((k : ℕ) → at ≤ k → k < at + count → p k ≡ false) → count_by p (range_with_len at count) ≡ 0
count-none p at count none = sum-range (λ k. one_if (p k)) (λ k. 0) at count (λ k a b. ap one_if (none k a b)) ∙ sum-nothing (range_with_len at count)

-- the numbers of one row of width k
row-of : (k row at : ℕ) → row * k ≤ at → at < row * k + k → at / k ≡ row
row-of k row at low high =
    let same : at ≡ row * k + (at - row * k) = omega (arith, low) in
    ap (λ (n : ℕ). n / k) same ∙ div-mul-add row k (at - row * k) (omega (arith, low, high))

-- no number of an earlier row
count-before : (k rows row : ℕ) → 0 < k → rows ≤ row → count_by (λ e. e / k == row) (numbers_below (rows * k)) ≡ 0
unfolding numbers_below
count-before k rows row some above = count-none (λ e. e / k == row) 0 (rows * k) (λ e a b. ne_eqb (e / k) row (λ same. omega (arith, same, above, div_below e k rows some (omega (arith, b)))))

-- so many rows before: all their numbers are of a row, and the last row adds k
pub count-row : (k rows row : ℕ) → 0 < k → row < rows → count_by (λ e. e / k == row) (numbers_below (rows * k)) ≡ k
count-row k zero row some within = absurd (omega (arith, within))
count-row k (suc rows) row positive within =
    let split : suc rows * k ≡ rows * k + k = omega arith in
    let parts : count_by (λ e. e / k == row) (numbers_below (suc rows * k)) ≡ count_by (λ e. e / k == row) (numbers_below (rows * k)) + count_by (λ e. e / k == row) (range_with_len (rows * k) k) =
    ap (λ (n : ℕ). count_by (λ e. e / k == row) (numbers_below n)) split
    ∙ (ap (count_by (λ e. e / k == row)) (numbers_below-append (rows * k) k) ∙ sum_by-append (λ e. cond (e / k == row) 1 0) (numbers_below (rows * k)) (range_with_len (rows * k) k)) in
    elim (cases_eq row rows) [
      | inl last ↦
          let none : count_by (λ e. e / k == row) (numbers_below (rows * k)) ≡ 0 = count-before k rows row positive (omega (arith, last)) in
          let all = count-all (λ e. e / k == row) (rows * k) k (λ e a b. eq-eqb (e / k) row (row-of k rows e a b ∙ sym last)) in
          omega (arith, parts, none, all)
      | inr earlier ↦
          let some = count-row k rows row positive (omega (arith, within, earlier)) in
          let none = count-none (λ e. e / k == row) (rows * k) k (λ e a b. ne_eqb (e / k) row (λ same. earlier (sym same ∙ row-of k rows e a b))) in
          omega (arith, parts, some, none)
    ]

-- WHAT ROWS OF AN INSTANCE COUNT IS WHAT ENTRIES COUNT: the left pointers are a permutation of the entries

pub count-lefts : (plan : Plan) (seed : List ℕ) (race instance : ℕ) (p : ℕ → Bool)
    → count_by (λ row. p (left_of plan seed race instance row)) (numbers_below (entries_of plan race)) ≡ count_by p (numbers_below (entries_of plan race))
count-lefts plan seed race instance p =
    sym (sum-map (λ e. one_if (p e)) (left_of plan seed race instance) (numbers_below (entries_of plan race)))
    ∙ sum_by-IsPermutation (λ e. one_if (p e)) (numbers_below (entries_of plan race)) (map (left_of plan seed race instance) (numbers_below (entries_of plan race))) (pointer_laws.lefts plan seed race instance).listed

-- WHAT BALLOTS COUNT OF THEIR ENTRIES: no entry is of two ballots

module _ (plan : Plan) (race : ℕ) (p : ℕ → Told → Bool) (own : (entry : ℕ) (told : Told) → p entry told ≡ true → is_entry_of plan race entry told.ballot ≡ true) where
  one-ballot : (entry ballot other : ℕ) → is_entry_of plan race entry ballot ≡ true → is_entry_of plan race entry other ≡ true → ballot ≡ other
  one-ballot entry ballot other e o =
      let row : ℕ = entry / candidates_of plan race in
      let here = and_parts (ballot_has plan ballot race) (ballot_row plan race ballot == row) e in
      let there = and_parts (ballot_has plan other race) (ballot_row plan race other == row) o in
      (rows_are_one plan race).one ballot other here.0 there.0 (eqb-true (ballot_row plan race ballot) row here.1 ∙ sym (eqb-true (ballot_row plan race other) row there.1))

  -- an entry of one ballot is none of a later one
  later-none : (last entry : ℕ) (fates : List Told) (ballot : ℕ) → fates_fit plan last fates ≡ true → ballot ≤ last → is_entry_of plan race entry ballot ≡ true → list_any (p entry) fates ≡ false
  later-none last entry [] ballot fit low of_it = refl
  later-none last entry (told ∷ fates) ballot fit low of_it =
      let parts = and_parts (nat_lt last told.ballot && fate_fits plan told.ballot told.fate) (fates_fit plan told.ballot fates) fit in
      let less : last < told.ballot = ltb-true last told.ballot (and_parts (nat_lt last told.ballot) (fate_fits plan told.ballot told.fate) parts.0).0 in
      or_from (p entry told) (list_any (p entry) fates)
      (false_from_ne_true (p entry told) (λ passes. let same : ballot ≡ told.ballot = one-ballot entry ballot told.ballot of_it (own entry told passes) in omega (arith, same, less, low)))
      (later-none told.ballot entry fates ballot parts.1 (omega (arith, low, less)) of_it)

  apart : (told : Told) (fates : List Told) (entry : ℕ) → fates_fit plan told.ballot fates ≡ true → (p entry told && list_any (p entry) fates) ≡ false
  apart told fates entry fit =
      elim (cases_Bool (p entry told)) [
        | inl passes ↦ and_right (p entry told) (list_any (p entry) fates) (later-none told.ballot entry fates told.ballot fit (omega arith) (own entry told passes))
        | inr fails ↦ and_left (p entry told) (list_any (p entry) fates) fails
      ]

  pub count-told : (last : ℕ) (fates : List Told) → fates_fit plan last fates ≡ true
      → count_by (λ entry. list_any (p entry) fates) (numbers_below (entries_of plan race)) ≡ sum_by (λ told. count_by (λ entry. p entry told) (numbers_below (entries_of plan race))) fates
  count-told last [] fit = sum-nothing (numbers_below (entries_of plan race))
  count-told last (told ∷ fates) fit =
      let entries : List ℕ = numbers_below (entries_of plan race) in
      let parts = and_parts (nat_lt last told.ballot && fate_fits plan told.ballot told.fate) (fates_fit plan told.ballot fates) fit in
      omega (
        arith,
        count-either (λ entry. p entry told) (λ entry. list_any (p entry) fates) entries (λ entry. apart told fates entry parts.1),
        sum_by-cons (λ (t : Told). count_by (λ entry. p entry t) entries) told fates,
        count-told told.ballot fates parts.1,
      )

-- numbers that pass, in a list of all numbers and one by one
pub below_counts : (test : ℕ → Bool) (count : ℕ) → count_by test (numbers_below count) ≡ count_below test count
below_counts test zero = ap (count_by test) numbers_below-none
below_counts test (suc count) =
    let next : suc count ≡ count + 1 = omega arith in
    let parts : count_by test (numbers_below (count + 1)) ≡ count_by test (numbers_below count) + count_by test (count ∷ [])
    = ap (count_by test) (numbers_below-push count) ∙ count_by-append test (numbers_below count) (count ∷ []) in
    let one = sum_by-cons (λ (k : ℕ). cond (test k) 1 0) count [] in
    let none : count_by test [] ≡ 0 = refl in
    let rest = below_counts test count in
    ap (λ k. count_by test (numbers_below k)) next ∙ omega (arith, parts, one, none, rest)
