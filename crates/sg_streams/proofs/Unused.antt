-- The code at a draw is the one that so many unused codes stand below.
use Rattle.std.proofs.Common.{inl, inr, add-one, All, ◌≡◌, ℕ, zero, suc, ◌+◌, ◌-◌, ◌<◌, ◌≤◌, Bool, true, false, cond, not, List, [], ◌∷◌, ◌++◌, ltb, eqb, length, get_or, count_by, filter, refl, sym, ap, ◌∙◌, arith}
use Rattle.std.specs.List.{list_any, range_with_len}
use Rattle.std.proofs.lemmas.Bool.{cases_Bool, cond-true, not-true}
use Rattle.std.proofs.lemmas.Bool.Decides.{nat_tests}
use Rattle.std.proofs.lemmas.List.Sums.{sum_by-cons, sum_by_push, length-filter, count_by-le-length}
use Rattle.std.proofs.lemmas.List.Elements.{filter-append, filter_passes, All-filter}
use Rattle.std.proofs.lemmas.List.{get_or_at}
use Rattle.sg_streams.proofs.NumberLists.{numbers_below-none, numbers_below-push, numbers_below-append, length-numbers_below, get_or-numbers_below}
use Rattle.sg_plan.specs.Codes.{codes_of}
use Rattle.sg_streams.specs.Numbers.{numbers_below}
use Rattle.sg_streams.specs.RowCodes.{unused_codes}
use Rattle.sg_streams.proofs.Counts.{count_below, count_upto, count_at, IsOnce, count_upto-split, count_upto-le, list_any-none, count_at-none, count_at-some, count_below-suc}

-- a code that is not pushed any more is free, and so many unused ones stand below it
pub settled : (draw code : ℕ) (used : List ℕ) → code ≤ draw + count_below code used → code ≡ draw + count_upto code used
    → (list_any (λ u. eqb u code) used ≡ false) × (code ≡ draw + count_below code used)
settled draw code used low same =
    let split = count_upto-split code used in
    let none : count_at code used ≡ 0 = omega arith in
    (list_any-none code used none, omega arith)

-- a code that is pushed moves on
pub pushed_on : (draw code : ℕ) (used : List ℕ) → code ≤ draw + count_below code used → code ≤ draw + count_upto code used
pushed_on draw code used low = omega (arith, count_upto-split code used)

-- where it moves to, it is not too far
pub pushed_low : (draw code : ℕ) (used : List ℕ) → code < draw + count_upto code used → draw + count_upto code used ≤ draw + count_below (draw + count_upto code used) used
pushed_low draw code used far = omega (arith, count_upto-le code (draw + count_upto code used) used far)

-- a code passes for unused
abbrev is_unused : List ℕ → ℕ → Bool
is_unused used code = not (list_any (λ u. eqb u code) used)

-- a number is either unused or used once
one_unused : (used : List ℕ) (x : ℕ) → IsOnce used → cond (is_unused used x) 1 0 + count_at x used ≡ 1
one_unused used x once =
    elim (cases_Bool (list_any (λ u. eqb u x) used)) [
      | inl some ↦ rw some (omega (arith, once x, count_at-some x used some))
      | inr none ↦ rw none (omega (arith, count_at-none x used none))
    ]

unused_count : (used : List ℕ) (x : ℕ) → IsOnce used → count_by (is_unused used) (numbers_below x) + count_below x used ≡ x
unused_count used zero once = rw numbers_below-none (nothing used)
  where
    nothing : (us : List ℕ) → 0 + count_below 0 us ≡ 0
    nothing [] = refl
    nothing (u ∷ us) =
        let here : ◌≡◌ {A = ℕ} (cond (ltb u 0) 1 0) 0 = grind (arith, nat_tests) in
        omega (arith, here, sum_by-cons (λ v. cond (ltb v 0) 1 0) u us, nothing us)
unused_count used (suc x) once =
    let list = ap (count_by (is_unused used)) (ap numbers_below (sym (add-one x)) ∙ numbers_below-push x) in
    let more = sum_by_push (λ v. cond (is_unused used v) 1 0) (numbers_below x) x in
    let below = ap (λ n. count_below n used) (sym (add-one x)) ∙ count_below-suc x used in
    omega (arith, list, more, below, one_unused used x once, unused_count used x once)

-- of the numbers below one, those that are not used and those that are make them all
pub unused_below : (used : List ℕ) (x : ℕ) → IsOnce used → length (filter (is_unused used) (numbers_below x)) + count_below x used ≡ x
unused_below used x once = omega (arith, length-filter (is_unused used) (numbers_below x), unused_count used x once)

-- so an unused code stands in the list of them behind as many as are below it
pub unused_codes-at : (version draw code : ℕ) (used : List ℕ) → IsOnce used → list_any (λ u. eqb u code) used ≡ false
    → code ≡ draw + count_below code used → code < codes_of version → get_or (unused_codes version used) draw 0 ≡ code
unfolding unused_codes
unused_codes-at version draw code used once free place below =
    let p = is_unused used in
    let rest = codes_of version - suc code in
    let whole : codes_of version ≡ code + suc rest = omega arith in
    let split : numbers_below (codes_of version) ≡ numbers_below code ++ (code ∷ range_with_len (code + 1) rest) =
    ap numbers_below whole ∙ numbers_below-append code (suc rest) in
    let passes : p code ≡ true = rw free refl in
    let here : filter p (code ∷ range_with_len (code + 1) rest) ≡ code ∷ filter p (range_with_len (code + 1) rest) = cond-true _ _ _ passes in
    let parts : filter p (numbers_below (codes_of version)) ≡ filter p (numbers_below code) ++ (code ∷ filter p (range_with_len (code + 1) rest)) =
    ap (filter p) split ∙ filter-append p (numbers_below code) (code ∷ range_with_len (code + 1) rest) ∙ ap (λ l. filter p (numbers_below code) ++ l) here in
    let long : length (filter p (numbers_below code)) ≡ draw = omega (arith, unused_below used code once, place) in
    ap (λ l. get_or l draw 0) parts ∙ get_or_at (filter p (numbers_below code)) code (filter p (range_with_len (code + 1) rest)) 0 draw long

-- a draw below the number of those that are left is a place in the list of them
pub length-unused_codes : (version draw : ℕ) (used : List ℕ) → IsOnce used → draw + length used < codes_of version → draw < length (unused_codes version used)
unfolding unused_codes
length-unused_codes version draw used once few =
    omega (arith, unused_below used (codes_of version) once, count_by-le-length (λ u. ltb u (codes_of version)) used)

-- what stands there is not used, and a code of the version
pub unused_codes-sound : (version draw : ℕ) (used : List ℕ) → IsOnce used → draw + length used < codes_of version
    → (list_any (λ u. eqb u (get_or (unused_codes version used) draw 0)) used ≡ false) × (get_or (unused_codes version used) draw 0 < codes_of version)
unfolding unused_codes
unused_codes-sound version draw used once few =
    let p = is_unused used in
    let all = numbers_below (codes_of version) in
    let long : draw < length (filter p all) = length-unused_codes version draw used once few in
    let below : All (λ x. x < codes_of version) all = λ k d inside.
    let low : k < codes_of version = omega (arith, inside, length-numbers_below (codes_of version)) in
    rw (get_or-numbers_below (codes_of version) k d low) low in
    (not-true _ (filter_passes p all draw 0 long), All-filter p (λ x. x < codes_of version) all below draw 0 long)
