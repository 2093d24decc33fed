-- Different codes for all candidates, where some have one: the others get codes that none has.
use Rattle.std.proofs.Common.{◌≡◌, ◌≢◌, ℕ, zero, suc, ◌+◌, ◌<◌, ◌≤◌, ◌==◌, ◌⊎◌, Bool, true, false, ◌||◌, inl, inr, List, [], ◌∷◌, ◌++◌, length, Option, Some, None, refl, sym, subst, ap, ◌∙◌, arith}
use Rattle.std.specs.List.{list_any}
use Rattle.std.proofs.lemmas.Bool.{both_ways, cases_Bool, cases_eq, cases_lt, cases_order, eq-eqb, ne_eqb}
use Rattle.std.proofs.lemmas.Option.{same_Some}
use Rattle.std.proofs.lemmas.List.{length-append}
use Rattle.sg_lists.proofs.Bools.{one_if}
use Rattle.sg_check.proofs.Counting.{count-none}
use Rattle.sg_check.specs.Printings.{count_below}

abbrev is_in : List ℕ → ℕ → Bool
is_in xs k = list_any (λ x. x == k) xs

-- A NUMBER THAT IS NOT IN A LIST

count-or_le : (p q : ℕ → Bool) (n : ℕ) → count_below (λ k. p k || q k) n ≤ count_below p n + count_below q n
count-or_le p q zero = omega arith
count-or_le p q (suc n) = omega (arith, count-or_le p q n, here (p n) (q n))
  where
    here : (a b : Bool) → one_if (a || b) ≤ one_if a + one_if b
    here true b = omega arith
    here false b = omega arith

count-one : (x n : ℕ) → count_below (λ k. x == k) n ≤ 1
count-one x n = elim (cases_behind x n) [ inl none ↦ omega (arith, none_yet x n none) | inr some ↦ once x n ]
  where
    cases_behind : (y m : ℕ) → (m ≤ y) ⊎ (y < m)
    cases_behind y m = turn (cases_lt y m)
      where
        turn : (y < m) ⊎ (m ≤ y) → (m ≤ y) ⊎ (y < m)
        turn (inl a) = inr a
        turn (inr b) = inl b

    none_yet : (y m : ℕ) → m ≤ y → count_below (λ k. y == k) m ≡ 0
    none_yet y m le = count-none (λ k. y == k) m (λ k less. ne_eqb y k (λ same. omega (arith, le, less, same)))

    once : (y m : ℕ) → count_below (λ k. y == k) m ≤ 1
    once y zero = omega arith
    once y (suc m) = elim (cases_eq y m) [
      | inl same ↦ omega (arith, none_yet y m (omega (arith, same)), here (y == m))
      | inr other ↦ omega (arith, once y m, ap (λ (b : Bool). one_if b) (ne_eqb y m other))
    ]
      where
        here : (b : Bool) → one_if b ≤ 1
        here true = omega arith
        here false = omega arith

count-in : (xs : List ℕ) (n : ℕ) → count_below (is_in xs) n ≤ length xs
count-in [] n = omega (arith, count-none (is_in []) n (λ k less. refl))
count-in (x ∷ xs) n = omega (arith, count-or_le (λ k. x == k) (is_in xs) n, count-one x n, count-in xs n)

-- one of the numbers below n fails, where fewer than n pass
first_failing : (p : ℕ → Bool) (n : ℕ) → count_below p n < n → (k : ℕ) × (k < n) × (p k ≡ false)
first_failing p zero less = absurd (omega arith)
first_failing p (suc n) less = elim (cases_Bool (p n)) [
  | inl passes ↦
      let more = first_failing p n (omega (arith, less, ap (λ (b : Bool). one_if b) passes)) in
      (more.0, omega (arith, more.1), more.2)
  | inr fails ↦ (n, omega arith, fails)
]

-- a number that is not in the list, and at most its length
pub pick : (xs : List ℕ) → (k : ℕ) × (k < length xs + 1) × (is_in xs k ≡ false)
pick xs = first_failing (is_in xs) (length xs + 1) (omega (arith, count-in xs (length xs + 1)))

-- CODES FOR ALL

abbrev with_some : Option ℕ → List ℕ → List ℕ
with_some (Some c) xs = c ∷ xs
with_some None xs = xs

-- the codes that candidates below this one have
abbrev fixed : (ℕ → Option ℕ) → ℕ → List ℕ
fixed assigned zero = []
fixed assigned (suc k) = with_some (assigned k) (fixed assigned k)

-- the code that is assigned, or one that is not in the list
abbrev code_or : List ℕ → Option ℕ → ℕ
code_or taken (Some c) = c
code_or taken None = (pick taken).0

-- the codes of the candidates below this one, where there are so many candidates
abbrev given : (ℕ → Option ℕ) → ℕ → ℕ → List ℕ
given assigned many zero = []
given assigned many (suc j) = code_or (fixed assigned many ++ given assigned many j) (assigned j) ∷ given assigned many j

-- the code of a candidate
abbrev pub chosen : (ℕ → Option ℕ) → ℕ → ℕ → ℕ
chosen assigned many j = code_or (fixed assigned many ++ given assigned many j) (assigned j)

in_left : (xs ys : List ℕ) (k : ℕ) → is_in xs k ≡ true → is_in (xs ++ ys) k ≡ true
in_left [] ys k e = cc
in_left (x ∷ xs) ys k e = at_first (x == k) e (in_left xs ys k)
  where
    at_first : (b : Bool) → (b || is_in xs k) ≡ true → (is_in xs k ≡ true → is_in (xs ++ ys) k ≡ true) → (b || is_in (xs ++ ys) k) ≡ true
    at_first true d rest = refl
    at_first false d rest = rest d

in_right : (xs ys : List ℕ) (k : ℕ) → is_in ys k ≡ true → is_in (xs ++ ys) k ≡ true
in_right [] ys k e = e
in_right (x ∷ xs) ys k e = at_first (x == k) (in_right xs ys k e)
  where
    at_first : (b : Bool) → is_in (xs ++ ys) k ≡ true → (b || is_in (xs ++ ys) k) ≡ true
    at_first true d = refl
    at_first false d = d

module _ (assigned : ℕ → Option ℕ) (many : ℕ) where
  fixed_short : (k : ℕ) → length (fixed assigned k) ≤ k
  fixed_short zero = omega arith
  fixed_short (suc k) = omega (arith, fixed_short k, more (assigned k) (fixed assigned k))
    where
      more : (o : Option ℕ) (xs : List ℕ) → length (with_some o xs) ≤ length xs + 1
      more (Some c) xs = omega arith
      more None xs = omega arith

  given_length : (j : ℕ) → length (given assigned many j) ≡ j
  given_length zero = refl
  given_length (suc j) = omega (arith, given_length j)

  fixed_has : (k n c : ℕ) → k < n → assigned k ≡ Some c → is_in (fixed assigned n) c ≡ true
  fixed_has k zero c less e = absurd (omega arith)
  fixed_has k (suc n) c less e = elim (cases_eq k n) [
    | inl same ↦ at_last (assigned n) (ap assigned (sym same) ∙ e)
    | inr other ↦ behind (assigned n) (fixed_has k n c (omega (arith, less, other)) e)
  ]
    where
      at_last : (o : Option ℕ) → o ≡ Some c → is_in (with_some o (fixed assigned n)) c ≡ true
      at_last (Some d) is = rw (eq-eqb d c (same_Some d c is)) refl
      at_last None is = cc

      behind : (o : Option ℕ) → is_in (fixed assigned n) c ≡ true → is_in (with_some o (fixed assigned n)) c ≡ true
      behind (Some d) there = in_right (d ∷ []) (fixed assigned n) c there
      behind None there = there

  given_has : (j n : ℕ) → j < n → is_in (given assigned many n) (chosen assigned many j) ≡ true
  given_has j zero less = absurd (omega arith)
  given_has j (suc n) less = elim (cases_eq j n) [
    | inl same ↦ subst (λ i. is_in (given assigned many (suc n)) (chosen assigned many i) ≡ true) (sym same) (in_left (chosen assigned many n ∷ []) (given assigned many n) (chosen assigned many n) own)
    | inr other ↦ in_right (chosen assigned many n ∷ []) (given assigned many n) (chosen assigned many j) (given_has j n (omega (arith, less, other)))
  ]
    where
      own : is_in (chosen assigned many n ∷ []) (chosen assigned many n) ≡ true
      own = rw (eq-eqb (chosen assigned many n) (chosen assigned many n) refl) refl

  -- a code that is picked is in neither list
  picked : (j : ℕ) → assigned j ≡ None → is_in (fixed assigned many ++ given assigned many j) (chosen assigned many j) ≡ false
  picked j none = rw none (pick (fixed assigned many ++ given assigned many j)).2

  pub chosen_is : (j c : ℕ) → assigned j ≡ Some c → chosen assigned many j ≡ c
  chosen_is j c e = ap (code_or (fixed assigned many ++ given assigned many j)) e

  pub chosen_below : (most j : ℕ) → ((c : ℕ) → assigned j ≡ Some c → c < most) → j < many → many + many ≤ most → chosen assigned many j < most
  chosen_below most j below less room = by_case (assigned j) refl
    where
      by_case : (o : Option ℕ) → assigned j ≡ o → chosen assigned many j < most
      by_case (Some c) e = subst (λ (k : ℕ). k < most) (sym (chosen_is j c e)) (below c e)
      by_case None e =
          let short = (pick (fixed assigned many ++ given assigned many j)).1 in
          rw e (omega (arith, short, length-append (fixed assigned many) (given assigned many j), fixed_short many, given_length j, less, room))

  earlier_differ : (j i : ℕ) → j < i → i < many → ((c d : ℕ) → assigned j ≡ Some c → assigned i ≡ Some d → c ≢ d) → chosen assigned many j ≢ chosen assigned many i
  earlier_differ j i less within apart same = by_case (assigned j) (assigned i) refl refl
    where
      by_case : (a b : Option ℕ) → assigned j ≡ a → assigned i ≡ b → ⊥
      by_case a None e d =
          let there = in_right (fixed assigned many) (given assigned many i) (chosen assigned many j) (given_has j i less) in
          both_ways (is_in (fixed assigned many ++ given assigned many i) (chosen assigned many i)) (picked i d)
          (subst (λ (k : ℕ). is_in (fixed assigned many ++ given assigned many i) k ≡ true) same there)
      by_case None (Some y) e d =
          let there = in_left (fixed assigned many) (given assigned many j) y (fixed_has i many y within d) in
          both_ways (is_in (fixed assigned many ++ given assigned many j) (chosen assigned many j)) (picked j e)
          (subst (λ (k : ℕ). is_in (fixed assigned many ++ given assigned many j) k ≡ true) (sym (same ∙ chosen_is i y d)) there)
      by_case (Some x) (Some y) e d = apart x y e d (sym (chosen_is j x e) ∙ (same ∙ chosen_is i y d))

  -- different candidates have different codes, where those that are assigned are different
  pub chosen_differ : (j i : ℕ) → j < many → i < many → j ≢ i → ((a b c d : ℕ) → a < many → b < many → a ≢ b → assigned a ≡ Some c → assigned b ≡ Some d → c ≢ d) → chosen assigned many j ≢ chosen assigned many i
  chosen_differ j i low high other apart same = elim (cases_order j i) [
    | inl one ↦ other one
    | inr side ↦ elim side [
      | inl less ↦ earlier_differ j i less high (λ c d e f. apart j i c d low high other e f) same
      | inr more ↦ earlier_differ i j more low (λ c d e f. apart i j c d high low (λ one. other (sym one)) e f) (sym same)
    ]
  ]
