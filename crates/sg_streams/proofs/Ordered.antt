-- The sorted pairs of key and number give the order.
use Rattle.std.proofs.Common.{Ordering, is_lt, inl, inr, add-zero, append_assoc, append-nil, ◌≡◌, ◌≢◌, ◌⊎◌, ℕ, zero, suc, ◌+◌, ◌-◌, ◌<◌, ◌≤◌, false, eqb, List, [], ◌∷◌, ◌++◌, map, length, get_or, All, AllPairs, IsPermutation, IsSorted, refl, sym, ap, ◌∙◌, arith}
use Rattle.std.specs.List.{range_with_len}
use Rattle.std.specs.Ordering.{nat_cmp, ordering_then}
use Rattle.std.proofs.lemmas.Bool.{ne_eqb}
use Rattle.std.proofs.lemmas.Bool.Decides.{nat_tests, Decides-eqb}
use Rattle.std.proofs.lemmas.List.{get_or-map, length-map}
use Rattle.std.proofs.lemmas.List.Elements.{All-map}
use Rattle.std.proofs.lemmas.List.Sorted.{IsPermutation-map, All-permutation}
use Rattle.std.proofs.lemmas.Map.Keys.{IsDistinct-IsPermutation, IsDistinct-from_apart}
use Rattle.std.proofs.lemmas.Map.Made.{AllPairs-from_IsDistinct}
use Rattle.sg_lists.proofs.Ranges.{range_with_len-next}
use Rattle.sg_streams.specs.Numbers.{numbers_below}
use Rattle.sg_streams.specs.Order.{sort_key, keyed, ComesBefore, IsOrder}
use Rattle.sg_streams.proofs.NumberLists.{get_or-numbers_below, length-numbers_below}

-- how a sort compares pairs
abbrev pub pair_cmp : (ℕ × ℕ) → (ℕ × ℕ) → Ordering
pair_cmp a b = ordering_then (nat_cmp a.0 b.0) (nat_cmp a.1 b.1)

-- the numbers of a permutation of the numbers below n are different
pub permuted-differ : (n : ℕ) (list : List ℕ) → IsPermutation (numbers_below n) list → AllPairs (λ x y. x ≢ y) list
permuted-differ n list p =
    AllPairs-from_IsDistinct {eq = eqb} Decides-eqb list
    (IsDistinct-IsPermutation eqb flips (numbers_below n) list p (IsDistinct-from_apart eqb (numbers_below n) apart))
  where
    flips : (x y : ℕ) → eqb x y ≡ eqb y x
    flips x y = grind (arith, nat_tests)

    apart : (i j d : ℕ) → i < j → j < length (numbers_below n) → eqb (get_or (numbers_below n) i d) (get_or (numbers_below n) j d) ≡ false
    apart i j d less inside =
        let high : j < n = omega (arith, inside, length-numbers_below n) in
        let low : i < n = omega arith in
        rw (get_or-numbers_below n i d low, get_or-numbers_below n j d high) (ne_eqb _ _ (λ same. omega (arith, same)))

-- a pair that stands before another, or is it
abbrev NotAfter : (ℕ × ℕ) → (ℕ × ℕ) → Type 0
NotAfter a b = (a.0 < b.0) ⊎ ((a.0 ≡ b.0) × (a.1 ≤ b.1))

NotAfter-itself : (a : ℕ × ℕ) → NotAfter a a
NotAfter-itself a = inr (refl, omega arith)

NotAfter-trans : (a b c : ℕ × ℕ) → NotAfter a b → NotAfter b c → NotAfter a c
NotAfter-trans a b c (inl p) (inl q) = inl (omega arith)
NotAfter-trans a b c (inl p) (inr q) = inl (omega arith)
NotAfter-trans a b c (inr p) (inl q) = inl (omega arith)
NotAfter-trans a b c (inr p) (inr q) = inr (omega arith, omega arith)

NotAfter-from_cmp : (a b : ℕ × ℕ) → is_lt (pair_cmp b a) ≡ false → NotAfter a b
NotAfter-from_cmp a b h = grind (arith, nat_tests)

-- along sorted pairs none stands after a later one
NotAfter-along : (pairs : List (ℕ × ℕ)) → IsSorted pair_cmp pairs → (i more : ℕ) (d : ℕ × ℕ) → i + more < length pairs → NotAfter (get_or pairs i d) (get_or pairs (i + more) d)
NotAfter-along pairs up i zero d inside = rw add-zero (NotAfter-itself (get_or pairs i d))
NotAfter-along pairs up i (suc more) d inside =
    let next : i + suc more ≡ i + more + 1 = omega arith in
    rw next (NotAfter-trans _ _ _ (NotAfter-along pairs up i more d (omega arith)) (NotAfter-from_cmp _ _ (up (i + more) d (omega arith) (omega arith))))

-- the numbers of keyed numbers
map-keyed : (seed : List ℕ) (stream : ℕ) (xs : List ℕ) → map (λ (p : ℕ × ℕ). p.1) (map (keyed seed stream) xs) ≡ xs
map-keyed seed stream [] = refl
map-keyed seed stream (x ∷ xs) = ap (λ l. x ∷ l) (map-keyed seed stream xs)

-- of two different numbers behind their keys
ComesBefore-from_pairs : (seed : List ℕ) (stream : ℕ) (a b : ℕ × ℕ) → a.0 ≡ sort_key seed stream a.1 → b.0 ≡ sort_key seed stream b.1
    → NotAfter a b → a.1 ≢ b.1 → ComesBefore seed stream a.1 b.1
ComesBefore-from_pairs seed stream a b first second (inl lower) differ = inl (rw (← first, ← second) lower)
ComesBefore-from_pairs seed stream a b first second (inr level) differ = inr (sym first ∙ level.0 ∙ second, omega (arith, level.1, differ))

-- the numbers of the sorted pairs are in order
pub sorted-IsOrder : (seed : List ℕ) (stream n : ℕ) (pairs : List (ℕ × ℕ)) → IsPermutation (map (keyed seed stream) (numbers_below n)) pairs
    → IsSorted pair_cmp pairs → IsOrder seed stream n (map (λ p. p.1) pairs)
sorted-IsOrder seed stream n pairs p up = record { permutes = permutes; rises = rises }
  where
    permutes : IsPermutation (numbers_below n) (map (λ (p : ℕ × ℕ). p.1) pairs)
    permutes = rw map-keyed at (IsPermutation-map (λ (p : ℕ × ℕ). p.1) (map (keyed seed stream) (numbers_below n)) pairs p)

    each : All (λ (q : ℕ × ℕ). q.0 ≡ sort_key seed stream q.1) pairs
    each = All-permutation (λ (q : ℕ × ℕ). q.0 ≡ sort_key seed stream q.1) (map (keyed seed stream) (numbers_below n)) pairs p
        (All-map (λ (q : ℕ × ℕ). q.0 ≡ sort_key seed stream q.1) (keyed seed stream) (numbers_below n) (λ k d inside. refl))

    rises : AllPairs (ComesBefore seed stream) (map (λ (p : ℕ × ℕ). p.1) pairs)
    rises i j d less inside =
        let high : j < length pairs = omega (arith, inside, length-map pairs (λ (p : ℕ × ℕ). p.1)) in
        let low : i < length pairs = omega arith in
        let a = get_or pairs i (d, d) in
        let b = get_or pairs j (d, d) in
        let first = get_or-map (λ (p : ℕ × ℕ). p.1) pairs i (d, d) d low in
        let second = get_or-map (λ (p : ℕ × ℕ). p.1) pairs j (d, d) d high in
        let apart : i + (j - i) ≡ j = omega arith in
        let along : NotAfter a b = rw apart at (NotAfter-along pairs up i (j - i) (d, d) (omega arith)) in
        let differ : a.1 ≢ b.1 = λ same. permuted-differ n (map (λ (p : ℕ × ℕ). p.1) pairs) permutes i j d less inside (first ∙ same ∙ sym second) in
        rw (first, second) (ComesBefore-from_pairs seed stream a b (each i (d, d) low) (each j (d, d) high) along differ)

-- one more pair is made
pub keyed_more : (seed : List ℕ) (stream n number key : ℕ) (done whole : List (ℕ × ℕ)) → number < n → key ≡ sort_key seed stream number
    → done ++ map (keyed seed stream) (range_with_len number (n - number)) ≡ whole
    → (done ++ (key, number) ∷ []) ++ map (keyed seed stream) (range_with_len (number + 1) (n - (number + 1))) ≡ whole
keyed_more seed stream n number key done whole less is so_far =
    let next = range_with_len-next number (n - number) (omega arith) in
    let left : n - number - 1 ≡ n - (number + 1) = omega arith in
    append_assoc done ((key, number) ∷ []) (map (keyed seed stream) (range_with_len (number + 1) (n - (number + 1))))
    ∙ ap (λ k. done ++ ((k, number) ∷ map (keyed seed stream) (range_with_len (number + 1) (n - (number + 1))))) is
    ∙ ap (λ m. done ++ (keyed seed stream number ∷ map (keyed seed stream) (range_with_len (number + 1) m))) (sym left)
    ∙ ap (λ l. done ++ map (keyed seed stream) l) (sym next)
    ∙ so_far

-- all pairs are made
pub keyed_all : (seed : List ℕ) (stream n number : ℕ) (done whole : List (ℕ × ℕ)) → n ≤ number
    → done ++ map (keyed seed stream) (range_with_len number (n - number)) ≡ whole → done ≡ whole
keyed_all seed stream n number done whole all so_far =
    let none : n - number ≡ 0 = omega arith in
    let left : range_with_len number (n - number) ≡ [] = ap (range_with_len number) none in
    sym (append-nil done) ∙ ap (λ l. done ++ map (keyed seed stream) l) (sym left) ∙ so_far
