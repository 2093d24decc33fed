-- Numbers that are taken one to one to the same numbers: a list of all of them has each once.
use Rattle.std.proofs.Common.{◌≡◌, ◌≢◌, ℕ, suc, ◌+◌, ◌-◌, ◌<◌, inl, inr, List, [], ◌∷◌, length, map, get_or, All, AllPairs, Contains, IsPermutation, sym, ap, ◌∙◌, arith}
use Rattle.std.specs.List.{remove}
use Rattle.std.proofs.lemmas.Bool.{cases_lt}
use Rattle.std.proofs.lemmas.List.{get_or_default, nil_from_length}
use Rattle.std.proofs.lemmas.List.Edits.{get_or-remove_above, get_or-remove_below, length-remove}
use Rattle.std.proofs.lemmas.List.Sorted.{Contains-permutation, IsPermutation-cons, IsPermutation-refl, IsPermutation-remove, IsPermutation-sym, IsPermutation-trans}
use Rattle.sg_streams.specs.Numbers.{numbers_below}
use Rattle.sg_streams.proofs.NumberLists.{get_or-numbers_below, length-numbers_below}
use Rattle.sg_tables.specs.Laws.{Permutes, Reached}
use Rattle.sg_tables.proofs.Lists.{get_or-map_below, length-map_below}

-- what stands at another place is still there when an element is taken out
others_left : (ys : List ℕ) (at k z : ℕ) → at < length ys → k < length ys → k ≢ at → get_or ys k z ≡ z → Contains (remove ys at) z
others_left ys at k z inside within other is =
    let less = length-remove ys at inside in
    elim (cases_lt k at) [
      | inl before ↦ (k, omega (arith, less), get_or-remove_below ys at z k before inside ∙ is)
      | inr after ↦
          let back : k - 1 + 1 ≡ k = omega (arith, after, other) in
          (k - 1, omega (arith, less, after, other), get_or-remove_above ys at z (k - 1) (omega (arith, after, other)) inside ∙ ap (λ n. get_or ys n z) back ∙ is)
    ]

-- a list without a number twice, each of whose numbers is in a list of the same length, has the numbers of that list
permutation_from_within : (xs ys : List ℕ) → length xs ≡ length ys → AllPairs (λ x y. x ≢ y) xs → All (Contains ys) xs → IsPermutation xs ys
permutation_from_within [] ys many differ within = rw (nil_from_length ys (sym many)) (IsPermutation-refl [])
permutation_from_within (x ∷ xs) ys many differ within =
    let first : Contains ys x = within 0 0 (omega arith) in
    let rest = remove ys first.0 in
    let less = length-remove ys first.0 first.1 in
    let later : All (Contains rest) xs = λ i d inside.
    let z = get_or xs i d in
    let there : Contains ys z = within (suc i) d (omega (arith, inside)) in
    let apart : x ≢ z = differ 0 (suc i) d (omega arith) (omega (arith, inside)) in
    let other : there.0 ≢ first.0 = λ same. apart (sym first.2 ∙ ap (λ k. get_or ys k x) (sym same) ∙ get_or_default ys there.0 x z there.1 ∙ there.2) in
    others_left ys first.0 there.0 z first.1 there.1 other there.2 in
    let apart_later : AllPairs (λ a b. a ≢ b) xs = λ i j d before inside. differ (suc i) (suc j) d (omega arith) (omega (arith, inside)) in
    let ih = permutation_from_within xs rest (omega (arith, many, less)) apart_later later in
    IsPermutation-trans (x ∷ xs) (x ∷ rest) ys (IsPermutation-cons x xs rest ih)
    (IsPermutation-sym ys (x ∷ rest) (IsPermutation-remove ys first.0 x first.1 (sym first.2)))

-- numbers below n that are taken to different numbers below n are taken to all of them
pub permutes : (n : ℕ) (f : ℕ → ℕ) → ((x : ℕ) → x < n → f x < n) → ((x other : ℕ) → x < n → other < n → f x ≡ f other → x ≡ other) → Permutes n f
permutes n f below one = record { below = below; one = one; reached = reached; listed = listed }
  where
    all : List ℕ
    all = map f (numbers_below n)

    differ : AllPairs (λ x y. x ≢ y) all
    differ i j d before inside same =
        let high : j < n = omega (arith, inside, length-map_below f n) in
        let low : i < n = omega arith in
        omega (arith, before, one i j low high (sym (get_or-map_below f n i d low) ∙ same ∙ get_or-map_below f n j d high))

    within : All (Contains (numbers_below n)) all
    within i d inside =
        let less : i < n = omega (arith, inside, length-map_below f n) in
        let is = get_or-map_below f n i d less in
        let small = below i less in
        rw is (f i, omega (arith, small, length-numbers_below n), get_or-numbers_below n (f i) (f i) small)

    listed : IsPermutation (numbers_below n) all
    listed = IsPermutation-sym all (numbers_below n)
        (permutation_from_within all (numbers_below n) (length-map_below f n ∙ sym (length-numbers_below n)) differ within)

    reached : (y : ℕ) → y < n → Reached n f y
    reached y less =
        let here : Contains (numbers_below n) y = (y, omega (arith, length-numbers_below n), get_or-numbers_below n y y less) in
        let found : Contains all y = Contains-permutation (numbers_below n) all y listed here in
        let inside : found.0 < n = omega (arith, found.1, length-map_below f n) in
        record { from = found.0; below = inside; is = sym (get_or-map_below f n found.0 y inside) ∙ found.2 }
