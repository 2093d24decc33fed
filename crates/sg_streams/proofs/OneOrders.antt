-- There is exactly one order, and it is one to one.
use Rattle.std.proofs.Common.{inl, inr, ◌≡◌, ◌≢◌, ◌⊎◌, ℕ, zero, suc, ◌<◌, true, false, eqb, ltb, ◌||◌, ◌&&◌, List, [], ◌∷◌, length, All, AllPairs, Contains, IsPermutation, refl, sym, ap, ◌∙◌, arith}
use Rattle.std.proofs.lemmas.Bool.{cases_Bool, cases_order}
use Rattle.std.proofs.lemmas.Bool.Decides.{nat_tests}
use Rattle.std.proofs.lemmas.List.Elements.{All-nil, All-cons, All-head, All-tail, All-weaker, All-contains}
use Rattle.std.proofs.lemmas.Option.{slice_get_read, slice_get_within, get_or_from_slice_get}
use Rattle.std.proofs.lemmas.List.Kept.{AllPairs-cons}
use Rattle.std.proofs.lemmas.List.Sorted.{IsPermutation-refl, IsPermutation-sym, IsPermutation-trans, IsPermutation-cons, IsPermutation-middle, All-permutation, Contains-permutation, length_permutation}
use Rattle.sg_streams.specs.Numbers.{numbers_below}
use Rattle.sg_streams.specs.Laws.{OneOrder, OrdersAreOneToOne}
use Rattle.sg_streams.specs.Order.{sort_key, ComesBefore, comes_before, IsOrder, HasOnePlace, order_of, put_in_order, in_order}
use Rattle.sg_streams.proofs.NumberLists.{get_or-numbers_below, length-numbers_below}
use Rattle.sg_streams.proofs.Ordered.{permuted-differ}

-- a number comes before another, or the other way round, where they are different
before_or_after : (seed : List ℕ) (stream x y : ℕ) → x ≢ y → comes_before seed stream x y ≡ false → ComesBefore seed stream y x
before_or_after seed stream x y differ after = between (sort_key seed stream x) (sort_key seed stream y) after
  where
    between : (a b : ℕ) → (ltb a b || (eqb a b && ltb x y)) ≡ false → (b < a) ⊎ ((b ≡ a) × (y < x))
    between a b h = grind (arith, nat_tests)

before_from_test : (seed : List ℕ) (stream x y : ℕ) → comes_before seed stream x y ≡ true → ComesBefore seed stream x y
before_from_test seed stream x y before = between (sort_key seed stream x) (sort_key seed stream y) before
  where
    between : (a b : ℕ) → (ltb a b || (eqb a b && ltb x y)) ≡ true → (a < b) ⊎ ((a ≡ b) × (x < y))
    between a b h = grind (arith, nat_tests)

ComesBefore-trans : (seed : List ℕ) (stream x y z : ℕ) → ComesBefore seed stream x y → ComesBefore seed stream y z → ComesBefore seed stream x z
ComesBefore-trans seed stream x y z p q = chain (sort_key seed stream x) (sort_key seed stream y) (sort_key seed stream z) p q
  where
    chain : (a b c : ℕ) → (a < b) ⊎ ((a ≡ b) × (x < y)) → (b < c) ⊎ ((b ≡ c) × (y < z)) → (a < c) ⊎ ((a ≡ c) × (x < z))
    chain a b c (inl p) (inl q) = inl (omega arith)
    chain a b c (inl p) (inr q) = inl (omega arith)
    chain a b c (inr p) (inl q) = inl (omega arith)
    chain a b c (inr p) (inr q) = inr (omega arith, omega arith)

-- no two numbers come before each other
ComesBefore-one_way : (seed : List ℕ) (stream x y : ℕ) → ComesBefore seed stream x y → ComesBefore seed stream y x → ⊥
ComesBefore-one_way seed stream x y p q = apart (sort_key seed stream x) (sort_key seed stream y) p q
  where
    apart : (a b : ℕ) → (a < b) ⊎ ((a ≡ b) × (x < y)) → (b < a) ⊎ ((b ≡ a) × (y < x)) → ⊥
    apart a b (inl p) (inl q) = omega arith
    apart a b (inl p) (inr q) = omega arith
    apart a b (inr p) (inl q) = omega arith
    apart a b (inr p) (inr q) = omega arith

-- of a list whose elements stand in a relation to all later ones
AllPairs-head : (R : ℕ → ℕ → Type 0) (x : ℕ) (xs : List ℕ) → AllPairs R (x ∷ xs) → All (R x) xs
AllPairs-head R x xs all k d inside = all 0 (suc k) d (omega arith) (omega arith)

AllPairs-tail : (R : ℕ → ℕ → Type 0) (x : ℕ) (xs : List ℕ) → AllPairs R (x ∷ xs) → AllPairs R xs
AllPairs-tail R x xs all i j d less inside = all (suc i) (suc j) d (omega arith) (omega arith)

-- putting a number in keeps the numbers
put_in_order-permutes : (seed : List ℕ) (stream x : ℕ) (ys : List ℕ) → IsPermutation (x ∷ ys) (put_in_order seed stream x ys)
unfolding put_in_order
put_in_order-permutes seed stream x [] = IsPermutation-refl (x ∷ [])
put_in_order-permutes seed stream x (y ∷ ys) =
    elim (cases_Bool (comes_before seed stream x y)) [
      | inl before ↦ rw before (IsPermutation-refl (x ∷ y ∷ ys))
      | inr after ↦ rw after (IsPermutation-trans (x ∷ y ∷ ys) (y ∷ x ∷ ys) (y ∷ put_in_order seed stream x ys)
          (IsPermutation-middle (x ∷ []) y ys)
          (IsPermutation-cons y (x ∷ ys) (put_in_order seed stream x ys) (put_in_order-permutes seed stream x ys)))
    ]

-- it keeps the order, where the number is a new one
put_in_order-rises : (seed : List ℕ) (stream x : ℕ) (ys : List ℕ) → All (λ y. x ≢ y) ys → AllPairs (ComesBefore seed stream) ys → AllPairs (ComesBefore seed stream) (put_in_order seed stream x ys)
unfolding put_in_order
put_in_order-rises seed stream x [] differ rises = AllPairs-cons (ComesBefore seed stream) x [] (All-nil (ComesBefore seed stream x)) rises
put_in_order-rises seed stream x (y ∷ ys) differ rises =
    let R = ComesBefore seed stream in
    let later : All (R y) ys = AllPairs-head R y ys rises in
    elim (cases_Bool (comes_before seed stream x y)) [
      | inl before ↦
          let first = before_from_test seed stream x y before in
          rw before (AllPairs-cons R x (y ∷ ys)
          (All-cons (R x) y ys first (All-weaker (R y) (R x) (λ z more. ComesBefore-trans seed stream x y z first more) ys later)) rises)
      | inr after ↦
          let first = before_or_after seed stream x y (All-head (λ z. x ≢ z) y ys differ) after in
          rw after (AllPairs-cons R y (put_in_order seed stream x ys)
          (All-permutation (R y) (x ∷ ys) (put_in_order seed stream x ys) (put_in_order-permutes seed stream x ys) (All-cons (R y) x ys first later))
          (put_in_order-rises seed stream x ys (All-tail (λ z. x ≢ z) y ys differ) (AllPairs-tail R y ys rises)))
    ]

in_order-permutes : (seed : List ℕ) (stream : ℕ) (xs : List ℕ) → IsPermutation xs (in_order seed stream xs)
unfolding in_order
in_order-permutes seed stream [] = IsPermutation-refl []
in_order-permutes seed stream (x ∷ xs) =
    IsPermutation-trans (x ∷ xs) (x ∷ in_order seed stream xs) (put_in_order seed stream x (in_order seed stream xs))
    (IsPermutation-cons x xs (in_order seed stream xs) (in_order-permutes seed stream xs))
    (put_in_order-permutes seed stream x (in_order seed stream xs))

in_order-rises : (seed : List ℕ) (stream : ℕ) (xs : List ℕ) → AllPairs (λ x y. x ≢ y) xs → AllPairs (ComesBefore seed stream) (in_order seed stream xs)
unfolding in_order
in_order-rises seed stream [] differ = λ i j d less inside. absurd (omega arith)
in_order-rises seed stream (x ∷ xs) differ =
    put_in_order-rises seed stream x (in_order seed stream xs)
    (All-permutation (λ y. x ≢ y) xs (in_order seed stream xs) (in_order-permutes seed stream xs) (AllPairs-head (λ y z. y ≢ z) x xs differ))
    (in_order-rises seed stream xs (AllPairs-tail (λ y z. y ≢ z) x xs differ))

-- the function gives an order
pub order_of-IsOrder : (seed : List ℕ) (stream n : ℕ) → IsOrder seed stream n (order_of seed stream n)
unfolding order_of
order_of-IsOrder seed stream n = record {
  permutes = in_order-permutes seed stream (numbers_below n);
  rises = in_order-rises seed stream (numbers_below n) (permuted-differ n (numbers_below n) (IsPermutation-refl (numbers_below n)));
}

Contains-first : (x : ℕ) (xs : List ℕ) → Contains (x ∷ xs) x
Contains-first x xs = (0, omega arith, refl)

Contains-later : (y : ℕ) (xs : List ℕ) (x : ℕ) → Contains xs x → Contains (y ∷ xs) x
Contains-later y xs x (k, inside, is) = (suc k, omega arith, is)

Contains-cases : (y : ℕ) (xs : List ℕ) (x : ℕ) → Contains (y ∷ xs) x → (y ≡ x) ⊎ Contains xs x
Contains-cases y xs x (zero, inside, is) = inl is
Contains-cases y xs x (suc k, inside, is) = inr (k, omega arith, is)

Contains-none : (x : ℕ) → Contains [] x → ⊥
Contains-none x (k, inside, is) = omega arith

-- an element of a rest comes after the first, so it is not the first
later_differs : (seed : List ℕ) (stream x : ℕ) (xs : List ℕ) → AllPairs (ComesBefore seed stream) (x ∷ xs) → Contains xs x → ⊥
later_differs seed stream x xs up there =
    let itself = All-contains (ComesBefore seed stream x) xs x (AllPairs-head (ComesBefore seed stream) x xs up) there in
    ComesBefore-one_way seed stream x x itself itself

-- the first elements of two such lists are equal
same_first : (seed : List ℕ) (stream x y : ℕ) (xs ys : List ℕ) → AllPairs (ComesBefore seed stream) (x ∷ xs) → AllPairs (ComesBefore seed stream) (y ∷ ys)
    → Contains (y ∷ ys) x → Contains (x ∷ xs) y → x ≡ y
same_first seed stream x y xs ys up up' there here =
    let R = ComesBefore seed stream in
    elim (Contains-cases y ys x there) [
      | inl same ↦ sym same
      | inr after ↦ elim (Contains-cases x xs y here) [
        | inl same ↦ same
        | inr after' ↦ absurd (ComesBefore-one_way seed stream x y
            (All-contains (R x) xs y (AllPairs-head R x xs up) after') (All-contains (R y) ys x (AllPairs-head R y ys up') after))
      ]
    ]

-- and what is in the one rest is in the other
same_rest : (seed : List ℕ) (stream x y z : ℕ) (xs ys : List ℕ) → AllPairs (ComesBefore seed stream) (x ∷ xs) → x ≡ y
    → (Contains (x ∷ xs) z → Contains (y ∷ ys) z) → Contains xs z → Contains ys z
same_rest seed stream x y z xs ys up same into there =
    elim (Contains-cases y ys z (into (Contains-later x xs z there))) [
      | inl first ↦ absurd (later_differs seed stream x xs up (rw (same ∙ first) there))
      | inr rest ↦ rest
    ]

-- two lists of the same numbers in the same order are equal
same_rising : (seed : List ℕ) (stream : ℕ) (xs ys : List ℕ) → AllPairs (ComesBefore seed stream) xs → AllPairs (ComesBefore seed stream) ys
    → ((x : ℕ) → Contains xs x → Contains ys x) → ((x : ℕ) → Contains ys x → Contains xs x) → xs ≡ ys
same_rising seed stream [] [] up up' into back = refl
same_rising seed stream [] (y ∷ ys) up up' into back = absurd (Contains-none y (back y (Contains-first y ys)))
same_rising seed stream (x ∷ xs) [] up up' into back = absurd (Contains-none x (into x (Contains-first x xs)))
same_rising seed stream (x ∷ xs) (y ∷ ys) up up' into back =
    let R = ComesBefore seed stream in
    let same = same_first seed stream x y xs ys up up' (into x (Contains-first x xs)) (back y (Contains-first y ys)) in
    let rest = same_rising seed stream xs ys (AllPairs-tail R x xs up) (AllPairs-tail R y ys up')
    (λ z. same_rest seed stream x y z xs ys up same (into z))
    (λ z. same_rest seed stream y x z ys xs up' (sym same) (back z)) in
    ap (λ l. x ∷ l) rest ∙ ap (λ n. n ∷ ys) same

-- there is only one order
pub IsOrder-is : (seed : List ℕ) (stream n : ℕ) (list : List ℕ) → IsOrder seed stream n list → list ≡ order_of seed stream n
IsOrder-is seed stream n list is =
    let made = order_of-IsOrder seed stream n in
    let numbers = numbers_below n in
    same_rising seed stream list (order_of seed stream n) is.rises made.rises
    (λ x. Contains-permutation list (order_of seed stream n) x (IsPermutation-trans list numbers (order_of seed stream n) (IsPermutation-sym numbers list is.permutes) made.permutes))
    (λ x. Contains-permutation (order_of seed stream n) list x (IsPermutation-trans (order_of seed stream n) numbers list (IsPermutation-sym numbers (order_of seed stream n) made.permutes) is.permutes))

pub one_order : OneOrder
one_order seed stream n list = (IsOrder-is seed stream n list, λ same. rw same (order_of-IsOrder seed stream n))

-- the numbers of an order are different
pub IsOrder-differ : (seed : List ℕ) (stream n : ℕ) (list : List ℕ) → IsOrder seed stream n list → AllPairs (λ x y. x ≢ y) list
IsOrder-differ seed stream n list is = permuted-differ n list is.permutes

pub length-IsOrder : (seed : List ℕ) (stream n : ℕ) (list : List ℕ) → IsOrder seed stream n list → length list ≡ n
length-IsOrder seed stream n list is = length_permutation (numbers_below n) list is.permutes ∙ length-numbers_below n

-- and below n
pub IsOrder-below : (seed : List ℕ) (stream n : ℕ) (list : List ℕ) → IsOrder seed stream n list → All (λ x. x < n) list
IsOrder-below seed stream n list is =
    let below : All (λ x. x < n) (numbers_below n) = λ k d inside.
    let low : k < n = omega (arith, inside, length-numbers_below n) in
    rw (get_or-numbers_below n k d low) low in
    All-permutation (λ x. x < n) (numbers_below n) list is.permutes below

-- each number below n is in it
pub IsOrder-has : (seed : List ℕ) (stream n : ℕ) (list : List ℕ) → IsOrder seed stream n list → (x : ℕ) → x < n → Contains list x
IsOrder-has seed stream n list is x less =
    Contains-permutation (numbers_below n) list x is.permutes (x, omega (arith, length-numbers_below n), get_or-numbers_below n x x less)

-- in a list of different numbers, one that is there has one place
HasOnePlace-from : (list : List ℕ) (x : ℕ) → AllPairs (λ y z. y ≢ z) list → Contains list x → HasOnePlace list x
HasOnePlace-from list x differ (k, inside, is) = record {
  place = k;
  found = slice_get_read list (length list) k x refl inside (sym is);
  alone = λ other found.
      let within = slice_get_within list other x found in
      let there = get_or_from_slice_get list other x x found in
      elim (cases_order other k) [
        | inl same ↦ same
        | inr (inl before) ↦ absurd (differ other k x before inside (there ∙ sym is))
        | inr (inr after) ↦ absurd (differ k other x after within (is ∙ sym there))
      ];
}

pub one_to_one : OrdersAreOneToOne
one_to_one seed stream n list is = record {
  many = length-IsOrder seed stream n list is;
  below = IsOrder-below seed stream n list is;
  places = λ x less. HasOnePlace-from list x (IsOrder-differ seed stream n list is) (IsOrder-has seed stream n list is x less);
}
