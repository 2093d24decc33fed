-- How many items of a front of a list pass a test.
use Rattle.std.proofs.Common.{◌≡◌, ℕ, zero, suc, ◌+◌, ◌-◌, ◌*◌, ◌<◌, ◌≤◌, min, Bool, true, false, cond, if◌then◌else◌, inl, inr, List, [], ◌∷◌, ◌++◌, length, take, replicate, get_or, slice_get, count_by, Some, refl, sym, ap, ◌∙◌, arith}
use Rattle.std.proofs.Math.Seq.{take-append-add}
use Rattle.std.proofs.lemmas.Bool.{cases_Bool, cases_eq, cases_order, cond-true, cond-false}
use Rattle.std.proofs.lemmas.List.{get_or-append-add, get_or_append_left, get_or-replicate, length-append, length-replicate, take-take}
use Rattle.std.proofs.lemmas.List.Folds.{sum_by-replicate}
use Rattle.std.proofs.lemmas.List.Sums.{count_by_more_yes, sum_by-append, sum_by-cons, sum_by-take-le}
use Rattle.std.proofs.lemmas.Option.{slice_get-get_or}

-- the count of two joined lists
pub count_by-append : {X : Type 0} (p : X → Bool) (xs ys : List X) → count_by p (xs ++ ys) ≡ count_by p xs + count_by p ys
count_by-append p xs ys = sum_by-append (λ x. cond (p x) 1 0) xs ys

-- all of equal items pass, or none
pub count_by-replicate : {X : Type 0} (p : X → Bool) (n : ℕ) (x : X) → count_by p (replicate n x) ≡ (if p x then n else 0)
count_by-replicate p n x = sum_by-replicate (λ y. cond (p y) 1 0) n x ∙ times (p x)
  where
    times : (b : Bool) → n * cond b 1 0 ≡ cond b n 0
    times true = omega arith
    times false = omega arith

-- a front of equal items, and then of later ones
pub count_by-run : {X : Type 0} (p : X → Bool) (n : ℕ) (x : X) (ys : List X) (k : ℕ)
    → count_by p (take k (replicate n x ++ ys)) ≡ (if p x then min n k else 0) + count_by p (take (k - min n k) ys)
count_by-run p zero x ys k =
    let none : min 0 k ≡ 0 = omega arith in
    let all : k - min 0 k ≡ k = omega arith in
    let left : cond (p x) (min 0 k) 0 ≡ 0 = elim (p x) as (λ b. cond b (min 0 k) 0 ≡ 0) [ true ↦ none | false ↦ refl ] in
    rw (all, left) (omega arith)
count_by-run p (suc n) x ys zero =
    let none : min (suc n) 0 ≡ 0 = omega arith in
    let all : 0 - min (suc n) 0 ≡ 0 = omega arith in
    let left : cond (p x) (min (suc n) 0) 0 ≡ 0 = elim (p x) as (λ b. cond b (min (suc n) 0) 0 ≡ 0) [ true ↦ none | false ↦ refl ] in
    rw (all, left) (omega arith)
count_by-run p (suc n) x ys (suc k) =
    let rest : suc k - min (suc n) (suc k) ≡ k - min n k = omega arith in
    let step : cond (p x) 1 0 + cond (p x) (min n k) 0 ≡ cond (p x) (min (suc n) (suc k)) 0
    = elim (p x) as (λ b. cond b 1 0 + cond b (min n k) 0 ≡ cond b (min (suc n) (suc k)) 0) [ true ↦ omega arith | false ↦ omega arith ] in
    let ih = count_by-run p n x ys k in
    let first = sum_by-cons (λ y. cond (p y) 1 0) x (take k (replicate n x ++ ys)) in
    rw rest (omega (arith, ih, first, step))

-- one of equal items behind others, where it passes
pub at_run : {X : Type 0} (p : X → Bool) (front : List X) (n : ℕ) (x : X) (ys : List X) (k : ℕ) → k < n → p x ≡ true
    → slice_get (front ++ (replicate n x ++ ys)) (length front + k) ≡ Some x
at_run p front n x ys k within passes =
    let inside : k < length (replicate n x) = omega (arith, length-replicate n x) in
    let long : length front + k < length (front ++ (replicate n x ++ ys))
    = omega (arith, length-append front (replicate n x ++ ys), length-append (replicate n x) ys, length-replicate n x) in
    slice_get-get_or (front ++ (replicate n x ++ ys)) (length front + k) x long
    ∙ ap (λ y. Some y) (get_or-append-add front (replicate n x ++ ys) k x ∙ (get_or_append_left (replicate n x) ys x k inside ∙ get_or-replicate n k x x within))

-- how many pass before it
pub count_by-before_run : {X : Type 0} (p : X → Bool) (front : List X) (n : ℕ) (x : X) (ys : List X) (k : ℕ) → k < n → p x ≡ true
    → count_by p (take (length front + k) (front ++ (replicate n x ++ ys))) ≡ count_by p front + k
count_by-before_run p front n x ys k within passes =
    let few : min n k ≡ k = omega arith in
    let none : k - min n k ≡ 0 = omega arith in
    let run : count_by p (take k (replicate n x ++ ys)) ≡ k
    = count_by-run p n x ys k ∙ rw (none, passes, few) (omega arith) in
    ap (λ l. count_by p l) (take-append-add front (replicate n x ++ ys) k)
    ∙ (count_by-append p front (take k (replicate n x ++ ys)) ∙ ap (λ m. count_by p front + m) run)

-- a longer front has as many, or more
pub count_by-longer : {X : Type 0} (p : X → Bool) (xs : List X) (j k : ℕ) → j ≤ k → count_by p (take j xs) ≤ count_by p (take k xs)
count_by-longer p xs j k le =
    let less = sum_by-take-le (λ x. cond (p x) 1 0) (take k xs) j in
    rw (take-take j k xs le) at less

-- one that passes is counted in each longer front
pub count_by-rises : {X : Type 0} (p : X → Bool) (xs : List X) (j k : ℕ) (d : X) → j < k → j < length xs → p (get_or xs j d) ≡ true
    → count_by p (take j xs) < count_by p (take k xs)
count_by-rises p xs j k d below within passes =
    omega (arith, count_by_more_yes p xs j d within passes, count_by-longer p xs (j + 1) k (omega arith))

-- and in the whole list
pub count_by-within : {X : Type 0} (p : X → Bool) (xs : List X) (j : ℕ) (d : X) → j < length xs → p (get_or xs j d) ≡ true
    → count_by p (take j xs) < count_by p xs
count_by-within p xs j d within passes =
    omega (arith, count_by_more_yes p xs j d within passes, sum_by-take-le (λ x. cond (p x) 1 0) xs (j + 1))

-- two that pass and have as many before them are one
pub count_by-one : {X : Type 0} (p : X → Bool) (xs : List X) (j k : ℕ) (d : X) → j < length xs → k < length xs
    → p (get_or xs j d) ≡ true → p (get_or xs k d) ≡ true → count_by p (take j xs) ≡ count_by p (take k xs) → j ≡ k
count_by-one p xs j k d inj ink pj pk same =
    elim (cases_order j k) [
      | inl e ↦ e
      | inr other ↦ elim other [
        | inl less ↦ absurd (omega (arith, count_by-rises p xs j k d less inj pj, same))
        | inr more ↦ absurd (omega (arith, count_by-rises p xs k j d more ink pk, same))
      ]
    ]

-- the place of an item that passes and has so many such before it
pub record PlaceOf {X : Type 0} (p : X → Bool) (xs : List X) (d : X) (n : ℕ) : Type 0 where
  pub place : ℕ
  pub within : place < length xs
  pub passes : p (get_or xs place d) ≡ true
  pub before : count_by p (take place xs) ≡ n

-- one further back is there still, and the item before it is counted where it passes
place_behind : {X : Type 0} (p : X → Bool) (x : X) (xs : List X) (d : X) (m n : ℕ) (b : Bool) → p x ≡ b → cond b 1 0 + m ≡ n → PlaceOf p xs d m → PlaceOf p (x ∷ xs) d n
place_behind p x xs d m n b e sum found = record {
  place = suc found.place;
  within = omega (arith, found.within);
  passes = found.passes;
  before = sum_by-cons (λ y. cond (p y) 1 0) x (take found.place xs) ∙ rw e (ap (λ k. cond b 1 0 + k) found.before ∙ sum);
}

-- there is one for each number below the count
pub count_by-place : {X : Type 0} (p : X → Bool) (xs : List X) (d : X) (n : ℕ) → n < count_by p xs → PlaceOf p xs d n
count_by-place p [] d n below = absurd (omega arith)
count_by-place p (x ∷ xs) d n below =
    let whole = sum_by-cons (λ y. cond (p y) 1 0) x xs in
    elim (cases_Bool (p x)) [
      | inl passes ↦ elim (cases_eq n 0) [
        | inl none ↦ record { place = 0; within = omega arith; passes = passes; before = sym none }
        | inr some ↦ let one = cond-true {A = ℕ} (p x) 1 0 passes in
            place_behind p x xs d (n - 1) n true passes (omega arith) (count_by-place p xs d (n - 1) (omega (arith, whole, one, below)))
      ]
      | inr fails ↦ let none = cond-false {A = ℕ} (p x) 1 0 fails in
          place_behind p x xs d n n false fails (omega arith) (count_by-place p xs d n (omega (arith, whole, none, below)))
    ]
