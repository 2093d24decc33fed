-- Acts whose numbers rise: which are below a number, and the place at which a search by halves ends.
use Rattle.std.proofs.Common.{◌≡◌, ℕ, zero, suc, ◌+◌, ◌<◌, ◌≤◌, length, get_or, Bool, true, false, ◌&&◌, cond, ℤ, int_lt, List, [], ◌∷◌, ◌++◌, Option, Some, None, Result, Ok, Err, OnErr, OnOk, Less, Equal, Greater, inl, inr, refl, ap, sym, subst, ◌∙◌, arith}
use Rattle.std.proofs.lemmas.Int.{ints}
use Rattle.std.proofs.lemmas.Bool.{cases_lt, and_parts}
use Rattle.std.proofs.lemmas.Cmp.{int_cmp_total}
use Rattle.std.proofs.lemmas.List.Sorted.{searchable_from_sorted}
use Rattle.std.proofs.lemmas.Map.Keys.{sorted_head, sorted_tail}
use Rattle.std.specs.List.{AllByRecursion, remove, slice_get}
use Rattle.std.specs.List.Sorted.{IsBinarySearchResult, IsSearchInRange, IsStrictlySortedBy}
use Rattle.std.specs.Map.{keys_of}
use Rattle.std.specs.Option.{option_map}
use Rattle.std.specs.Result.{result_ok}
use Rattle.std.specs.Ordering.{int_cmp, int_eq, is_lt}
use Rattle.std.proofs.lemmas.Option.{same_Some, slice_get-get_or}
use Rattle.std.proofs.Math.Bool.{and-false, and-true}
use Rattle.sg_lists.proofs.Integers.{lower_differs}
use Rattle.sg_office.specs.inside.Runs.{Act, Rise, are_below, place_of, text_of, without_number}

-- ORDER

falls_through : (a b c : ℤ) → int_cmp a b ≡ Less → int_lt b c ≡ true → int_lt a c ≡ true
falls_through a b c e f = grind (arith, ints, e, f)

not_back : (a b : ℤ) → int_cmp a b ≡ Less → is_lt (int_cmp b a) ≡ false
not_back a b e = grind (arith, ints, e)

apart_by : (a b c : ℤ) → int_cmp a b ≡ Less → int_eq b c ≡ true → int_eq a c ≡ false
apart_by a b c e f = grind (arith, ints, e, f)

less_not_equal : (a b : ℤ) → int_cmp a b ≡ Less → int_eq a b ≡ false
less_not_equal a b e = grind (arith, ints, e)

greater_not_equal : (a b : ℤ) → int_cmp a b ≡ Greater → int_eq a b ≡ false
greater_not_equal a b e = grind (arith, ints, e)

equal_is : (a b : ℤ) → int_cmp a b ≡ Equal → int_eq a b ≡ true
equal_is a b e = grind (arith, ints, e)

below_less : (a b : ℤ) → int_lt a b ≡ true → int_cmp a b ≡ Less
below_less a b e = grind (arith, ints, e)

-- BELOW A NUMBER

-- an act in front of others is below a number where the others are
below_first : (x : Act) (acts : List Act) (y : Act) (rest : List Act) → acts ≡ y ∷ rest → (number : ℤ) (b : Bool) → Rise (x ∷ acts) → are_below number acts ≡ b → are_below number (x ∷ acts) ≡ b
below_first x acts y rest is number b rise below = by_test b below
  where
    shape : Rise (x ∷ y ∷ rest)
    shape = subst (λ l. Rise (x ∷ l)) is rise

    by_test : (b : Bool) → are_below number acts ≡ b → (int_lt x.0 number && are_below number acts) ≡ b
    by_test true all =
        let lower : int_lt x.0 number ≡ true =
        falls_through x.0 y.0 number (sorted_head int_cmp x.0 (keys_of (y ∷ rest)) shape).0 (and_parts (int_lt y.0 number) (are_below number rest) (ap (are_below number) (sym is) ∙ all)).0 in
        ap (λ c. c && are_below number acts) lower ∙ all
    by_test false none = ap (λ c. int_lt x.0 number && c) none ∙ and-false (int_lt x.0 number)

-- the last act has the highest number
pub below_last : (front acts : List Act) (n : ℕ) (number : ℤ) (last : Act) → Rise (front ++ acts) → slice_get acts n ≡ Some last → length acts ≡ n + 1 → are_below number (front ++ acts) ≡ int_lt last.0 number
below_last [] [] n number last rise e many = cc
below_last [] (x ∷ []) zero number last rise e many = and-true (int_lt x.0 number) ∙ ap (λ (a : Act). int_lt a.0 number) (same_Some x last e)
below_last [] (x ∷ []) (suc n) number last rise e many = cc
below_last [] (x ∷ y ∷ acts) zero number last rise e many = absurd (omega (arith, many))
below_last [] (x ∷ y ∷ acts) (suc n) number last rise e many =
    below_first x (y ∷ acts) y acts refl number (int_lt last.0 number) rise (below_last [] (y ∷ acts) n number last (sorted_tail int_cmp x.0 (keys_of (y ∷ acts)) rise) e (omega (arith, many)))
below_last (x ∷ []) [] n number last rise e many = cc
below_last (x ∷ []) (y ∷ acts) n number last rise e many =
    below_first x (y ∷ acts) y acts refl number (int_lt last.0 number) rise (below_last [] (y ∷ acts) n number last (sorted_tail int_cmp x.0 (keys_of (y ∷ acts)) rise) e many)
below_last (x ∷ y ∷ front) acts n number last rise e many =
    below_first x (y ∷ front ++ acts) y (front ++ acts) refl number (int_lt last.0 number) rise (below_last (y ∷ front) acts n number last (sorted_tail int_cmp x.0 (keys_of (y ∷ front ++ acts)) rise) e many)

-- a number above all has no text
pub no_text_above : (acts : List Act) (number : ℤ) → are_below number acts ≡ true → text_of number acts ≡ None
no_text_above [] number below = refl
no_text_above (x ∷ xs) number below =
    ap (λ b. cond b (Some x.1) (text_of number xs)) (lower_differs x.0 number (and_parts (int_lt x.0 number) (are_below number xs) below).0)
    ∙ no_text_above xs number (and_parts (int_lt x.0 number) (are_below number xs) below).1

-- no act
pub none_rise : Rise []
unfolding IsStrictlySortedBy
none_rise = tt

-- the numbers still rise with one that is above all
rise_more : (acts : List Act) (number : ℤ) (text : List ℕ) → Rise acts → are_below number acts ≡ true → Rise (acts ++ (number, text) ∷ [])
unfolding IsStrictlySortedBy
rise_more [] number text rise below = (tt, tt)
rise_more (x ∷ xs) number text rise below = (
  all_more xs rise.0,
  rise_more xs number text rise.1 (and_parts (int_lt x.0 number) (are_below number xs) below).1,
)
  where
    all_more : (ys : List Act) → AllByRecursion (λ k. int_cmp x.0 k ≡ Less) (keys_of ys) → AllByRecursion (λ k. int_cmp x.0 k ≡ Less) (keys_of (ys ++ (number, text) ∷ []))
    all_more [] all = (below_less x.0 number (and_parts (int_lt x.0 number) (are_below number xs) below).0, tt)
    all_more (y ∷ ys) all = (all.0, all_more ys all.1)

-- the same where an act is pushed, or there is no memory
pub rise_pushed : {A B : Type 0} (acts new : List Act) (number : ℤ) (text : List ℕ) (r : Result A B) → Rise acts → are_below number acts ≡ true
    → OnOk r (new ≡ acts ++ (number, text) ∷ []) → OnErr r (new ≡ acts) → Rise new
rise_pushed acts new number text (Ok a) rise below ok err = subst Rise (sym ok) (rise_more acts number text rise below)
rise_pushed acts new number text (Err e) rise below ok err = subst Rise (sym err) rise

-- PLACES

-- what is true of all numbers is true of that at a place
all_at : (number : ℤ) (xs : List Act) (at : ℕ) (act : Act) → AllByRecursion (λ k. int_cmp number k ≡ Less) (keys_of xs) → slice_get xs at ≡ Some act → int_cmp number act.0 ≡ Less
all_at number [] at act all e = cc
all_at number (y ∷ ys) zero act all e = subst (λ (a : Act). int_cmp number a.0 ≡ Less) (same_Some y act e) all.0
all_at number (y ∷ ys) (suc at) act all e = all_at number ys at act all.1 e

-- an act that has the number is the only one
place_at : (acts : List Act) (number : ℤ) (at : ℕ) (act : Act) → Rise acts → slice_get acts at ≡ Some act → int_eq act.0 number ≡ true → place_of number acts ≡ Some at
place_at [] number at act rise e same = cc
place_at (x ∷ xs) number zero act rise e same =
    ap (λ b. cond b (Some 0) (option_map (λ at. at + 1) (place_of number xs))) (ap (λ (a : Act). int_eq a.0 number) (same_Some x act e) ∙ same)
place_at (x ∷ xs) number (suc at) act rise e same =
    ap (λ b. cond b (Some 0) (option_map (λ at. at + 1) (place_of number xs))) (apart_by x.0 act.0 number (all_at x.0 xs at act (sorted_head int_cmp x.0 (keys_of xs) rise) e) same)
    ∙ (ap (option_map (λ at. at + 1)) (place_at xs number at act (sorted_tail int_cmp x.0 (keys_of xs) rise) e same)
    ∙ ap Some (omega arith))

-- where no act has the number it has no place
no_place : (acts : List Act) (number : ℤ) → ((k : ℕ) (d : Act) → k < length acts → int_eq (get_or acts k d).0 number ≡ false) → place_of number acts ≡ None
no_place [] number none = refl
no_place (x ∷ xs) number none =
    ap (λ b. cond b (Some 0) (option_map (λ at. at + 1) (place_of number xs))) (none 0 x (omega arith))
    ∙ ap (option_map (λ at. at + 1)) (no_place xs number (λ k d in_range. none (suc k) d (omega (arith, in_range))))

steps_up : (acts : List Act) → Rise acts → (k : ℕ) (d : Act) → suc k < length acts → is_lt (int_cmp (get_or acts (suc k) d).0 (get_or acts k d).0) ≡ false
steps_up [] rise k d high = absurd (omega (arith, high))
steps_up (x ∷ []) rise k d high = absurd (omega (arith, high))
steps_up (x ∷ y ∷ acts) rise zero d high = not_back x.0 y.0 (sorted_head int_cmp x.0 (keys_of (y ∷ acts)) rise).0
steps_up (x ∷ y ∷ acts) rise (suc k) d high = steps_up (y ∷ acts) (sorted_tail int_cmp x.0 (keys_of (y ∷ acts)) rise) k d (omega (arith, high))

next_up : (acts : List Act) → Rise acts → (k : ℕ) (d : Act) → 0 ≤ k → k + 1 < length acts → is_lt (int_cmp (get_or acts (k + 1) d).0 (get_or acts k d).0) ≡ false
next_up acts rise k d low high = subst (λ n. is_lt (int_cmp (get_or acts n d).0 (get_or acts k d).0) ≡ false) {x = suc k} (omega arith) (steps_up acts rise k d (omega (arith, high)))

-- a search by halves ends at the place of the number, where it has one
pub searched : (acts : List Act) (number : ℤ) (r : Result ℕ ℕ) → Rise acts → IsSearchInRange r (length acts) → IsBinarySearchResult (λ (act : Act). int_cmp act.0 number) acts r → result_ok r ≡ place_of number acts
searched acts number (Ok at) rise in_range equal =
    let d : Act = (number, []) in
    sym (place_at acts number at (get_or acts at d) rise (slice_get-get_or acts at d in_range) (equal_is (get_or acts at d).0 number (equal d)))
searched acts number (Err at) rise in_range parted =
    let parts = parted (searchable_from_sorted int_cmp_total (λ (act : Act). act.0) acts number (next_up acts rise)) in
    sym (no_place acts number (λ k d below. by_side k d below (parts.0 k d (omega arith)) (parts.1 k d)))
  where
    by_side : (k : ℕ) (d : Act) → k < length acts → (k < at → int_cmp (get_or acts k d).0 number ≡ Less) → (at ≤ k → k < length acts → int_cmp (get_or acts k d).0 number ≡ Greater) → int_eq (get_or acts k d).0 number ≡ false
    by_side k d below front back = elim (cases_lt k at) [
      | inl lower ↦ less_not_equal (get_or acts k d).0 number (front lower)
      | inr upper ↦ greater_not_equal (get_or acts k d).0 number (back upper below)
    ]

-- AT A PLACE

shifted : (o : Option ℕ) (at : ℕ) → option_map (λ at. at + 1) o ≡ Some (suc at) → o ≡ Some at
shifted None at e = cc
shifted (Some n) at e = ap Some (omega (arith, same_Some (n + 1) (suc at) e))

nowhere : (o : Option ℕ) → option_map (λ at. at + 1) o ≡ None → o ≡ None
nowhere None e = refl
nowhere (Some n) e = cc

not_first : (o : Option ℕ) → option_map (λ at. at + 1) o ≡ Some 0 → ⊥
not_first None e = cc
not_first (Some n) e = omega (arith, same_Some (n + 1) 0 e)

-- the text of the act at its place
pub text_at_place : (acts : List Act) (number : ℤ) (at : ℕ) (act : Act) → place_of number acts ≡ Some at → slice_get acts at ≡ Some act → text_of number acts ≡ Some act.1
text_at_place [] number at act e got = cc
text_at_place (x ∷ xs) number at act e got = by_test (int_eq x.0 number) at (λ n. text_at_place xs number n act) e got
  where
    by_test : (b : Bool) (at : ℕ) → ((n : ℕ) → place_of number xs ≡ Some n → slice_get xs n ≡ Some act → text_of number xs ≡ Some act.1) → cond b (Some 0) (option_map (λ at. at + 1) (place_of number xs)) ≡ Some at → slice_get (x ∷ xs) at ≡ Some act
        → cond b (Some x.1) (text_of number xs) ≡ Some act.1
    by_test true zero rest e got = ap (λ (a : Act). Some a.1) (same_Some x act got)
    by_test true (suc at) rest e got = cc
    by_test false zero rest e got = absurd (not_first (place_of number xs) e)
    by_test false (suc at) rest e got = rest at (shifted (place_of number xs) at e) got

-- a number that has no place has no text, and no act is taken out
pub text_nowhere : (acts : List Act) (number : ℤ) → place_of number acts ≡ None → text_of number acts ≡ None
text_nowhere [] number e = refl
text_nowhere (x ∷ xs) number e = by_test (int_eq x.0 number) (text_nowhere xs number) e
  where
    by_test : (b : Bool) → (place_of number xs ≡ None → text_of number xs ≡ None) → cond b (Some 0) (option_map (λ at. at + 1) (place_of number xs)) ≡ None
        → cond b (Some x.1) (text_of number xs) ≡ None
    by_test true rest e = cc
    by_test false rest e = rest (nowhere (place_of number xs) e)

pub out_nowhere : (acts : List Act) (number : ℤ) → place_of number acts ≡ None → without_number number acts ≡ acts
out_nowhere [] number e = refl
out_nowhere (x ∷ xs) number e = by_test (int_eq x.0 number) (out_nowhere xs number) e
  where
    by_test : (b : Bool) → (place_of number xs ≡ None → without_number number xs ≡ xs) → cond b (Some 0) (option_map (λ at. at + 1) (place_of number xs)) ≡ None
        → cond b xs (x ∷ without_number number xs) ≡ x ∷ xs
    by_test true rest e = cc
    by_test false rest e = ap (λ l. x ∷ l) (rest (nowhere (place_of number xs) e))

-- the acts without the one at its place
pub out_at_place : (acts : List Act) (number : ℤ) (at : ℕ) → place_of number acts ≡ Some at → without_number number acts ≡ remove acts at
out_at_place [] number at e = cc
out_at_place (x ∷ xs) number at e = by_test (int_eq x.0 number) at (out_at_place xs number) e
  where
    by_test : (b : Bool) (at : ℕ) → ((n : ℕ) → place_of number xs ≡ Some n → without_number number xs ≡ remove xs n)
        → cond b (Some 0) (option_map (λ at. at + 1) (place_of number xs)) ≡ Some at → cond b xs (x ∷ without_number number xs) ≡ remove (x ∷ xs) at
    by_test true zero rest e = refl
    by_test true (suc at) rest e = cc
    by_test false zero rest e = absurd (not_first (place_of number xs) e)
    by_test false (suc at) rest e = ap (λ l. x ∷ l) (rest at (shifted (place_of number xs) at e))

-- the place is one of the acts'
pub place_within : (acts : List Act) (number : ℤ) (at : ℕ) → place_of number acts ≡ Some at → at < length acts
place_within [] number at e = cc
place_within (x ∷ xs) number at e = by_test (int_eq x.0 number) at (place_within xs number) e
  where
    by_test : (b : Bool) (at : ℕ) → ((n : ℕ) → place_of number xs ≡ Some n → n < length xs)
        → cond b (Some 0) (option_map (λ at. at + 1) (place_of number xs)) ≡ Some at → at < length (x ∷ xs)
    by_test true zero rest e = omega arith
    by_test true (suc at) rest e = cc
    by_test false zero rest e = absurd (not_first (place_of number xs) e)
    by_test false (suc at) rest e = omega (arith, rest at (shifted (place_of number xs) at e))

-- the numbers still rise without one
pub rise_without : (acts : List Act) (number : ℤ) → Rise acts → Rise (without_number number acts)
unfolding IsStrictlySortedBy
rise_without [] number rise = tt
rise_without (x ∷ xs) number rise = by_test (int_eq x.0 number) (rise_without xs number rise.1)
  where
    all_less : (ys : List Act) → AllByRecursion (λ k. int_cmp x.0 k ≡ Less) (keys_of ys) → AllByRecursion (λ k. int_cmp x.0 k ≡ Less) (keys_of (without_number number ys))
    all_less [] all = tt
    all_less (y ∷ ys) all = of_test (int_eq y.0 number) (all_less ys all.1)
      where
        of_test : (b : Bool) → AllByRecursion (λ k. int_cmp x.0 k ≡ Less) (keys_of (without_number number ys)) → AllByRecursion (λ k. int_cmp x.0 k ≡ Less) (keys_of (cond b ys (y ∷ without_number number ys)))
        of_test true rest = all.1
        of_test false rest = (all.0, rest)

    by_test : (b : Bool) → Rise (without_number number xs) → Rise (cond b xs (x ∷ without_number number xs))
    by_test true rest = rise.1
    by_test false rest = (all_less xs rise.0, rest)
