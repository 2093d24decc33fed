-- Acts in blocks: the acts of all, the one block that may have a number, and one more act or less.
use Rattle.std.proofs.Common.{◌≡◌, ℕ, zero, suc, ◌+◌, ◌-◌, ◌<◌, length, take, drop, Bool, true, false, cond, ℤ, int_le, int_lt, List, [], ◌∷◌, ◌++◌, Some, None, Result, Ok, Err, OnOk, Less, refl, ap, sym, subst, ◌∙◌, arith}
use Rattle.std.proofs.lemmas.Int.{ints}
use Rattle.std.proofs.lemmas.Map.Keys.{sorted_head, sorted_tail}
use Rattle.std.specs.List.{AllByRecursion, slice_get, slice_set}
use Rattle.std.specs.List.Sorted.{IsStrictlySortedBy}
use Rattle.std.specs.Map.{keys_of}
use Rattle.std.specs.Ordering.{int_cmp, int_eq}
use Rattle.std.proofs.lemmas.Option.{same_Some}
use Rattle.sg_lists.proofs.Integers.{higher_differs}
use Rattle.sg_office.specs.inside.Runs.{Act, IsOnlyIn, Rise, are_below, flat, text_of, without_number}
use Rattle.sg_office.proofs.Gathered.{joined}
use Rattle.sg_office.proofs.Numbers.{below_last}

-- PARTS

pub flat_both : (front rest : List (List Act)) → flat (front ++ rest) ≡ flat front ++ flat rest
flat_both [] rest = refl
flat_both (x ∷ xs) rest = ap (λ l. x ++ l) (flat_both xs rest) ∙ sym (joined x (flat xs) (flat rest))

-- the acts before a block, its own, and those behind it
pub flat_at : (blocks : List (List Act)) (at : ℕ) (block : List Act) → slice_get blocks at ≡ Some block → flat blocks ≡ flat (take at blocks) ++ (block ++ flat (drop (suc at) blocks))
flat_at [] at block e = cc
flat_at (b ∷ bs) zero block e = ap (λ l. l ++ flat bs) (same_Some b block e)
flat_at (b ∷ bs) (suc at) block e = ap (λ l. b ++ l) (flat_at bs at block e) ∙ sym (joined b (flat (take at bs)) (block ++ flat (drop (suc at) bs)))

-- the same with another block in its place
pub flat_set : (blocks : List (List Act)) (at : ℕ) (block new : List Act) → slice_get blocks at ≡ Some block → flat (slice_set blocks at new) ≡ flat (take at blocks) ++ (new ++ flat (drop (suc at) blocks))
flat_set [] at block new e = cc
flat_set (b ∷ bs) zero block new e = refl
flat_set (b ∷ bs) (suc at) block new e = ap (λ l. b ++ l) (flat_set bs at block new e) ∙ sym (joined b (flat (take at bs)) (new ++ flat (drop (suc at) bs)))

drop_at : (blocks : List (List Act)) (at : ℕ) (block : List Act) → slice_get blocks at ≡ Some block → drop at blocks ≡ block ∷ drop (suc at) blocks
drop_at [] at block e = cc
drop_at (b ∷ bs) zero block e = ap (λ l. l ∷ bs) (same_Some b block e)
drop_at (b ∷ bs) (suc at) block e = drop_at bs at block e

-- both parts of acts whose numbers rise
rise_front : (front rest : List Act) → Rise (front ++ rest) → Rise front
unfolding IsStrictlySortedBy
rise_front [] rest rise = tt
rise_front (x ∷ xs) rest rise = (all_front xs rise.0, rise_front xs rest rise.1)
  where
    all_front : (ys : List Act) → AllByRecursion (λ k. int_cmp x.0 k ≡ Less) (keys_of (ys ++ rest)) → AllByRecursion (λ k. int_cmp x.0 k ≡ Less) (keys_of ys)
    all_front [] all = tt
    all_front (y ∷ ys) all = (all.0, all_front ys all.1)

rise_behind : (front rest : List Act) → Rise (front ++ rest) → Rise rest
rise_behind [] rest rise = rise
rise_behind (x ∷ xs) rest rise = rise_behind xs rest (sorted_tail int_cmp x.0 (keys_of (xs ++ rest)) rise)

-- the numbers of each block rise
pub rise_at : (blocks : List (List Act)) (at : ℕ) (block : List Act) → Rise (flat blocks) → slice_get blocks at ≡ Some block → Rise block
rise_at blocks at block rise e =
    rise_front block (flat (drop (suc at) blocks)) (rise_behind (flat (take at blocks)) (block ++ flat (drop (suc at) blocks)) (subst Rise (flat_at blocks at block e) rise))

-- TEXTS

-- a number that none of the first acts has, or none of the others
text_behind : (number : ℤ) (front rest : List Act) → text_of number front ≡ None → text_of number (front ++ rest) ≡ text_of number rest
text_behind number [] rest none = refl
text_behind number (x ∷ xs) rest none = by_test (int_eq x.0 number) (text_behind number xs rest) none
  where
    by_test : (b : Bool) → (text_of number xs ≡ None → text_of number (xs ++ rest) ≡ text_of number rest) → cond b (Some x.1) (text_of number xs) ≡ None
        → cond b (Some x.1) (text_of number (xs ++ rest)) ≡ text_of number rest
    by_test true others none = cc
    by_test false others none = others none

text_front : (number : ℤ) (front rest : List Act) → text_of number rest ≡ None → text_of number (front ++ rest) ≡ text_of number front
text_front number [] rest none = none
text_front number (x ∷ xs) rest none = ap (λ o. cond (int_eq x.0 number) (Some x.1) o) (text_front number xs rest none)

-- the text is that in the only block that may have it
pub text_only : (number : ℤ) (blocks : List (List Act)) (at : ℕ) (block : List Act) → IsOnlyIn number blocks at → slice_get blocks at ≡ Some block → text_of number (flat blocks) ≡ text_of number block
text_only number blocks at block only e =
    ap (text_of number) (flat_at blocks at block e)
    ∙ (text_behind number (flat (take at blocks)) (block ++ flat (drop (suc at) blocks)) only.not_before
    ∙ text_front number block (flat (drop (suc at) blocks)) only.not_behind)

-- where none has the number
pub out_none : (number : ℤ) (acts : List Act) → text_of number acts ≡ None → without_number number acts ≡ acts
out_none number [] none = refl
out_none number (x ∷ xs) none = by_test (int_eq x.0 number) (out_none number xs) none
  where
    by_test : (b : Bool) → (text_of number xs ≡ None → without_number number xs ≡ xs) → cond b (Some x.1) (text_of number xs) ≡ None → cond b xs (x ∷ without_number number xs) ≡ x ∷ xs
    by_test true others none = cc
    by_test false others none = ap (λ l. x ∷ l) (others none)

out_behind : (number : ℤ) (front rest : List Act) → text_of number front ≡ None → without_number number (front ++ rest) ≡ front ++ without_number number rest
out_behind number [] rest none = refl
out_behind number (x ∷ xs) rest none = by_test (int_eq x.0 number) (out_behind number xs rest) none
  where
    by_test : (b : Bool) → (text_of number xs ≡ None → without_number number (xs ++ rest) ≡ xs ++ without_number number rest) → cond b (Some x.1) (text_of number xs) ≡ None
        → cond b (xs ++ rest) (x ∷ without_number number (xs ++ rest)) ≡ x ∷ xs ++ without_number number rest
    by_test true others none = cc
    by_test false others none = ap (λ l. x ∷ l) (others none)

out_front : (number : ℤ) (front rest : List Act) → text_of number rest ≡ None → without_number number (front ++ rest) ≡ without_number number front ++ rest
out_front number [] rest none = out_none number rest none
out_front number (x ∷ xs) rest none = by_test (int_eq x.0 number) (out_front number xs rest none)
  where
    by_test : (b : Bool) → without_number number (xs ++ rest) ≡ without_number number xs ++ rest → cond b (xs ++ rest) (x ∷ without_number number (xs ++ rest)) ≡ cond b xs (x ∷ without_number number xs) ++ rest
    by_test true others = refl
    by_test false others = ap (λ l. x ∷ l) others

-- the acts without the one that the only block may have
pub out_only : (number : ℤ) (blocks : List (List Act)) (at : ℕ) (block : List Act) → IsOnlyIn number blocks at → slice_get blocks at ≡ Some block
    → flat (slice_set blocks at (without_number number block)) ≡ without_number number (flat blocks)
out_only number blocks at block only e =
    flat_set blocks at block (without_number number block) e
    ∙ sym (ap (without_number number) (flat_at blocks at block e)
    ∙ (out_behind number (flat (take at blocks)) (block ++ flat (drop (suc at) blocks)) only.not_before
    ∙ ap (λ l. flat (take at blocks) ++ l) (out_front number block (flat (drop (suc at) blocks)) only.not_behind)))

-- FROM THE LAST BLOCK ON

pub not_below : (a b : ℤ) → int_le a b ≡ true → int_lt b a ≡ false
not_below a b e = grind (arith, ints, e)

pub not_above : (a b : ℤ) → int_le a b ≡ false → int_lt b a ≡ true
not_above a b e = grind (arith, ints, e)

higher_not_equal : (a b c : ℤ) → int_lt c a ≡ true → int_cmp a b ≡ Less → int_eq b c ≡ false
higher_not_equal a b c e f = grind (arith, ints, e, f)

lower_not_equal : (a b c : ℤ) → int_cmp a b ≡ Less → int_lt c b ≡ false → int_eq a c ≡ false
lower_not_equal a b c e f = grind (arith, ints, e, f)

-- a number below the first act is no act's
none_higher : (number : ℤ) (acts : List Act) (first : Act) → Rise acts → slice_get acts 0 ≡ Some first → int_lt number first.0 ≡ true → text_of number acts ≡ None
none_higher number [] first rise e lower = cc
none_higher number (x ∷ xs) first rise e lower =
    ap (λ b. cond b (Some x.1) (text_of number xs)) (higher_differs x.0 number is_lower) ∙ all_higher xs (sorted_head int_cmp x.0 (keys_of xs) rise)
  where
    is_lower : int_lt number x.0 ≡ true
    is_lower = ap (λ (a : Act). int_lt number a.0) (same_Some x first e) ∙ lower

    all_higher : (ys : List Act) → AllByRecursion (λ k. int_cmp x.0 k ≡ Less) (keys_of ys) → text_of number ys ≡ None
    all_higher [] all = refl
    all_higher (y ∷ ys) all = ap (λ b. cond b (Some y.1) (text_of number ys)) (higher_not_equal x.0 y.0 number is_lower all.0) ∙ all_higher ys all.1

-- a number that isn't below an act is not that of those before it
none_lower : (number : ℤ) (front : List Act) (first : Act) (rest : List Act) → Rise (front ++ first ∷ rest) → int_lt number first.0 ≡ false → text_of number front ≡ None
none_lower number [] first rest rise higher = refl
none_lower number (x ∷ xs) first rest rise higher =
    ap (λ b. cond b (Some x.1) (text_of number xs)) (lower_not_equal x.0 first.0 number (at_first xs (sorted_head int_cmp x.0 (keys_of (xs ++ first ∷ rest)) rise)) higher)
    ∙ none_lower number xs first rest (sorted_tail int_cmp x.0 (keys_of (xs ++ first ∷ rest)) rise) higher
  where
    at_first : (ys : List Act) → AllByRecursion (λ k. int_cmp x.0 k ≡ Less) (keys_of (ys ++ first ∷ rest)) → int_cmp x.0 first.0 ≡ Less
    at_first [] all = all.0
    at_first (y ∷ ys) all = at_first ys all.1

first_of : (acts : List Act) (first : Act) → slice_get acts 0 ≡ Some first → acts ≡ first ∷ drop 1 acts
first_of [] first e = cc
first_of (x ∷ xs) first e = ap (λ a. a ∷ xs) (same_Some x first e)

-- a block whose first number isn't above this one is the only one that may have it, where none behind has it
pub only_here : (number : ℤ) (blocks : List (List Act)) (at : ℕ) (block : List Act) (first : Act) → Rise (flat blocks) → at < length blocks → slice_get blocks at ≡ Some block
    → slice_get block 0 ≡ Some first → int_lt number first.0 ≡ false → text_of number (flat (drop (suc at) blocks)) ≡ None → IsOnlyIn number blocks at
only_here number blocks at block first rise in_range e first_is higher none = record {
  in_range = in_range;
  not_before = none_lower number (flat (take at blocks)) first (drop 1 block ++ flat (drop (suc at) blocks))
      (subst (λ l. Rise (flat (take at blocks) ++ (l ++ flat (drop (suc at) blocks)))) (first_of block first first_is) (subst Rise (flat_at blocks at block e) rise)) higher;
  not_behind = none;
}

-- one more block that hasn't the number
pub none_in : (number : ℤ) (blocks : List (List Act)) (at : ℕ) (block : List Act) → slice_get blocks at ≡ Some block → text_of number block ≡ None → text_of number (flat (drop (suc at) blocks)) ≡ None
    → text_of number (flat (drop at blocks)) ≡ None
none_in number blocks at block e here behind =
    ap (λ l. text_of number (flat l)) (drop_at blocks at block e) ∙ (text_behind number block (flat (drop (suc at) blocks)) here ∙ behind)

-- one whose first number is above
pub none_above : (number : ℤ) (blocks : List (List Act)) (at : ℕ) (block : List Act) (first : Act) → Rise (flat blocks) → slice_get blocks at ≡ Some block → slice_get block 0 ≡ Some first
    → int_lt number first.0 ≡ true → text_of number (flat (drop (suc at) blocks)) ≡ None → text_of number (flat (drop at blocks)) ≡ None
none_above number blocks at block first rise e first_is lower behind =
    none_in number blocks at block e (none_higher number block first (rise_at blocks at block rise e) first_is lower) behind

nothing_behind : (acts : List Act) → acts ++ [] ≡ acts
nothing_behind [] = refl
nothing_behind (x ∷ xs) = ap (λ l. x ∷ l) (nothing_behind xs)

-- the last act of the last block that has one is the last of all
pub below_end : (number : ℤ) (blocks : List (List Act)) (at : ℕ) (block : List Act) (last : Act) → Rise (flat blocks) → slice_get blocks at ≡ Some block → slice_get block (length block - 1) ≡ Some last
    → flat (drop (suc at) blocks) ≡ [] → are_below number (flat blocks) ≡ int_lt last.0 number
below_end number blocks at block last rise e last_is behind = ap (are_below number) shape ∙ of_block block last_is (subst Rise shape rise)
  where
    shape : flat blocks ≡ flat (take at blocks) ++ block
    shape = flat_at blocks at block e ∙ ap (λ l. flat (take at blocks) ++ l) (ap (λ l. block ++ l) behind ∙ nothing_behind block)

    of_block : (acts : List Act) → slice_get acts (length acts - 1) ≡ Some last → Rise (flat (take at blocks) ++ acts) → are_below number (flat (take at blocks) ++ acts) ≡ int_lt last.0 number
    of_block [] e rise = cc
    of_block (x ∷ xs) e rise =
        below_last (flat (take at blocks)) (x ∷ xs) (length xs) number last rise (subst (λ n. slice_get (x ∷ xs) n ≡ Some last) {x = length (x ∷ xs) - 1} (omega arith) e) (omega arith)

-- ONE MORE ACT

last_with : (blocks : List (List Act)) (n : ℕ) (block : List Act) (act : Act) → slice_get blocks n ≡ Some block → length blocks ≡ n + 1 → flat (slice_set blocks n (block ++ act ∷ [])) ≡ flat blocks ++ act ∷ []
last_with [] n block act e many = cc
last_with (b ∷ []) zero block act e many =
    nothing_behind (block ++ act ∷ []) ∙ ap (λ l. l ++ act ∷ []) (sym (same_Some b block e) ∙ sym (nothing_behind b))
last_with (b ∷ []) (suc n) block act e many = cc
last_with (b ∷ c ∷ bs) zero block act e many = absurd (omega (arith, many))
last_with (b ∷ c ∷ bs) (suc n) block act e many = ap (λ l. b ++ l) (last_with (c ∷ bs) n block act e (omega (arith, many))) ∙ sym (joined b (flat (c ∷ bs)) (act ∷ []))

-- the last block with one more act, where there is memory
pub pushed_last : {A B : Type 0} (r : Result A B) (blocks : List (List Act)) (n : ℕ) (block new : List Act) (act : Act) → slice_get blocks n ≡ Some block → length blocks ≡ n + 1
    → OnOk r (new ≡ block ++ act ∷ []) → OnOk r (flat (slice_set blocks n new) ≡ flat blocks ++ act ∷ [])
pushed_last (Err f) blocks n block new act e many new_is = tt
pushed_last (Ok a) blocks n block new act e many new_is = ap (λ l. flat (slice_set blocks n l)) new_is ∙ last_with blocks n block act e many

-- a new block with one act
pub pushed_block : (blocks : List (List Act)) (act : Act) → flat (blocks ++ (act ∷ []) ∷ []) ≡ flat blocks ++ act ∷ []
pushed_block blocks act = flat_both blocks ((act ∷ []) ∷ [])
