-- Lists that are judged item by item.
use Rattle.std.proofs.Common.{◌≡◌, ℕ, zero, suc, ◌<◌, ◌≤◌, ◌≢◌, Bool, true, false, ◌&&◌, cond, List, [], ◌∷◌, ◌++◌, length, take, get_or, Some, None, refl, sym, ap, ◌∙◌, arith, bytes_eq}
use Rattle.std.specs.List.{list_any}
use Rattle.std.specs.Option.{is_none}
use Rattle.std.proofs.lemmas.Bool.{and_from, and_parts, false_from_ne_true, true≢false}
use Rattle.std.proofs.lemmas.List.{append_assoc, append-nil, get_or-take, length-take-le}
use Rattle.std.proofs.lemmas.List.Elements.{All-from_get_or}
use Rattle.std.proofs.lemmas.List.Folds.{list_any_at, list_any_none}
use Rattle.std.proofs.lemmas.Slice.Eq.{bytes_eq-Decides}
use Rattle.sg_lists.proofs.Options.{is_none-true}
use Rattle.sg_plan.specs.Limits.{each_keeps, first_bad, first_fault}

-- a list that has an item is judged from its first one on
pub judged_from_first : {X : Type 0} (keeps : List X → X → Bool) (xs : List X) → 0 < length xs → first_fault keeps xs ≡ first_bad keeps [] xs
judged_from_first keeps [] some = absurd (omega arith)
judged_from_first keeps (x ∷ xs) some = refl

-- a list that has none is at fault
pub none_at_fault : {X : Type 0} (keeps : List X → X → Bool) (xs : List X) → length xs ≡ 0 → first_fault keeps xs ≡ Some 0
none_at_fault keeps [] none = refl
none_at_fault keeps (x ∷ xs) none = absurd (omega arith)

pub ruleset judged = (judged_from_first, none_at_fault)

-- no item is at fault exactly where each one passes
pub first_bad-each : {X : Type 0} (keeps : List X → X → Bool) (earlier xs : List X) → is_none (first_bad keeps earlier xs) ≡ each_keeps keeps earlier xs
first_bad-each keeps earlier [] = refl
first_bad-each keeps earlier (x ∷ xs) =
    let rest = first_bad-each keeps (earlier ++ x ∷ []) xs in
    elim (keeps earlier x) as (λ b. is_none (cond b (first_bad keeps (earlier ++ x ∷ []) xs) (Some (length earlier))) ≡ (b && each_keeps keeps (earlier ++ x ∷ []) xs)) [
      | true ↦ rest
      | false ↦ refl
    ]

-- one more item at the end of the list
pub each_keeps-push : {X : Type 0} (keeps : List X → X → Bool) (earlier xs : List X) (y : X)
    → each_keeps keeps earlier (xs ++ y ∷ []) ≡ (each_keeps keeps earlier xs && keeps (earlier ++ xs) y)
each_keeps-push keeps earlier [] y =
    rw (append-nil earlier) (elim (keeps earlier y) as (λ b. (b && true) ≡ b) [ true ↦ refl | false ↦ refl ])
each_keeps-push keeps earlier (x ∷ xs) y =
    let ih = each_keeps-push keeps (earlier ++ x ∷ []) xs y in
    let joined : (earlier ++ x ∷ []) ++ xs ≡ earlier ++ (x ∷ xs) = append_assoc earlier (x ∷ []) xs in
    elim (keeps earlier x) as (λ b. (b && each_keeps keeps (earlier ++ x ∷ []) (xs ++ y ∷ [])) ≡ ((b && each_keeps keeps (earlier ++ x ∷ []) xs) && keeps (earlier ++ (x ∷ xs)) y)) [
      | true ↦ ih ∙ ap (λ l. each_keeps keeps (earlier ++ x ∷ []) xs && keeps l y) joined
      | false ↦ refl
    ]

-- a list without a fault has an item, and each one passes
pub first_fault-None : {X : Type 0} (keeps : List X → X → Bool) (xs : List X) → first_fault keeps xs ≡ None → (1 ≤ length xs) × (each_keeps keeps [] xs ≡ true)
first_fault-None keeps [] e = cc
first_fault-None keeps (x ∷ xs) e = (omega arith, sym (first_bad-each keeps [] (x ∷ xs)) ∙ ap is_none e)

-- a list of items that pass has no fault
pub None-first_fault : {X : Type 0} (keeps : List X → X → Bool) (xs : List X) → 1 ≤ length xs → each_keeps keeps [] xs ≡ true → first_fault keeps xs ≡ None
None-first_fault keeps [] some e = absurd (omega arith)
None-first_fault keeps (x ∷ xs) some e = is_none-true (first_bad keeps [] (x ∷ xs)) (first_bad-each keeps [] (x ∷ xs) ∙ e)

-- the item at each place passes
pub each_keeps-at : {X : Type 0} (keeps : List X → X → Bool) (earlier xs : List X) → each_keeps keeps earlier xs ≡ true
    → (k : ℕ) (d : X) → k < length xs → keeps (earlier ++ take k xs) (get_or xs k d) ≡ true
each_keeps-at keeps earlier [] e k d within = absurd (omega arith)
each_keeps-at keeps earlier (x ∷ xs) e zero d within =
    rw (append-nil earlier) (and_parts (keeps earlier x) (each_keeps keeps (earlier ++ x ∷ []) xs) e).0
each_keeps-at keeps earlier (x ∷ xs) e (suc k) d within =
    let ih = each_keeps-at keeps (earlier ++ x ∷ []) xs (and_parts (keeps earlier x) (each_keeps keeps (earlier ++ x ∷ []) xs) e).1 k d (omega arith) in
    let joined : (earlier ++ x ∷ []) ++ take k xs ≡ earlier ++ (x ∷ take k xs) = append_assoc earlier (x ∷ []) (take k xs) in
    rw (← joined) ih

-- where the item at each place passes, all do
pub each_keeps-from : {X : Type 0} (keeps : List X → X → Bool) (earlier xs : List X)
    → ((k : ℕ) (d : X) → k < length xs → keeps (earlier ++ take k xs) (get_or xs k d) ≡ true) → each_keeps keeps earlier xs ≡ true
each_keeps-from keeps earlier [] h = refl
each_keeps-from keeps earlier (x ∷ xs) h =
    let first : keeps earlier x ≡ true = rw (append-nil earlier) at (h 0 x (omega arith)) in
    and_from (keeps earlier x) (each_keeps keeps (earlier ++ x ∷ []) xs) first
    (each_keeps-from keeps (earlier ++ x ∷ []) xs
    (λ k d within. rw (append_assoc earlier (x ∷ []) (take k xs)) (h (suc k) d (omega arith))))

-- a list has no more than `most` items, if each place is below `most`
pub few_places : {X : Type 0} (xs : List X) (most : ℕ) → ((k : ℕ) (d : X) → k < length xs → length (take k xs) < most) → length xs ≤ most
few_places [] most h = omega arith
few_places (x ∷ xs) most h =
    let last = h (length xs) x (omega arith) in
    let long = length-take-le (length xs) (x ∷ xs) (omega arith) in
    omega (arith, last, long)

-- a name that no earlier item has is none of theirs
pub names_differ : {X : Type 0} (name : X → List ℕ) (xs : List X) (i j : ℕ) (d : X) → i < j → j < length xs
    → list_any (λ x. bytes_eq (name x) (name (get_or xs j d))) (take j xs) ≡ false → name (get_or xs i d) ≢ name (get_or xs j d)
names_differ {X} name xs i j d before within none same =
    let test : X → Bool = λ x. bytes_eq (name x) (name (get_or xs j d)) in
    let long = length-take-le j xs (omega arith) in
    let here : test (get_or (take j xs) i d) ≡ true
    = ap test (get_or-take j xs i d before) ∙ (bytes_eq-Decides (name (get_or xs i d)) (name (get_or xs j d))).1 same in
    true≢false (sym (list_any_at test (take j xs) i d (omega arith) here) ∙ none)

-- and where it is none of theirs, no earlier item has it
pub names_new : {X : Type 0} (name : X → List ℕ) (xs : List X) (j : ℕ) (d : X) → j < length xs
    → ((i : ℕ) → i < j → name (get_or xs i d) ≢ name (get_or xs j d)) → list_any (λ x. bytes_eq (name x) (name (get_or xs j d))) (take j xs) ≡ false
names_new {X} name xs j d within differ =
    let test : X → Bool = λ x. bytes_eq (name x) (name (get_or xs j d)) in
    let long = length-take-le j xs (omega arith) in
    list_any_none test (take j xs) (All-from_get_or (λ x. test x ≡ false) (take j xs) d (λ i less.
    let below : i < j = omega arith in
    ap test (get_or-take j xs i d below)
    ∙ false_from_ne_true (test (get_or xs i d)) (λ e. differ i below ((bytes_eq-Decides (name (get_or xs i d)) (name (get_or xs j d))).0 e))))
