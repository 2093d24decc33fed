-- Lines none of which is bad against those before it, put together from parts.
use Rattle.std.proofs.Common.{◌≡◌, ℕ, zero, suc, ◌+◌, ◌<◌, Bool, false, List, [], ◌∷◌, ◌++◌, map, refl, sym, subst, ap, ◌∙◌, append_assoc, append-nil, arith}
use Rattle.std.proofs.lemmas.Bool.{or_from, or_parts}
use Rattle.std.proofs.lemmas.List.{map-append}
use Rattle.sg_lists.proofs.Each.{EachOf}
use Rattle.sg_streams.proofs.NumberLists.{numbers_below-none, numbers_below-push}
use Rattle.sg_streams.specs.Numbers.{numbers_below}
use Rattle.sg_check.specs.Verdict.{late}

-- no line is bad against those before it: the first list stands before all of them
abbrev pub Good : {A : Type 0} → (List A → A → Bool) → List A → List A → Type 0
Good bad before lines = late bad before lines ≡ false

pub good-append : {A : Type 0} (bad : List A → A → Bool) (before xs ys : List A) → Good bad before xs → Good bad (before ++ xs) ys → Good bad before (xs ++ ys)
good-append {A} bad before [] ys here behind = subst (λ (l : List A). Good bad l ys) (append-nil before) behind
good-append {A} bad before (x ∷ xs) ys here behind =
    let parts = or_parts (bad before x) (late bad (before ++ x ∷ []) xs) here in
    or_from (bad before x) (late bad (before ++ x ∷ []) (xs ++ ys)) parts.0
    (good-append bad (before ++ x ∷ []) xs ys parts.1 (subst (λ (l : List A). Good bad l ys) (sym (append_assoc before (x ∷ []) xs)) behind))

pub good-one : {A : Type 0} (bad : List A → A → Bool) (before : List A) (x : A) → bad before x ≡ false → Good bad before (x ∷ [])
good-one bad before x good = or_from (bad before x) false good refl

-- items that are made number by number, each good behind those before it
pub good-numbers : {A : Type 0} (bad : List A → A → Bool) (before : List A) (f : ℕ → A) (count : ℕ)
    → ((k : ℕ) → k < count → bad (before ++ map f (numbers_below k)) (f k) ≡ false) → Good bad before (map f (numbers_below count))
good-numbers bad before f zero good = ap (λ (l : List ℕ). late bad before (map f l)) numbers_below-none
good-numbers {A} bad before f (suc count) good =
    let next : suc count ≡ count + 1 = omega arith in
    subst (λ (l : List A). Good bad before l) (sym (ap (λ (n : ℕ). map f (numbers_below n)) next ∙ (ap (map f) (numbers_below-push count) ∙ map-append f (numbers_below count) (count ∷ []))))
    (good-append bad before (map f (numbers_below count)) (f count ∷ []) (good-numbers bad before f count (λ k below. good k (omega (arith, below))))
    (good-one bad (before ++ map f (numbers_below count)) (f count) (good count (omega arith))))

-- items that are never bad
pub good-never : {A : Type 0} (bad : List A → A → Bool) (before xs : List A) → EachOf (λ (x : A). (front : List A) → bad front x ≡ false) xs → Good bad before xs
good-never bad before [] all = refl
good-never bad before (x ∷ xs) all = or_from (bad before x) (late bad (before ++ x ∷ []) xs) (all.0 before) (good-never bad (before ++ x ∷ []) xs all.1)
