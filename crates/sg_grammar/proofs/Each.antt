-- Lists of lists, numbered one after another.
use Rattle.std.proofs.Common.{◌≡◌, ℕ, zero, suc, ◌+◌, ◌-◌, ◌<◌, ◌≤◌, List, [], ◌∷◌, ◌++◌, refl, ap, ◌∙◌, append_assoc, arith}
use Rattle.sg_grammar.specs.Due.{numbered}

-- there is nothing from the end on
pub each-none : {A : Type 0} (f : ℕ → List A) (at end : ℕ) → end ≤ at → numbered f at (end - at) ≡ []
unfolding numbered
each-none f at end h =
    let e : end - at ≡ 0 = omega arith in
    rw e refl

-- the first of the lists, and then the others
pub each-first : {A : Type 0} (f : ℕ → List A) (at end : ℕ) → at < end → numbered f at (end - at) ≡ f at ++ numbered f (at + 1) (end - (at + 1))
unfolding numbered
each-first f at end h =
    let e : end - at ≡ suc (end - (at + 1)) = omega arith in
    rw e refl

-- the first of the lists has an item, behind which the others come
pub each-enter : {A : Type 0} (f : ℕ → List A) (at end : ℕ) (x : A) (xs rest : List A) → at < end → f at ≡ x ∷ xs → numbered f at (end - at) ++ rest ≡ x ∷ (xs ++ (numbered f (at + 1) (end - (at + 1)) ++ rest))
each-enter f at end x xs rest h e = rw (each-first f at end h, e) (ap (λ l. x ∷ l) (append_assoc xs (numbered f (at + 1) (end - (at + 1))) rest))

-- the first of the lists has an item: the others come behind it
pub each-begins : {A : Type 0} (f : ℕ → List A) (at end : ℕ) (x : A) (xs : List A) → at < end → f at ≡ x ∷ xs → numbered f at (end - at) ≡ x ∷ (xs ++ numbered f (at + 1) (end - (at + 1)))
each-begins f at end x xs h e = rw (each-first f at end h, e) refl

-- nothing is left of the lists: what follows them comes
pub each-over : {A : Type 0} (f : ℕ → List A) (at end : ℕ) (rest : List A) → end ≤ at → numbered f at (end - at) ++ rest ≡ rest
each-over f at end rest h = rw (each-none f at end h) refl

-- lists of lists: the first of the first has an item
pub each-enter_two : {A : Type 0} (f g : ℕ → List A) (at end from to : ℕ) (x : A) (xs rest : List A) → at < end → from < to → f at ≡ numbered g from (to - from) → g from ≡ x ∷ xs → numbered f at (end - at) ++ rest ≡ x ∷ (xs ++ (numbered g (from + 1) (to - (from + 1)) ++ (numbered f (at + 1) (end - (at + 1)) ++ rest)))
each-enter_two f g at end from to x xs rest h k e d =
    each-enter f at end x (xs ++ numbered g (from + 1) (to - (from + 1))) rest h (e ∙ each-begins g from to x xs k d)
    ∙ ap (λ l. x ∷ l) (append_assoc xs (numbered g (from + 1) (to - (from + 1))) (numbered f (at + 1) (end - (at + 1)) ++ rest))

-- the lists before this number have nothing
pub each-skip : {A : Type 0} (f : ℕ → List A) (from count to end : ℕ) → from + count ≡ to → to ≤ end → ((k : ℕ) → from ≤ k → k < to → f k ≡ []) → numbered f from (end - from) ≡ numbered f to (end - to)
each-skip f from zero to end e h empty = let same : from ≡ to = omega arith in rw same refl
each-skip f from (suc count) to end e h empty =
    rw (each-first f from end (omega arith), empty from (omega arith) (omega arith)) (each-skip f (from + 1) count to end (omega arith) h (λ k a b. empty k (omega arith) b))

-- no list from this number on has anything
pub each-empty : {A : Type 0} (f : ℕ → List A) (from count end : ℕ) → count ≡ end - from → ((k : ℕ) → from ≤ k → k < end → f k ≡ []) → numbered f from (end - from) ≡ []
each-empty f from zero end e empty = each-none f from end (omega arith)
each-empty f from (suc count) end e empty =
    rw (each-first f from end (omega arith), empty from (omega arith) (omega arith)) (each-empty f (from + 1) count end (omega arith) (λ k a b. empty k (omega arith) b))
