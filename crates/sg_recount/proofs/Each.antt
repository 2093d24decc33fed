-- Lists that are made number by number.
use Rattle.std.proofs.Common.{◌≡◌, ℕ, zero, suc, ◌+◌, ◌-◌, Bool, true, false, cond, ◌<◌, List, [], ◌∷◌, ◌++◌, length, slice_index_or, refl, sym, ap, ◌∙◌, append_assoc, append-nil, arith}
use Rattle.sg_check.specs.Printings.{count_below}
use Rattle.sg_grammar.specs.Due.{each, numbered}

numbered_more : {A : Type 0} (f : ℕ → List A) (at count : ℕ) → numbered f at (count + 1) ≡ numbered f at count ++ f (at + count)
unfolding numbered
numbered_more f at zero = let same : at ≡ at + 0 = omega arith in append-nil (f at) ∙ ap f same
numbered_more f at (suc count) =
    let same : (at + 1) + count ≡ at + suc count = omega arith in
    let next : suc count + 1 ≡ suc (count + 1) = omega arith in
    ap (numbered f at) next ∙ (ap (λ l. f at ++ l) (numbered_more f (at + 1) count) ∙ (sym (append_assoc (f at) (numbered f (at + 1) count) (f ((at + 1) + count))) ∙ ap (λ n. (f at ++ numbered f (at + 1) count) ++ f n) same))

pub each_none : {A : Type 0} (f : ℕ → List A) → each f 0 0 ≡ []
unfolding numbered
each_none f = refl

pub each_more : {A : Type 0} (f : ℕ → List A) (n : ℕ) → each f 0 (n + 1) ≡ each f 0 n ++ f n
each_more f n =
    let one : (n + 1) - 0 ≡ (n - 0) + 1 = omega arith in
    let same : 0 + (n - 0) ≡ n = omega arith in
    ap (numbered f 0) one ∙ (numbered_more f 0 (n - 0) ∙ ap (λ k. numbered f 0 (n - 0) ++ f k) same)

-- one more is put where the test passes, and else none
pub each_passes_on : (test : ℕ → Bool) (n : ℕ) (old new : List ℕ) → old ≡ each (λ k. cond (test k) (k ∷ []) []) 0 n → test n ≡ true → new ≡ old ++ n ∷ [] → new ≡ each (λ k. cond (test k) (k ∷ []) []) 0 (n + 1)
each_passes_on test n old new is passes grown =
    grown ∙ (ap (λ l. l ++ n ∷ []) is ∙ sym (each_more (λ k. cond (test k) (k ∷ []) []) n ∙ ap (λ b. each (λ k. cond (test k) (k ∷ []) []) 0 n ++ cond b (n ∷ []) []) passes))

pub each_fails_on : (test : ℕ → Bool) (n : ℕ) (old : List ℕ) → old ≡ each (λ k. cond (test k) (k ∷ []) []) 0 n → test n ≡ false → old ≡ each (λ k. cond (test k) (k ∷ []) []) 0 (n + 1)
each_fails_on test n old is fails =
    is ∙ sym (each_more (λ k. cond (test k) (k ∷ []) []) n ∙ (ap (λ b. each (λ k. cond (test k) (k ∷ []) []) 0 n ++ cond b (n ∷ []) []) fails ∙ append-nil (each (λ k. cond (test k) (k ∷ []) []) 0 n)))

pub each_one : {A : Type 0} (f : ℕ → A) (n : ℕ) (old new : List A) (one : A) → old ≡ each (λ k. f k ∷ []) 0 n → one ≡ f n → new ≡ old ++ one ∷ [] → new ≡ each (λ k. f k ∷ []) 0 (n + 1)
each_one f n old new one is same grown = grown ∙ (ap (λ l. l ++ one ∷ []) is ∙ (ap (λ x. each (λ k. f k ∷ []) 0 n ++ x ∷ []) same ∙ sym (each_more (λ k. f k ∷ []) n)))

-- an item of a list of single ones
item_at : {A : Type 0} (f : ℕ → A) (at count i : ℕ) (d : A) → i < count → slice_index_or (numbered (λ k. f k ∷ []) at count) i d ≡ f (at + i)
unfolding numbered
item_at f at zero i d less = absurd (omega arith)
item_at f at (suc count) zero d less = let same : at ≡ at + 0 = omega arith in ap f same
item_at f at (suc count) (suc i) d less = let same : (at + 1) + i ≡ at + suc i = omega arith in item_at f (at + 1) count i d (omega (arith, less)) ∙ ap f same

pub item_of : {A : Type 0} (f : ℕ → A) (count i : ℕ) (d : A) → i < count → slice_index_or (each (λ k. f k ∷ []) 0 count) i d ≡ f i
item_of f count i d less =
    let same : 0 + i ≡ i = omega arith in
    item_at f 0 (count - 0) i d (omega (arith, less)) ∙ ap f same

-- the numbers that pass
passing : (test : ℕ → Bool) (at count : ℕ) → length (numbered (λ k. cond (test k) (k ∷ []) []) at count) + count_below test at ≡ count_below test (at + count)
unfolding numbered
passing test at zero = let none : at ≡ at + 0 = omega arith in omega (arith, ap (count_below test) none)
passing test at (suc count) =
    let next : (at + 1) + count ≡ at + suc count = omega arith in
    let one : suc at ≡ at + 1 = omega arith in
    omega (arith, passing test (at + 1) count, ap (count_below test) next, ap (count_below test) one, here (test at) (numbered (λ k. cond (test k) (k ∷ []) []) (at + 1) count))
  where
    here : (b : Bool) (rest : List ℕ) → length (cond b (at ∷ []) [] ++ rest) ≡ cond b 1 0 + length rest
    here true rest = omega arith
    here false rest = omega arith

pub all_passing : (test : ℕ → Bool) (count : ℕ) → length (each (λ k. cond (test k) (k ∷ []) []) 0 count) ≡ count_below test count
all_passing test count =
    let same : 0 + (count - 0) ≡ count = omega arith in
    omega (arith, passing test 0 (count - 0), ap (count_below test) same)
