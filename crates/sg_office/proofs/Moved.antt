-- Rows that are moved one by one: from the last to the first, and behind those that are there.
use Rattle.std.proofs.Common.{◌≡◌, ℕ, zero, suc, ◌+◌, true, false, ◌||◌, not, cond, List, [], ◌∷◌, ◌++◌, Some, length, reverse, refl, ap, sym, subst, ◌∙◌, arith}
use Rattle.std.proofs.lemmas.Int.{ints}
use Rattle.std.proofs.lemmas.List.{reverse-append}
use Rattle.std.specs.List.{list_any, remove, slice_get}
use Rattle.sg_keeper.specs.Laws.{BeforeAll, Rises}
use Rattle.sg_keeper.specs.Rows.{done_before, done_is, is_new, put}
use Rattle.sg_keeper.specs.declared.rows.DoneRow.{DoneRow}
use Rattle.sg_office.proofs.Gathered.{joined}

-- the last item is the first from behind
pub last_first : {A : Type 0} (xs : List A) (n : ℕ) (x : A) → slice_get xs n ≡ Some x → length xs ≡ n + 1 → reverse xs ≡ x ∷ reverse (remove xs n)
last_first [] n x e many = cc
last_first (y ∷ []) zero x e many = cc
last_first (y ∷ z ∷ zs) zero x e many = absurd (omega (arith, many))
last_first (y ∷ ys) (suc n) x e many =
    reverse-append (y ∷ []) ys ∙ (ap (λ l. l ++ y ∷ []) (last_first ys n x e (omega (arith, many))) ∙ ap (λ l. x ∷ l) (sym (reverse-append (y ∷ []) (remove ys n))))

-- the last item, moved behind others, is the next of all from behind
pub moved : {A : Type 0} (whole front new rest left : List A) (n : ℕ) (x : A) → front ++ reverse rest ≡ whole → slice_get rest n ≡ Some x → length rest ≡ n + 1
    → new ≡ front ++ x ∷ [] → left ≡ remove rest n → new ++ reverse left ≡ whole
moved whole front new rest left n x is got many new_is left_is =
    ap (λ l. l ++ reverse left) new_is
    ∙ (joined front (x ∷ []) (reverse left)
    ∙ (ap (λ l. front ++ x ∷ reverse l) left_is
    ∙ (ap (λ l. front ++ l) (sym (last_first rest n x got many)) ∙ is)))

before_one : (done row : DoneRow) (front rest : List DoneRow) → BeforeAll done_before done (front ++ row ∷ rest) → done_before done row ≡ true
before_one done row [] rest all = all.0
before_one done row (x ∷ xs) rest all = before_one done row xs rest all.1

not_before : (a b : DoneRow) → done_before a b ≡ true → done_before b a ≡ false
not_before a b e = grind (arith, ints, e)

not_same : (a b : DoneRow) → done_before a b ≡ true → done_is a b ≡ false
not_same a b e = grind (arith, ints, e)

-- of rows that rise, each one's key is new among those before it
rising_new : (row : DoneRow) (front rest : List DoneRow) → Rises done_before (front ++ row ∷ rest) → is_new done_is row front ≡ true
rising_new row [] rest rises = refl
rising_new row (x ∷ xs) rest rises =
    ap (λ b. not (b || list_any (λ kept. done_is kept row) xs)) (not_same x row (before_one x row xs rest rises.0)) ∙ rising_new row xs rest rises.1

-- and it is put in behind them
rising_last : (row : DoneRow) (front rest : List DoneRow) → Rises done_before (front ++ row ∷ rest) → put done_before row front ≡ front ++ row ∷ []
rising_last row [] rest rises = refl
rising_last row (x ∷ xs) rest rises =
    ap (λ b. cond b (row ∷ x ∷ xs) (x ∷ put done_before row xs)) (not_before x row (before_one x row xs rest rises.0)) ∙ ap (λ l. x ∷ l) (rising_last row xs rest rises.1)

shape : {A : Type 0} (whole front rest : List A) (n : ℕ) (x : A) → front ++ reverse rest ≡ whole → slice_get rest n ≡ Some x → length rest ≡ n + 1 → whole ≡ front ++ x ∷ reverse (remove rest n)
shape whole front rest n x is got many = sym is ∙ ap (λ l. front ++ l) (last_first rest n x got many)

-- the next of rows that rise is new among those that were moved
pub next_new : (whole front rest : List DoneRow) (n : ℕ) (row : DoneRow) → Rises done_before whole → front ++ reverse rest ≡ whole → slice_get rest n ≡ Some row → length rest ≡ n + 1
    → is_new done_is row front ≡ true
next_new whole front rest n row rises is got many =
    rising_new row front (reverse (remove rest n)) (subst (λ (l : List DoneRow). Rises done_before l) (shape whole front rest n row is got many) rises)

-- and it goes behind them
pub next_last : (whole front rest : List DoneRow) (n : ℕ) (row : DoneRow) → Rises done_before whole → front ++ reverse rest ≡ whole → slice_get rest n ≡ Some row → length rest ≡ n + 1
    → put done_before row front ≡ front ++ row ∷ []
next_last whole front rest n row rises is got many =
    rising_last row front (reverse (remove rest n)) (subst (λ (l : List DoneRow). Rises done_before l) (shape whole front rest n row is got many) rises)
