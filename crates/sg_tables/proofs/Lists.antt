-- Lists that are made number by number.
use Rattle.std.proofs.Common.{◌≡◌, ℕ, zero, suc, ◌+◌, ◌*◌, ◌<◌, inl, inr, List, [], ◌∷◌, ◌++◌, length, map, get_or, slice_get, Some, sym, ap, ◌∙◌, arith, add-one}
use Rattle.std.specs.List.{flat_map}
use Rattle.std.proofs.lemmas.Bool.{cases_lt}
use Rattle.std.proofs.lemmas.List.{append-nil, get_or-append-add, get_or_append_left, get_or-map, length-append, length-map, map-append}
use Rattle.std.proofs.lemmas.List.Concat.{flat_map-append}
use Rattle.std.proofs.lemmas.Nat.{mul-add-lt}
use Rattle.std.proofs.lemmas.Option.{slice_get-get_or}
use Rattle.sg_streams.specs.Numbers.{numbers_below}
use Rattle.sg_streams.proofs.NumberLists.{get_or-numbers_below, length-numbers_below, numbers_below-none, numbers_below-push}

-- one number more
pub map_below-push : {X : Type 0} (f : ℕ → X) (n : ℕ) → map f (numbers_below (n + 1)) ≡ map f (numbers_below n) ++ f n ∷ []
map_below-push f n = ap (map f) (numbers_below-push n) ∙ map-append f (numbers_below n) (n ∷ [])

pub flat_below-push : {X : Type 0} (f : ℕ → List X) (n : ℕ) → flat_map f (numbers_below (n + 1)) ≡ flat_map f (numbers_below n) ++ f n
flat_below-push f n =
    ap (flat_map f) (numbers_below-push n)
    ∙ flat_map-append f (numbers_below n) (n ∷ [])
    ∙ ap (λ l. flat_map f (numbers_below n) ++ l) (append-nil (f n))

-- no number yet
pub map_below-none : {X : Type 0} (f : ℕ → X) → map f (numbers_below 0) ≡ []
map_below-none f = ap (map f) numbers_below-none

pub flat_below-none : {X : Type 0} (f : ℕ → List X) → flat_map f (numbers_below 0) ≡ []
flat_below-none f = ap (flat_map f) numbers_below-none

-- a list to which the next item, or the next piece, was added
pub map_below-more : {X : Type 0} (f : ℕ → X) (n : ℕ) (list longer : List X) (item : X)
    → list ≡ map f (numbers_below n) → item ≡ f n → longer ≡ list ++ item ∷ [] → longer ≡ map f (numbers_below (n + 1))
map_below-more f n list longer item so_far is added =
    added ∙ ap (λ l. l ++ item ∷ []) so_far ∙ ap (λ x. map f (numbers_below n) ++ x ∷ []) is ∙ sym (map_below-push f n)

pub flat_below-more : {X : Type 0} (f : ℕ → List X) (n : ℕ) (list longer piece : List X)
    → list ≡ flat_map f (numbers_below n) → piece ≡ f n → longer ≡ list ++ piece → longer ≡ flat_map f (numbers_below (n + 1))
flat_below-more f n list longer piece so_far is added =
    added ∙ ap (λ l. l ++ piece) so_far ∙ ap (λ x. flat_map f (numbers_below n) ++ x) is ∙ sym (flat_below-push f n)

-- what stands at a number
pub length-map_below : {X : Type 0} (f : ℕ → X) (n : ℕ) → length (map f (numbers_below n)) ≡ n
length-map_below f n = length-map (numbers_below n) f ∙ length-numbers_below n

pub get_or-map_below : {X : Type 0} (f : ℕ → X) (n k : ℕ) (d : X) → k < n → get_or (map f (numbers_below n)) k d ≡ f k
get_or-map_below f n k d less =
    get_or-map f (numbers_below n) k 0 d (omega (arith, length-numbers_below n)) ∙ ap f (get_or-numbers_below n k 0 less)

pub slice_get-map_below : {X : Type 0} (f : ℕ → X) (n k : ℕ) → k < n → slice_get (map f (numbers_below n)) k ≡ Some (f k)
slice_get-map_below f n k less =
    slice_get-get_or (map f (numbers_below n)) k (f k) (omega (arith, length-map_below f n)) ∙ ap (λ x. Some x) (get_or-map_below f n k (f k) less)

-- rows of one length, one after another
pub length-flat_below : (f : ℕ → List ℕ) (width : ℕ) → ((row : ℕ) → length (f row) ≡ width) → (n : ℕ) → length (flat_map f (numbers_below n)) ≡ n * width
length-flat_below f width each zero = ap length (ap (flat_map f) numbers_below-none) ∙ omega arith
length-flat_below f width each (suc n) =
    let more : length (flat_map f (numbers_below (n + 1))) ≡ n * width + width =
    ap length (flat_below-push f n) ∙ omega (arith, length-append (flat_map f (numbers_below n)) (f n), length-flat_below f width each n, each n) in
    ap (λ m. length (flat_map f (numbers_below m))) (sym (add-one n)) ∙ more ∙ omega arith

pub get_or-flat_below : (f : ℕ → List ℕ) (width : ℕ) → ((row : ℕ) → length (f row) ≡ width) → (n row column d : ℕ) → row < n → column < width
    → get_or (flat_map f (numbers_below n)) (row * width + column) d ≡ get_or (f row) column d
get_or-flat_below f width each zero row column d above within = absurd (omega arith)
get_or-flat_below f width each (suc n) row column d above within =
    let front = flat_map f (numbers_below n) in
    let long : length front ≡ n * width = length-flat_below f width each n in
    ap (λ m. get_or (flat_map f (numbers_below m)) (row * width + column) d) (sym (add-one n))
    ∙ ap (λ l. get_or l (row * width + column) d) (flat_below-push f n)
    ∙ elim (cases_lt row n) [
      | inl before ↦
          let inside : row * width + column < length front = omega (arith, mul-add-lt row width column n before within, long) in
          get_or_append_left front (f n) d (row * width + column) inside ∙ get_or-flat_below f width each n row column d before within
      | inr last ↦
          let is : row ≡ n = omega arith in
          rw is (ap (λ k. get_or (front ++ f n) (k + column) d) (sym long) ∙ get_or-append-add front (f n) column d)
    ]
