-- The order in which a stream puts the numbers below n (this project's rules for the record).
use Rattle.std.specs.Prelude.{◌≡◌, ℕ, ◌+◌, ◌*◌, ◌^◌, ◌<◌, ◌⊎◌, Bool, if◌then◌else◌, ◌==◌, nat_lt, ◌&&◌, ◌||◌, List, [], ◌∷◌, length, All, IsPermutation, AllPairs, slice_get, Some}
use Rattle.sg_streams.specs.Numbers.{numbers_below}
use Rattle.sg_streams.specs.Streams.{word_of}

-- the sort key of a number: two words of the stream, the first the higher
abbrev pub sort_key : List ℕ → ℕ → ℕ → ℕ
sort_key seed stream x = word_of seed stream (2 * x) * 2 ^ 32 + word_of seed stream (2 * x + 1)

-- a number comes before another: its key is lower, or the keys are equal and it is the lower number
abbrev pub ComesBefore : List ℕ → ℕ → ℕ → ℕ → Type 0
ComesBefore seed stream x y =
    (sort_key seed stream x < sort_key seed stream y)
    ⊎ ((sort_key seed stream x ≡ sort_key seed stream y) × (x < y))

-- the list has the numbers below n, each once, and each comes before all later ones
pub record IsOrder (seed : List ℕ) (stream n : ℕ) (list : List ℕ) : Type 0 where
  pub permutes : IsPermutation (numbers_below n) list
  pub rises : AllPairs (ComesBefore seed stream) list

-- a number stands at one place of a list, and at no other
pub record HasOnePlace (list : List ℕ) (x : ℕ) : Type 0 where
  pub place : ℕ
  pub found : slice_get list place ≡ Some x
  pub alone : (other : ℕ) → slice_get list other ≡ Some x → other ≡ place

-- the list has n places, and takes the places below n one to one to the numbers below n
pub record IsOneToOne (n : ℕ) (list : List ℕ) : Type 0 where
  pub many : length list ≡ n
  pub below : All (λ x. x < n) list
  pub places : (x : ℕ) → x < n → HasOnePlace list x

-- whether a number comes before another
abbrev pub comes_before : List ℕ → ℕ → ℕ → ℕ → Bool
comes_before seed stream x y =
    nat_lt (sort_key seed stream x) (sort_key seed stream y)
    || (sort_key seed stream x == sort_key seed stream y && nat_lt x y)

-- a number put in before the first that it comes before
unfoldable pub put_in_order : List ℕ → ℕ → ℕ → List ℕ → List ℕ
put_in_order seed stream x [] = x ∷ []
put_in_order seed stream x (y ∷ ys) =
    (if comes_before seed stream x y then x ∷ y ∷ ys else y ∷ put_in_order seed stream x ys)

-- the numbers put in one after another
unfoldable pub in_order : List ℕ → ℕ → List ℕ → List ℕ
in_order seed stream [] = []
in_order seed stream (x ∷ xs) = put_in_order seed stream x (in_order seed stream xs)

-- the order as a function of the seed, the stream and n. How it is made does not matter: the law
-- `OneOrder` says that it is the only order.
unfoldable pub order_of : List ℕ → ℕ → ℕ → List ℕ
order_of seed stream n = in_order seed stream (numbers_below n)

-- a number behind its sort key
abbrev pub keyed : List ℕ → ℕ → ℕ → ℕ × ℕ
keyed seed stream x = (sort_key seed stream x, x)
