-- Done rows and the acts that the other tables tell, paired off: where every act is done as often as it is told,
-- the acts take the done rows one by one, none is left, and the rows that are put in again stand as they stood.
use Rattle.std.proofs.Common.{◌≡◌, ℕ, ◌+◌, ◌<◌, Bool, true, false, cond, List, [], ◌∷◌, map, bytes_eq, refl, ap, sym, ◌∙◌, arith}
use Rattle.std.proofs.lemmas.Slice.Eq.{bytes_eq-Decides}
use Rattle.sg_keeper.specs.Rows.{put}

-- one where the test holds
abbrev pub one : Bool → ℕ
one true = 1
one false = 0

-- how many of the items pass
abbrev pub how_many : {A : Type 0} → (A → Bool) → List A → ℕ
how_many p [] = 0
how_many p (x ∷ xs) = one (p x) + how_many p xs

-- the item comes before each of these
abbrev pub BeforeAll : {A : Type 0} → (A → A → Bool) → A → List A → Type 0
BeforeAll before x [] = Unit {0}
BeforeAll before x (y ∷ ys) = (before x y ≡ true) × BeforeAll before x ys

-- strictly rising by the order
abbrev pub Rises : {A : Type 0} → (A → A → Bool) → List A → Type 0
Rises before [] = Unit {0}
Rises before (x ∷ xs) = BeforeAll before x xs × Rises before xs

-- the first item that passes, and the others
pub record Picked {A : Type 0} (before : A → A → Bool) (p : A → Bool) (xs : List A) : Type 0 where
  pub item : A
  pub others : List A
  pub passes : p item ≡ true
  pub rising : Rises before others
  pub least : (x : A) → BeforeAll before x xs → (before x item ≡ true) × BeforeAll before x others
  pub put_back : put before item others ≡ xs
  pub counts : (q : A → Bool) → how_many q xs ≡ one (q item) + how_many q others

pub put_first : {A : Type 0} (before : A → A → Bool) (x : A) (xs : List A) → BeforeAll before x xs → put before x xs ≡ x ∷ xs
put_first before x [] h = refl
put_first before x (y ∷ ys) h = ap (λ b. cond b (x ∷ y ∷ ys) (y ∷ put before x ys)) h.0

-- one that passes can be picked, if there is one
pub pick : {A : Type 0} (before : A → A → Bool) → ((a b : A) → before a b ≡ true → before b a ≡ false) → (p : A → Bool) (xs : List A) → Rises before xs → 0 < how_many p xs → Picked before p xs
pick {A} before asym p [] rises some = absurd (omega (arith, some))
pick {A} before asym p (x ∷ xs) rises some = by_test (p x) refl (pick before asym p xs rises.1)
  where
    by_test : (b : Bool) → p x ≡ b → (0 < how_many p xs → Picked before p xs) → Picked before p (x ∷ xs)
    by_test true e later = record {
      item = x;
      others = xs;
      passes = e;
      rising = rises.1;
      least = λ y h. (h.0, h.1);
      put_back = put_first before x xs rises.0;
      counts = λ q. refl;
    }
    by_test false e later =
        let rest : 0 < how_many p xs = (let k : 0 < one (p x) + how_many p xs = some in let z : one (p x) ≡ 0 = ap one e in omega (arith, k, z)) in
        let picked : Picked before p xs = later rest in
        record {
          item = picked.item;
          others = x ∷ picked.others;
          passes = picked.passes;
          rising = ((picked.least x rises.0).1, picked.rising);
          least = λ y h. ((picked.least y h.1).0, (h.0, (picked.least y h.1).1));
          put_back = ap (λ b. cond b (picked.item ∷ x ∷ picked.others) (x ∷ put before picked.item picked.others)) (asym x picked.item (picked.least x rises.0).0)
              ∙ ap (λ l. x ∷ l) picked.put_back;
          counts = λ q. (let k : how_many q xs ≡ one (q picked.item) + how_many q picked.others = picked.counts q in omega (arith, k));
        }

-- all items put in, the last of the list first
abbrev pub put_all : {A : Type 0} → (A → A → Bool) → List A → List A
put_all before [] = []
put_all before (x ∷ xs) = put before x (put_all before xs)

-- the items, one for each of the texts in turn
pub record Paired {A : Type 0} (before : A → A → Bool) (text : A → List ℕ) (told : List (List ℕ)) (xs : List A) : Type 0 where
  pub items : List A
  pub texts : map text items ≡ told
  pub put_back : put_all before items ≡ xs

none_left : {A : Type 0} (text : A → List ℕ) (xs : List A) → ((t : List ℕ) → how_many (λ x. bytes_eq (text x) t) xs ≡ 0) → [] ≡ xs
none_left text [] h = refl
none_left text (x ∷ xs) h =
    let k : how_many (λ y. bytes_eq (text y) (text x)) (x ∷ xs) ≡ 0 = h (text x) in
    let s : bytes_eq (text x) (text x) ≡ true = (bytes_eq-Decides (text x) (text x)).1 refl in
    let z : one (bytes_eq (text x) (text x)) ≡ 1 = ap one s in
    absurd (omega (arith, k, z))

-- where each text is told as often as items have it, the items can be paired off
pub pair_off : {A : Type 0} (before : A → A → Bool) → ((a b : A) → before a b ≡ true → before b a ≡ false) → (text : A → List ℕ) (told : List (List ℕ)) (xs : List A) → Rises before xs
    → ((t : List ℕ) → how_many (λ x. bytes_eq x t) told ≡ how_many (λ x. bytes_eq (text x) t) xs) → Paired before text told xs
pair_off before asym text [] xs rises same = record { items = []; texts = refl; put_back = none_left text xs (λ t. sym (same t)) }
pair_off before asym text (t ∷ told) xs rises same =
    let here : how_many (λ x. bytes_eq x t) (t ∷ told) ≡ how_many (λ x. bytes_eq (text x) t) xs = same t in
    let self : one (bytes_eq t t) ≡ 1 = ap one ((bytes_eq-Decides t t).1 refl) in
    let some : 0 < how_many (λ x. bytes_eq (text x) t) xs = omega (arith, here, self) in
    let picked : Picked before (λ x. bytes_eq (text x) t) xs = pick before asym (λ x. bytes_eq (text x) t) xs rises some in
    let is : text picked.item ≡ t = (bytes_eq-Decides (text picked.item) t).0 picked.passes in
    let rest = pair_off before asym text told picked.others picked.rising (λ u. later picked is u) in
    record {
      items = picked.item ∷ rest.items;
      texts = ap (λ (w : List ℕ). w ∷ map text rest.items) is ∙ ap (λ l. t ∷ l) rest.texts;
      put_back = ap (put before picked.item) rest.put_back ∙ picked.put_back;
    }
  where
    later : (picked : Picked before (λ x. bytes_eq (text x) t) xs) → text picked.item ≡ t → (u : List ℕ) → how_many (λ x. bytes_eq x u) told ≡ how_many (λ x. bytes_eq (text x) u) picked.others
    later picked is u =
        let all : how_many (λ x. bytes_eq x u) (t ∷ told) ≡ how_many (λ x. bytes_eq (text x) u) xs = same u in
        let split : how_many (λ x. bytes_eq (text x) u) xs ≡ one (bytes_eq (text picked.item) u) + how_many (λ x. bytes_eq (text x) u) picked.others = picked.counts (λ x. bytes_eq (text x) u) in
        let same_one : one (bytes_eq (text picked.item) u) ≡ one (bytes_eq t u) = ap (λ (w : List ℕ). one (bytes_eq w u)) is in
        omega (arith, all, split, same_one)
