-- Lists of one shape: they are the same where their items are, one after another.
use Rattle.std.proofs.Common.{◌≡◌, ℕ, suc, ◌+◌, ◌*◌, ◌==◌, ◌&&◌, Bool, true, List, [], ◌∷◌, ◌++◌, length, map, Some, refl, sym, ap, ◌∙◌, arith}
use Rattle.std.specs.List.{flat_map, list_all}
use Rattle.std.specs.Prelude.{slice_get}
use Rattle.std.proofs.lemmas.Bool.{and_parts, eqb-true}
use Rattle.std.proofs.lemmas.List.{map-append}
use Rattle.sg_lists.proofs.Each.{EachOf, of-append}
use Rattle.sg_lists.proofs.Lists.{append_parts, cons_parts}
use Rattle.sg_plan.specs.Ballots.{entries_of}
use Rattle.sg_plan.specs.declared.plan.Plan.{Plan}
use Rattle.sg_record.specs.Formed.{each_passes, has_rows}
use Rattle.sg_parts.proofs.Cuts.{all_long, joined_both}
use Rattle.sg_parts.specs.Given.{joined}

-- ONE AFTER ANOTHER

-- ITEMS OF ONE SHAPE

lists_same : {A : Type 0} (count : ℕ) (xs ys : List (List A)) → length xs ≡ length ys → list_all (λ items. length items == count) xs ≡ true → list_all (λ items. length items == count) ys ≡ true → joined xs ≡ joined ys → xs ≡ ys
lists_same count [] [] long all all' same = refl
lists_same count [] (y ∷ ys) long all all' same = absurd (omega (arith, long))
lists_same count (x ∷ xs) [] long all all' same = absurd (omega (arith, long))
lists_same {A} count (x ∷ xs) (y ∷ ys) long all all' same =
    let parts = and_parts (length x == count) (list_all (λ (items : List A). length items == count) xs) all in
    let parts' = and_parts (length y == count) (list_all (λ (items : List A). length items == count) ys) all' in
    let both = append_parts x y (joined xs) (joined ys) (eqb-true (length x) count parts.0 ∙ sym (eqb-true (length y) count parts'.0)) same in
    ap (λ (l : List A). l ∷ xs) both.0 ∙ ap (λ (l : List (List A)). y ∷ l) (lists_same count xs ys (omega (arith, long)) parts.1 parts'.1 both.1)

-- so many instances, and so many rows in each
abbrev pub passes : {A : Type 0} → Plan → ℕ → List (List A) → Bool
passes plan race instances = length instances == plan.instances && list_all (λ items. length items == entries_of plan race) instances

races_same : {A : Type 0} (plan : Plan) (at : ℕ) (a b : List (List (List A))) → length a ≡ length b → each_passes (passes plan) at a ≡ true → each_passes (passes plan) at b ≡ true → joined (joined a) ≡ joined (joined b) → a ≡ b
races_same plan at [] [] long all all' same = refl
races_same plan at [] (y ∷ b) long all all' same = absurd (omega (arith, long))
races_same plan at (x ∷ a) [] long all all' same = absurd (omega (arith, long))
races_same {A} plan at (x ∷ a) (y ∷ b) long all all' same =
    let n : ℕ = entries_of plan at in
    let parts = and_parts (passes plan at x) (each_passes (passes plan) (at + 1) a) all in
    let parts' = and_parts (passes plan at y) (each_passes (passes plan) (at + 1) b) all' in
    let here = and_parts (length x == plan.instances) (list_all (λ (items : List A). length items == n) x) parts.0 in
    let here' = and_parts (length y == plan.instances) (list_all (λ (items : List A). length items == n) y) parts'.0 in
    let counts : length x ≡ length y = eqb-true (length x) plan.instances here.0 ∙ sym (eqb-true (length y) plan.instances here'.0) in
    let longs : length (joined x) ≡ length (joined y) = all_long n x here.1 ∙ (ap (λ k. k * n) counts ∙ sym (all_long n y here'.1)) in
    let both = append_parts (joined x) (joined y) (joined (joined a)) (joined (joined b)) longs (sym (joined_both x (joined a)) ∙ (same ∙ joined_both y (joined b))) in
    ap (λ (l : List (List A)). l ∷ a) (lists_same n x y counts here.1 here'.1 both.0)
    ∙ ap (λ (l : List (List (List A))). y ∷ l) (races_same plan (at + 1) a b (omega (arith, long)) parts.1 parts'.1 both.1)

-- rows of one plan with the same items
pub rows_same : {A : Type 0} (plan : Plan) (a b : List (List (List A))) → has_rows plan a ≡ true → has_rows plan b ≡ true → joined (joined a) ≡ joined (joined b) → a ≡ b
rows_same {A} plan a b has has' same =
    let parts = and_parts (length a == length plan.races) (each_passes (passes {A = A} plan) 0 a) has in
    let parts' = and_parts (length b == length plan.races) (each_passes (passes {A = A} plan) 0 b) has' in
    races_same plan 0 a b (eqb-true (length a) (length plan.races) parts.0 ∙ sym (eqb-true (length b) (length plan.races) parts'.0)) parts.1 parts'.1 same

-- A PROPERTY OF EACH ITEM

pub each_at : {A : Type 0} (P : A → Type 0) (xs : List A) → ((k : ℕ) (x : A) → slice_get xs k ≡ Some x → P x) → EachOf P xs
each_at P [] all = tt
each_at P (x ∷ xs) all = (all 0 x refl, each_at P xs (λ k y is. all (suc k) y is))

pub each_joined : {A : Type 0} (P : A → Type 0) (lists : List (List A)) → EachOf (EachOf P) lists → EachOf P (joined lists)
each_joined P [] all = tt
each_joined P (x ∷ lists) all = of-append P x (joined lists) all.0 (each_joined P lists all.1)

-- items whose images are the same are the same
pub images_same : {A : Type 0} (f : A → List ℕ) (P Q : A → Type 0) → ((x y : A) → P x → Q y → f x ≡ f y → x ≡ y) → (xs ys : List A) → EachOf P xs → EachOf Q ys → map f xs ≡ map f ys → xs ≡ ys
images_same f P Q one [] [] p q same = refl
images_same f P Q one [] (y ∷ ys) p q same = absurd (no same)
  where
    no : ◌≡◌ {A = List (List ℕ)} [] (f y ∷ map f ys) → ⊥
    no e = cc
images_same f P Q one (x ∷ xs) [] p q same = absurd (no same)
  where
    no : ◌≡◌ {A = List (List ℕ)} (f x ∷ map f xs) [] → ⊥
    no e = cc
images_same {A} f P Q one (x ∷ xs) (y ∷ ys) p q same =
    ap (λ (z : A). z ∷ xs) (one x y p.0 q.0 (cons_parts same).0) ∙ ap (λ (l : List A). y ∷ l) (images_same f P Q one xs ys p.1 q.1 (cons_parts same).1)

-- TEXTS OF ITEMS THAT ARE MADE NUMBER BY NUMBER

module _ {A B : Type 0} (f : A → List ℕ) (g : B → List ℕ) where
  items_texts : (v : ℕ → A) (w : ℕ → B) → ((k : ℕ) → f (v k) ≡ g (w k)) → (ks : List ℕ) → map f (map v ks) ≡ map g (map w ks)
  items_texts v w same [] = refl
  items_texts v w same (k ∷ ks) = ap (λ (t : List ℕ). t ∷ map f (map v ks)) (same k) ∙ ap (λ (l : List (List ℕ)). g (w k) ∷ l) (items_texts v w same ks)

  lists_texts : (v : ℕ → List A) (w : ℕ → List B) → ((k : ℕ) → map f (v k) ≡ map g (w k)) → (ks : List ℕ) → map f (joined (map v ks)) ≡ map g (flat_map w ks)
  lists_texts v w same [] = refl
  lists_texts v w same (k ∷ ks) =
      map-append f (v k) (joined (map v ks))
      ∙ (ap (λ (l : List (List ℕ)). l ++ map f (joined (map v ks))) (same k)
      ∙ (ap (λ (l : List (List ℕ)). map g (w k) ++ l) (lists_texts v w same ks) ∙ sym (map-append g (w k) (flat_map w ks))))

  rows_texts : (v : ℕ → List (List A)) (w : ℕ → List B) → ((k : ℕ) → map f (joined (v k)) ≡ map g (w k)) → (ks : List ℕ) → map f (joined (joined (map v ks))) ≡ map g (flat_map w ks)
  rows_texts v w same [] = refl
  rows_texts v w same (k ∷ ks) =
      ap (map f) (joined_both (v k) (joined (map v ks)))
      ∙ (map-append f (joined (v k)) (joined (joined (map v ks)))
      ∙ (ap (λ (l : List (List ℕ)). l ++ map f (joined (joined (map v ks)))) (same k)
      ∙ (ap (λ (l : List (List ℕ)). map g (w k) ++ l) (rows_texts v w same ks) ∙ sym (map-append g (w k) (flat_map w ks)))))

  -- of three depths
  pub made_texts : (v : (race instance row : ℕ) → A) (w : (race instance row : ℕ) → B) → ((race instance row : ℕ) → f (v race instance row) ≡ g (w race instance row))
      → (races instances : List ℕ) (rows : ℕ → List ℕ)
      → map f (joined (joined (map (λ race. map (λ instance. map (v race instance) (rows race)) instances) races)))
      ≡ map g (flat_map (λ race. flat_map (λ instance. map (w race instance) (rows race)) instances) races)
  made_texts v w same races instances rows =
      rows_texts (λ race. map (λ instance. map (v race instance) (rows race)) instances) (λ race. flat_map (λ instance. map (w race instance) (rows race)) instances)
      (λ race. lists_texts (λ instance. map (v race instance) (rows race)) (λ instance. map (w race instance) (rows race)) (λ instance. items_texts (v race instance) (w race instance) (same race instance) (rows race)) instances) races
