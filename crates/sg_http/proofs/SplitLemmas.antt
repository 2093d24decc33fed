-- One list cut at two places.
use Rattle.std.proofs.Common.{◌≡◌, ◌⊎◌, inl, inr, ℕ, List, [], ◌∷◌, ◌++◌, refl, sym, subst}
use Rattle.sg_lists.proofs.Lists.{cons_parts}

abbrev first_or : List ℕ → ℕ
first_or [] = 0
first_or (x ∷ xs) = x

abbrev rest_of : List ℕ → List ℕ
rest_of [] = []
rest_of (x ∷ xs) = xs

pub cons_same : (x y : ℕ) (xs ys : List ℕ) → x ≡ y → xs ≡ ys → x ∷ xs ≡ y ∷ ys
cons_same x y xs ys p q = λ i. p i ∷ q i

-- either cut comes first
pub front_or_behind : (a b c d : List ℕ) → a ++ b ≡ c ++ d
    → ((m : List ℕ) × (a ≡ c ++ m) × (d ≡ m ++ b)) ⊎ ((m : List ℕ) × (c ≡ a ++ m) × (b ≡ m ++ d))
front_or_behind a b [] d e = inl (a, refl, sym e)
front_or_behind [] b (y ∷ c) d e = inr (y ∷ c, refl, e)
front_or_behind (x ∷ a) b (y ∷ c) d e =
    longer x y a b c d (cons_parts e).0 (front_or_behind a b c d (cons_parts e).1)
  where
    longer : (x y : ℕ) (a b c d : List ℕ) → x ≡ y
        → ((m : List ℕ) × (a ≡ c ++ m) × (d ≡ m ++ b)) ⊎ ((m : List ℕ) × (c ≡ a ++ m) × (b ≡ m ++ d))
        → ((m : List ℕ) × (x ∷ a ≡ y ∷ c ++ m) × (d ≡ m ++ b)) ⊎ ((m : List ℕ) × (y ∷ c ≡ x ∷ a ++ m) × (b ≡ m ++ d))
    longer x y a b c d same (inl p) = inl (p.0, cons_same x y a (c ++ p.0) same p.1, p.2)
    longer x y a b c d same (inr p) = inr (p.0, cons_same y x c (a ++ p.0) (sym same) p.1, p.2)

-- what stands behind a front of a list that ends with z is nothing, or ends with z
pub end_behind : (z : ℕ) (a m front : List ℕ) → a ++ m ≡ front ++ z ∷ []
    → (m ≡ []) ⊎ ((most : List ℕ) × (m ≡ most ++ z ∷ []))
end_behind z [] m front e = inr (front, e)
end_behind z (x ∷ []) m [] e = inl (cons_parts e).1
end_behind z (x ∷ x' ∷ a) m [] e = absurd (no_cons x' (a ++ m) (cons_parts e).1)
  where
    is_some : List ℕ → Type 0
    is_some [] = ⊥
    is_some (x ∷ xs) = Unit {0}

    no_cons : (x : ℕ) (xs : List ℕ) → x ∷ xs ≡ [] → ⊥
    no_cons x xs e = absurd (subst is_some e tt)
end_behind z (x ∷ a) m (y ∷ front) e = end_behind z a m front (cons_parts e).1
