-- A name that none of some names is: at the place of each of them it has another letter than that name.
use Rattle.std.proofs.Common.{◌≡◌, ℕ, ◌+◌, ◌≤◌, ◌==◌, if◌then◌else◌, Bool, true, false, ◌||◌, not, cond, inl, inr, List, [], ◌∷◌, ◌++◌, length, get_or, bytes_eq, refl, sym, subst, ap, ◌∙◌, arith}
use Rattle.std.proofs.Math.Seq.{get_or-append_seam}
use Rattle.std.proofs.lemmas.Bool.{and_from, cases_Bool, eqb-false, eqb-true}
use Rattle.std.proofs.lemmas.List.{append_assoc, length-append}
use Rattle.std.proofs.lemmas.Slice.Eq.{bytes_eq-Decides}
use Rattle.std.specs.List.{list_all}
use Rattle.sg_plan.proofs.NameTests.{true-is_within}
use Rattle.sg_plan.specs.Names.{is_among, is_name_word, is_within, name_keeps}

-- `a`, or `b` where the byte is `a`
abbrev other_letter : ℕ → ℕ
other_letter byte = (if byte == 97 then 98 else 97)

-- letters that differ from the names at the names' places, from this place on, and one letter more
abbrev pub other_letters : ℕ → List (List ℕ) → List ℕ
other_letters at [] = 97 ∷ []
other_letters at (name ∷ names) = other_letter (get_or name at 0) ∷ other_letters (at + 1) names

-- it is another letter
letter-differs : (byte : ℕ) → byte ≡ other_letter byte → ⊥
letter-differs byte same = elim (cases_Bool (byte == 97)) [
  | inl is ↦ let other : byte ≡ 98 = same ∙ ap (λ b. cond b 98 97) is in omega (arith, other, eqb-true byte 97 is)
  | inr not_a ↦ let other : byte ≡ 97 = same ∙ ap (λ b. cond b 98 97) not_a in eqb-false byte 97 not_a other
]

-- and one of a name
letter-fits : (byte : ℕ) → is_within 0x21 0x7E (other_letter byte) ≡ true
letter-fits byte = either (byte == 97)
  where
    either : (b : Bool) → is_within 0x21 0x7E (cond b 98 97) ≡ true
    either true = refl
    either false = refl

-- there is one letter more than names
letters-length : (at : ℕ) (names : List (List ℕ)) → length (other_letters at names) ≡ length names + 1
letters-length at [] = omega arith
letters-length at (name ∷ names) = omega (arith, letters-length (at + 1) names)

-- each may stand in a name
letters-fit : (at : ℕ) (names : List (List ℕ)) → list_all (is_within 0x21 0x7E) (other_letters at names) ≡ true
letters-fit at [] = refl
letters-fit at (name ∷ names) =
    and_from (is_within 0x21 0x7E (other_letter (get_or name at 0))) (list_all (is_within 0x21 0x7E) (other_letters (at + 1) names))
    (letter-fits (get_or name at 0)) (letters-fit (at + 1) names)

-- a name is not the word that has another letter at a place
word-differs : (name front rest : List ℕ) → bytes_eq name (front ++ other_letter (get_or name (length front) 0) ∷ rest) ≡ false
word-differs name front rest = elim (cases_Bool (bytes_eq name (front ++ other_letter (get_or name (length front) 0) ∷ rest))) [
  | inl is ↦
      let letter : ℕ = other_letter (get_or name (length front) 0) in
      let same : name ≡ front ++ letter ∷ rest = (bytes_eq-Decides name (front ++ letter ∷ rest)).0 is in
      absurd (letter-differs (get_or name (length front) 0) (ap (λ l. get_or l (length front) 0) same ∙ get_or-append_seam front letter rest 0))
  | inr differs ↦ differs
]

-- none of the names is such a word
letters-new : (at : ℕ) (front : List ℕ) (names : List (List ℕ)) → length front ≡ at → is_among names (front ++ other_letters at names) ≡ false
letters-new at front [] is = refl
letters-new at front (name ∷ names) is =
    let letter : ℕ = other_letter (get_or name at 0) in
    let rest : List ℕ = other_letters (at + 1) names in
    let first : bytes_eq name (front ++ letter ∷ rest) ≡ false = subst (λ (k : ℕ). bytes_eq name (front ++ other_letter (get_or name k 0) ∷ rest) ≡ false) is (word-differs name front rest) in
    let long : length (front ++ letter ∷ []) ≡ at + 1 = omega (arith, length-append front (letter ∷ []), is) in
    let others : is_among names ((front ++ letter ∷ []) ++ rest) ≡ false = letters-new (at + 1) (front ++ letter ∷ []) names long in
    let same : is_among names (front ++ letter ∷ rest) ≡ false = ap (is_among names) (sym (append_assoc front (letter ∷ []) rest)) ∙ others in
    ap (λ b. b || is_among names (front ++ letter ∷ rest)) first ∙ same

-- a name that may stand behind some others
abbrev pub new_name : List (List ℕ) → List ℕ
new_name names = other_letters 0 names

-- it is a name
pub new_name-word : (names : List (List ℕ)) → length names ≤ 16 → is_name_word (new_name names) ≡ true
new_name-word names few =
    and_from (is_within 1 64 (length (new_name names))) (list_all (is_within 0x21 0x7E) (new_name names))
    (true-is_within 1 64 (length (new_name names)) (omega (arith, letters-length 0 names)) (omega (arith, letters-length 0 names, few)))
    (letters-fit 0 names)

-- and none of the others
pub new_name-keeps : (names : List (List ℕ)) → length names ≤ 16 → name_keeps names (new_name names) ≡ true
new_name-keeps names few =
    and_from (is_name_word (new_name names)) (not (is_among names (new_name names)))
    (new_name-word names few) (ap not (letters-new 0 [] names refl))
