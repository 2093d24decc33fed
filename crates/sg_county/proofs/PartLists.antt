-- The parts of lines, and of more lines behind them.
use Rattle.std.proofs.Common.{◌≡◌, ℕ, Bool, true, false, List, [], ◌∷◌, ◌++◌, refl, sym, ap, ◌∙◌, append_assoc, append-nil}
use Rattle.std.specs.Prelude.{if◌then◌else◌}
use Rattle.sg_county.specs.County.{is_next, onto_part, parts_of}

abbrev pub AllParts : Type 0
AllParts = List (List (List ℕ))

-- there is a part
some_part : (b : Bool) (x : List ℕ) (parts : AllParts) → (first : List (List ℕ)) × (rest : AllParts) × ((if b then [] ∷ parts else onto_part x parts) ≡ first ∷ rest)
some_part true x parts = ([], parts, refl)
some_part false x [] = (x ∷ [], [], refl)
some_part false x (part ∷ parts) = (x ∷ part, parts, refl)

pub parts_some : (lines : List (List ℕ)) → (first : List (List ℕ)) × (rest : AllParts) × (parts_of lines ≡ first ∷ rest)
parts_some [] = ([], [], refl)
parts_some (x ∷ lines) = some_part (is_next x) x (parts_of lines)

-- the last of the one and the first of the other are one part
abbrev joined : AllParts → AllParts → AllParts
joined [] others = others
joined (part ∷ []) [] = part ∷ []
joined (part ∷ []) (other ∷ others) = (part ++ other) ∷ others
joined (part ∷ next ∷ parts) others = part ∷ joined (next ∷ parts) others

onto_joined : (b : Bool) (x : List ℕ) (first : List (List ℕ)) (rest others : AllParts)
    → (if b then [] ∷ joined (first ∷ rest) others else onto_part x (joined (first ∷ rest) others)) ≡ joined (if b then [] ∷ first ∷ rest else onto_part x (first ∷ rest)) others
onto_joined true x first rest others = refl
onto_joined false x first [] [] = refl
onto_joined false x first [] (other ∷ others) = refl
onto_joined false x first (next ∷ rest) others = refl

parts_joined : (lines more : List (List ℕ)) → parts_of (lines ++ more) ≡ joined (parts_of lines) (parts_of more)
parts_joined [] more =
    let some = parts_some more in
    some.2 ∙ ap (λ (parts : AllParts). joined ([] ∷ []) parts) (sym some.2)
parts_joined (x ∷ lines) more =
    let some = parts_some lines in
    ap (λ (parts : AllParts). (if is_next x then [] ∷ parts else onto_part x parts)) (parts_joined lines more ∙ ap (λ (parts : AllParts). joined parts (parts_of more)) some.2)
    ∙ (onto_joined (is_next x) x some.0 some.1 (parts_of more)
    ∙ ap (λ (parts : AllParts). joined (if is_next x then [] ∷ parts else onto_part x parts) (parts_of more)) (sym some.2))

joined-last : (before : AllParts) (last first : List (List ℕ)) (rest : AllParts) → joined (before ++ last ∷ []) (first ∷ rest) ≡ before ++ (last ++ first) ∷ rest
joined-last [] last first rest = refl
joined-last (part ∷ []) last first rest = refl
joined-last (part ∷ next ∷ before) last first rest = ap (λ (parts : AllParts). part ∷ parts) (joined-last (next ∷ before) last first rest)

pub parts_more : (lines more : List (List ℕ)) (before : AllParts) (last first : List (List ℕ)) (rest : AllParts) → parts_of lines ≡ before ++ last ∷ [] → parts_of more ≡ first ∷ rest
    → parts_of (lines ++ more) ≡ before ++ (last ++ first) ∷ rest
parts_more lines more before last first rest e f =
    parts_joined lines more ∙ (ap (λ (parts : AllParts). joined parts (parts_of more)) e ∙ (ap (λ (parts : AllParts). joined (before ++ last ∷ []) parts) f ∙ joined-last before last first rest))

-- a line that is no `next` stands at the end of the last part
pub parts_inner : (lines : List (List ℕ)) (line : List ℕ) (before : AllParts) (last : List (List ℕ)) → is_next line ≡ false → parts_of lines ≡ before ++ last ∷ []
    → parts_of (lines ++ line ∷ []) ≡ before ++ (last ++ line ∷ []) ∷ []
parts_inner lines line before last inner e = parts_more lines (line ∷ []) before last (line ∷ []) [] e (ap (λ (b : Bool). (if b then [] ∷ [] ∷ [] else (line ∷ []) ∷ [])) inner)

-- behind a line `next` a new part begins
pub parts_next : (lines : List (List ℕ)) (line : List ℕ) (before : AllParts) (last : List (List ℕ)) → is_next line ≡ true → parts_of lines ≡ before ++ last ∷ []
    → parts_of (lines ++ line ∷ []) ≡ (before ++ last ∷ []) ++ [] ∷ []
parts_next lines line before last next e =
    parts_more lines (line ∷ []) before last [] ([] ∷ []) e (ap (λ (b : Bool). (if b then [] ∷ [] ∷ [] else (line ∷ []) ∷ [])) next)
    ∙ (ap (λ (part : List (List ℕ)). before ++ part ∷ [] ∷ []) (append-nil last) ∙ sym (append_assoc before (last ∷ []) ([] ∷ [])))

pub parts_behind : (lines : List (List ℕ)) (line : List ℕ) (more : List (List ℕ)) (before : AllParts) (last first : List (List ℕ)) (rest : AllParts) → is_next line ≡ true → parts_of lines ≡ before ++ last ∷ []
    → parts_of more ≡ first ∷ rest → parts_of ((lines ++ line ∷ []) ++ more) ≡ (before ++ last ∷ []) ++ first ∷ rest
parts_behind lines line more before last first rest next e f = parts_more (lines ++ line ∷ []) more (before ++ last ∷ []) [] first rest (parts_next lines line before last next e) f
