-- What the lines of a text are.
use Rattle.std.proofs.Common.{◌≡◌, ◌≢◌, ℕ, zero, suc, ◌==◌, ◌<◌, List, [], ◌∷◌, ◌++◌, length, refl, sym, ap, ◌∙◌, append_assoc, append-nil, arith}
use Rattle.std.specs.List.{concat, Contains}
use Rattle.std.proofs.lemmas.Bool.{eq-eqb, ne_eqb, cond-true, cond-false, cond_both}
use Rattle.sg_outside.specs.TextLines.{HasNoFeed, IsLine, AreLines, onto_first, lines_of}

-- bytes with no line feed, one after the other, have none
pub HasNoFeed-append : (xs ys : List ℕ) → HasNoFeed xs → HasNoFeed ys → HasNoFeed (xs ++ ys)
HasNoFeed-append [] ys p q = q
HasNoFeed-append (x ∷ xs) ys p q = (p.0, HasNoFeed-append xs ys p.1 q)

-- a line behind bytes with no line feed is a line with them
pub IsLine-append : (xs ys : List ℕ) → HasNoFeed xs → IsLine ys → IsLine (xs ++ ys)
IsLine-append [] ys p q = q
IsLine-append (x ∷ []) [] p q = absurd q
IsLine-append (x ∷ []) (y ∷ ys) p q = (p.0, q)
IsLine-append (x ∷ x' ∷ xs) ys p q = (p.0, IsLine-append (x' ∷ xs) ys p.1 q)

-- the lines of a text that begins with a line feed
lines_of-feed : (x : ℕ) (xs : List ℕ) → x ≡ 10 → lines_of (x ∷ xs) ≡ (x ∷ []) ∷ lines_of xs
lines_of-feed x xs e = cond-true (x == 10) ((x ∷ []) ∷ lines_of xs) (onto_first x (lines_of xs)) (eq-eqb x 10 e)

-- the lines of a text that begins with another byte
lines_of-other : (x : ℕ) (xs : List ℕ) → x ≢ 10 → lines_of (x ∷ xs) ≡ onto_first x (lines_of xs)
lines_of-other x xs other = cond-false (x == 10) ((x ∷ []) ∷ lines_of xs) (onto_first x (lines_of xs)) (ne_eqb x 10 other)

-- a line in front is the first of the lines
pub lines_of-line : (line rest : List ℕ) → IsLine line → lines_of (line ++ rest) ≡ line ∷ lines_of rest
lines_of-line [] rest p = absurd p
lines_of-line (x ∷ []) rest p = lines_of-feed x rest p
lines_of-line (x ∷ y ∷ ys) rest p =
    lines_of-other x (y ∷ ys ++ rest) p.0 ∙ ap (onto_first x) (lines_of-line (y ∷ ys) rest p.1)

-- lines in front are the first of the lines
pub lines_of-lines : (lines : List (List ℕ)) (rest : List ℕ) → AreLines lines → lines_of (concat lines ++ rest) ≡ lines ++ lines_of rest
lines_of-lines [] rest p = refl
lines_of-lines (line ∷ lines) rest p =
    ap lines_of (append_assoc line (concat lines) rest) ∙ (lines_of-line line (concat lines ++ rest) p.0 ∙ ap (λ l. line ∷ l) (lines_of-lines lines rest p.1))

-- whole lines are the lines of their text
pub lines_of-concat : (lines : List (List ℕ)) → AreLines lines → lines_of (concat lines) ≡ lines
lines_of-concat lines p =
    ap lines_of (sym (append-nil (concat lines))) ∙ (lines_of-lines lines [] p ∙ append-nil lines)

-- bytes with no line feed are one line
pub lines_of-part : (text : List ℕ) → HasNoFeed text → 0 < length text → lines_of text ≡ text ∷ []
lines_of-part [] p h = absurd (omega arith)
lines_of-part (x ∷ []) p h = lines_of-other x [] p.0
lines_of-part (x ∷ y ∷ ys) p h =
    lines_of-other x (y ∷ ys) p.0 ∙ ap (onto_first x) (lines_of-part (y ∷ ys) p.1 (omega arith))

-- a byte at the front of the first line begins it
onto_first-first : (x : ℕ) (lines : List (List ℕ))
    → (more : List ℕ) × (others : List (List ℕ)) × (onto_first x lines ≡ (x ∷ more) ∷ others)
onto_first-first x [] = ([], [], refl)
onto_first-first x (line ∷ lines) = (line, lines, refl)

-- bytes with no line feed are a front of the first line
pub lines_of-long : (text rest : List ℕ) → HasNoFeed text → 0 < length text
    → (more : List ℕ) × (others : List (List ℕ)) × (lines_of (text ++ rest) ≡ (text ++ more) ∷ others)
lines_of-long [] rest p h = absurd (omega arith)
lines_of-long (x ∷ []) rest p h =
    let first = onto_first-first x (lines_of rest) in
    (first.0, first.1, lines_of-other x rest p.0 ∙ first.2)
lines_of-long (x ∷ y ∷ ys) rest p h =
    let ih = lines_of-long (y ∷ ys) rest p.1 (omega arith) in
    (ih.0, ih.1, lines_of-other x (y ∷ ys ++ rest) p.0 ∙ ap (onto_first x) ih.2)

-- a byte at the front of the first line is the first of the lines joined
concat-onto_first : (x : ℕ) (lines : List (List ℕ)) → concat (onto_first x lines) ≡ x ∷ concat lines
concat-onto_first x [] = refl
concat-onto_first x (line ∷ lines) = refl

-- the lines joined are the text
pub concat-lines_of : (text : List ℕ) → concat (lines_of text) ≡ text
concat-lines_of [] = refl
concat-lines_of (x ∷ xs) =
    cond_both (x == 10) ((x ∷ []) ∷ lines_of xs) (onto_first x (lines_of xs)) (λ lines. concat lines ≡ x ∷ xs)
    (λ _. ap (λ l. x ∷ l) (concat-lines_of xs)) (λ _. concat-onto_first x (lines_of xs) ∙ ap (λ l. x ∷ l) (concat-lines_of xs))

-- bytes with no line feed contain none
pub HasNoFeed-Contains : (xs : List ℕ) → HasNoFeed xs → Contains xs 10 → ⊥
HasNoFeed-Contains [] p (k, inside, feed) = absurd (omega arith)
HasNoFeed-Contains (x ∷ xs) p (zero, inside, feed) = p.0 feed
HasNoFeed-Contains (x ∷ xs) p (suc k, inside, feed) = HasNoFeed-Contains xs p.1 (k, omega arith, feed)

-- lines, and then lines, are lines
pub AreLines-append : (lines others : List (List ℕ)) → AreLines lines → AreLines others → AreLines (lines ++ others)
AreLines-append [] others p q = q
AreLines-append (line ∷ lines) others p q = (p.0, AreLines-append lines others p.1 q)
