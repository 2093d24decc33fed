-- Bits on lines of 64.
use Rattle.std.proofs.Common.{◌≡◌, ℕ, zero, suc, ◌+◌, ◌-◌, ◌*◌, ◌≤◌, ◌⊎◌, min, Bool, inl, inr, List, [], ◌∷◌, ◌++◌, length, map, take, drop, refl, sym, ap, ◌∙◌, arith, ◌<◌, true, false, get_or}
use Rattle.std.proofs.Math.Seq.{drop-append_seam, take-append_seam}
use Rattle.std.proofs.lemmas.Bool.{cases_lt}
use Rattle.std.proofs.lemmas.List.{append-nil, drop-drop, drop_all, length-append, length-drop, length-take, take-append-drop, take_all, length-map}
use Rattle.sg_forms.specs.Said.{Said}
use Rattle.sg_grammar.specs.Due.{bits_on, each, lines_for, numbered}
use Rattle.sg_grammar.specs.Placed.{Placed}
use Rattle.sg_grammar.specs.declared.state.Slot.{Slot}
use Rattle.sg_record.proofs.Filling.{Each, Spells, spells-change, spells-each, spells-lines}
use Rattle.sg_record.proofs.SlotLines.{Counts}
use Rattle.sg_record.specs.Tree.{bit_sign, indexed, signs_on}
use Rattle.std.proofs.lemmas.List.Elements.{All-map}
use Rattle.sg_forms.specs.Spelling.{AreFewBits}
use Rattle.sg_lines.specs.Words.{IsBit}

-- a line of the bits has a first one
pub on_line : (line bits : ℕ) → line < lines_for bits → 64 * line < bits
on_line line bits within = omega arith

-- the sign of a bit
is_sign : (bit : Bool) → IsBit (bit_sign bit)
is_sign true = inr refl
is_sign false = inl refl

pub few_bits : (bits : List Bool) → 1 ≤ length bits → length bits ≤ 64 → AreFewBits (map bit_sign bits)
few_bits bits some most =
    let same = length-map bits bit_sign in
    (omega (arith, same), omega (arith, same), (refl, All-map IsBit bit_sign bits (λ k d within. is_sign (get_or bits k d))))

-- no more of them are taken than there are
pub take_fitting : (n m : ℕ) (bits : List Bool) → m ≡ min n (length bits) → take m bits ≡ take n bits
take_fitting n m bits e =
    elim (cases_lt n (length bits)) [
      | inl more ↦ let same : m ≡ n = omega arith in ap (λ k. take k bits) same
      | inr few ↦ take_all m bits (omega arith) ∙ sym (take_all n bits few)
    ]

-- so many pieces of 64, the last one with what is left
unfoldable pub cut : {A : Type 0} → ℕ → List A → List (List A)
cut zero xs = []
cut (suc count) xs = take 64 xs ∷ cut count (drop 64 xs)

-- pieces put together
unfoldable pub joined : {A : Type 0} → List (List A) → List A
joined [] = []
joined (x ∷ xs) = x ++ joined xs

-- a piece has as many bits as stand on its line
abbrev pub Piece : ℕ → ℕ → List Bool → Type 0
Piece bits line piece = Counts (bits_on bits line) piece

pub cut-pieces : (bits at count : ℕ) (xs : List Bool) → length xs ≡ bits - 64 * at → Each (Piece bits) at count (cut count xs)
unfolding cut
cut-pieces bits at zero xs many = tt
cut-pieces bits at (suc count) xs many =
    let first : length (take 64 xs) ≡ min 64 (bits - 64 * at) = length-take 64 xs ∙ ap (min 64) many in
    (first, cut-pieces bits (at + 1) count (drop 64 xs) (omega (arith, many, length-drop 64 xs)))

-- the first piece and the others, where no other one is left behind a short one
first_piece : (x more : List Bool) → (length x ≡ 64) ⊎ ((length x ≤ 64) × (length more ≡ 0)) → (take 64 (x ++ more) ≡ x) × (drop 64 (x ++ more) ≡ more)
first_piece x more (inl full) =
    (ap (λ n. take n (x ++ more)) (sym full) ∙ take-append_seam x more, ap (λ n. drop n (x ++ more)) (sym full) ∙ drop-append_seam x more)
first_piece x [] (inr last) = (ap (take 64) (append-nil x) ∙ take_all 64 x last.0, ap (drop 64) (append-nil x) ∙ drop_all 64 x last.0)
first_piece x (y ∷ more) (inr last) = absurd (omega (arith, last.1))

pieces-joined : (bits at count : ℕ) (xs : List (List Bool)) → at + count ≡ lines_for bits → Each (Piece bits) at count xs
    → (length (joined xs) ≡ bits - 64 * at) × (cut count (joined xs) ≡ xs)
unfolding cut joined
pieces-joined bits at zero [] all pieces = (omega (arith, all), refl)
pieces-joined bits at zero (x ∷ xs) all pieces = absurd pieces
pieces-joined bits at (suc count) [] all pieces = absurd pieces
pieces-joined bits at (suc count) (x ∷ xs) all pieces =
    let rest = pieces-joined bits (at + 1) count xs (omega (arith, all)) pieces.1 in
    let counts : length x ≡ min 64 (bits - 64 * at) = pieces.0 in
    let sides : (length x ≡ 64) ⊎ ((length x ≤ 64) × (length (joined xs) ≡ 0)) = elim (cases_lt (bits - 64 * at) 64) [
      | inl few ↦ inr (omega (arith, counts), omega (arith, rest.0, few))
      | inr many ↦ inl (omega (arith, counts, many))
    ] in
    let parts = first_piece x (joined xs) sides in (
      omega (arith, length-append x (joined xs), rest.0, counts),
      ap (λ l. l ∷ cut count (drop 64 (x ++ joined xs))) parts.0 ∙ (ap (λ l. x ∷ cut count l) parts.1 ∙ ap (λ l. x ∷ l) rest.1),
    )

cut-one : {A : Type 0} (count : ℕ) (xs ys : List A) → length xs ≤ 64 * count → length ys ≤ 64 * count → cut count xs ≡ cut count ys → xs ≡ ys
unfolding cut
cut-one zero [] [] few less same = refl
cut-one zero (x ∷ xs) ys few less same = absurd (omega arith)
cut-one zero [] (y ∷ ys) few less same = absurd (omega arith)
cut-one (suc count) xs ys few less same =
    let first : take 64 xs ≡ take 64 ys = cc in
    let others : cut count (drop 64 xs) ≡ cut count (drop 64 ys) = cc in
    let rest : drop 64 xs ≡ drop 64 ys = cut-one count (drop 64 xs) (drop 64 ys) (omega (arith, length-drop 64 xs)) (omega (arith, length-drop 64 ys)) others in
    sym (take-append-drop 64 xs) ∙ (ap (λ l. l ++ drop 64 xs) first ∙ (ap (λ l. take 64 ys ++ l) rest ∙ take-append-drop 64 ys))

-- the lines by their numbers are those of the pieces
pub cut-lines : {A : Type 0} (form : ℕ → List ℕ → A) (xs : List Bool) (at count : ℕ)
    → indexed (λ (line : ℕ) (piece : List Bool). form line (map bit_sign piece) ∷ []) at (cut count (drop (64 * at) xs)) ≡ numbered (λ line. form line (signs_on xs line) ∷ []) at count
unfolding cut indexed numbered
cut-lines form xs at zero = refl
cut-lines form xs at (suc count) =
    let next : 64 * at + 64 ≡ 64 * (at + 1) = omega arith in
    let rest : drop 64 (drop (64 * at) xs) ≡ drop (64 * (at + 1)) xs = drop-drop 64 (64 * at) xs ∙ ap (λ n. drop n xs) next in
    ap (λ l. form at (signs_on xs at) ∷ l)
    (ap (λ l. indexed (λ (line : ℕ) (piece : List Bool). form line (map bit_sign piece) ∷ []) (at + 1) (cut count l)) rest ∙ cut-lines form xs (at + 1) count)

-- and of the lines that so many bits take
whole-lines : {A : Type 0} (form : ℕ → List ℕ → A) (bits : ℕ) (xs : List Bool) → Counts bits xs
    → indexed (λ (line : ℕ) (piece : List Bool). form line (map bit_sign piece) ∷ []) 0 (cut (lines_for bits - 0) xs) ≡ each (λ line. form line (signs_on xs line) ∷ []) 0 (lines_for (length xs))
whole-lines form bits xs many = cut-lines form xs 0 (lines_for bits - 0) ∙ ap (λ n. numbered (λ line. form line (signs_on xs line) ∷ []) 0 (lines_for n - 0)) (sym many)

-- so many bits on lines of 64, where the bits of each line are spelled
pub bits-spells : (version bits : ℕ) (form : List ℕ → Said) (spot : ℕ → List ℕ → Placed) (due : ℕ → List Slot)
    → ((line : ℕ) → Spells version (Counts (bits_on bits line)) (λ (piece : List Bool). form (map bit_sign piece) ∷ []) (λ (piece : List Bool). spot line (map bit_sign piece) ∷ []) (due line))
    → Spells version (Counts bits) (λ (xs : List Bool). each (λ line. form (signs_on xs line) ∷ []) 0 (lines_for (length xs)))
    (λ (xs : List Bool). each (λ line. spot line (signs_on xs line) ∷ []) 0 (lines_for (length xs))) (each due 0 (lines_for bits))
bits-spells version bits form spot due spells =
    let all : 0 + (lines_for bits - 0) ≡ lines_for bits = omega arith in
    let g : ℕ → List Bool → List Said = λ line piece. form (map bit_sign piece) ∷ [] in
    let h : ℕ → List Bool → List Placed = λ line piece. spot line (map bit_sign piece) ∷ [] in
    let pieces = spells-each version (Piece bits) g h due spells 0 (lines_for bits - 0) in
    spells-lines version (Counts bits) (λ (xs : List Bool). indexed g 0 (cut (lines_for bits - 0) xs)) (λ (xs : List Bool). each (λ line. form (signs_on xs line) ∷ []) 0 (lines_for (length xs)))
    (λ (xs : List Bool). indexed h 0 (cut (lines_for bits - 0) xs)) (λ (xs : List Bool). each (λ line. spot line (signs_on xs line) ∷ []) 0 (lines_for (length xs)))
    (each due 0 (lines_for bits)) (whole-lines (λ line. form) bits) (whole-lines spot bits)
    (spells-change version (Each (Piece bits) 0 (lines_for bits - 0)) (Counts bits) (indexed g 0) (indexed h 0) (each due 0 (lines_for bits)) (cut (lines_for bits - 0))
    (λ xs many. cut-pieces bits 0 (lines_for bits - 0) xs (omega (arith, many)))
    (λ xs passes. let whole = pieces-joined bits 0 (lines_for bits - 0) xs all passes in (joined xs, omega (arith, whole.0), whole.1))
    (λ xs ys some many same. cut-one (lines_for bits - 0) xs ys (omega (arith, some)) (omega (arith, many)) same)
    pieces)
