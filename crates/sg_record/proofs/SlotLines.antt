-- The lines of single values in their slots.
use Rattle.std.proofs.Common.{◌≡◌, ℕ, suc, ◌*◌, ◌==◌, Bool, true, false, ◌&&◌, inl, inr, List, [], ◌∷◌, All, length, map, refl, sym, ap, ◌∙◌}
use Rattle.std.proofs.lemmas.Bool.{and_parts, eq-eqb, eqb-true}
use Rattle.std.proofs.lemmas.List.Elements.{All-head, All-tail}
use Rattle.sg_commit.specs.declared.Digest.{Digest}
use Rattle.sg_lines.specs.Words.{IsBit}
use Rattle.sg_forms.specs.Said.{Said}
use Rattle.sg_forms.specs.Said.Said.{CodeCommit, RowCommit, Seal, Flags, Places, Total, Row}
use Rattle.sg_forms.specs.Spelling.{IsInRange}
use Rattle.sg_forms.specs.declared.line.RowOpening.{RowOpening}
use Rattle.sg_grammar.specs.Placed.Placed.{CodeCommitAt, RowCommitAt, SealAt, FlagsAt, PlacesAt, RowAt, TotalAt}
use Rattle.sg_grammar.specs.declared.state.Slot.TheVariants as slot
use Rattle.sg_record.proofs.Filling.{Spells, fits, passed, spells-line}
use Rattle.sg_record.specs.Tree.{bit_sign}
use Rattle.sg_record.specs.declared.record.RowCommit.{RowCommit as RowDigests}

-- any value
abbrev pub Any : {A : Type 0} → A → Type 0
Any x = Unit {0}

pub code_commit-spells : (version race entry : ℕ) → Spells version Any (λ (digest : Digest). CodeCommit race digest ∷ []) (λ (digest : Digest). CodeCommitAt race entry digest ∷ []) (slot.CodeCommit race entry ∷ [])
code_commit-spells version race entry =
    spells-line version Any (λ (digest : Digest). CodeCommit race digest) (λ (digest : Digest). CodeCommitAt race entry digest) (slot.CodeCommit race entry)
    (λ digest any. rw (eq-eqb race race refl) refl)
    from
    (λ x y p q same. cc)
  where
    from : (said : Said) → fits (slot.CodeCommit race entry) said ≡ true → IsInRange version said → (x : Digest) × Any x × (said ≡ CodeCommit race x)
    from (CodeCommit named digest) there fit =
        let same : named ≡ race = eqb-true named race (passed (named == race) (CodeCommitAt race entry digest) there) in
        (digest, tt, ap (λ r. CodeCommit r digest) same)
    from said there fit = cc

pub row_commit-spells : (version race instance row : ℕ)
    → Spells version Any (λ (digests : RowDigests). RowCommit race instance digests.left digests.right ∷ []) (λ (digests : RowDigests). RowCommitAt race instance row digests.left digests.right ∷ [])
    (slot.RowCommit race instance row ∷ [])
row_commit-spells version race instance row =
    spells-line version Any (λ (digests : RowDigests). RowCommit race instance digests.left digests.right) (λ (digests : RowDigests). RowCommitAt race instance row digests.left digests.right)
    (slot.RowCommit race instance row)
    (λ digests any. rw (eq-eqb race race refl, eq-eqb instance instance refl) refl)
    from
    (λ x y p q same.
    let left : x.left ≡ y.left = cc in
    let right : x.right ≡ y.right = cc in
    ap (λ (d : Digest). let digests : RowDigests = record { left = d; right = x.right } in digests) left
    ∙ ap (λ (d : Digest). let digests : RowDigests = record { left = y.left; right = d } in digests) right)
  where
    from : (said : Said) → fits (slot.RowCommit race instance row) said ≡ true → IsInRange version said
        → (x : RowDigests) × Any x × (said ≡ RowCommit race instance x.left x.right)
    from (RowCommit named of left right) there fit =
        let tests = and_parts (named == race) (of == instance) (passed (named == race && of == instance) (RowCommitAt race instance row left right) there) in
        let same : named ≡ race = eqb-true named race tests.0 in
        let too : of ≡ instance = eqb-true of instance tests.1 in
        (record { left = left; right = right }, tt, ap (λ r. RowCommit r of left right) same ∙ ap (λ i. RowCommit race i left right) too)
    from said there fit = cc

pub seal-spells : (version number : ℕ) → Spells version Any (λ (digest : Digest). Seal number digest ∷ []) (λ (digest : Digest). SealAt number digest ∷ []) (slot.Seal number ∷ [])
seal-spells version number =
    spells-line version Any (λ (digest : Digest). Seal number digest) (λ (digest : Digest). SealAt number digest) (slot.Seal number)
    (λ digest any. rw (eq-eqb number number refl) refl)
    from
    (λ x y p q same. cc)
  where
    from : (said : Said) → fits (slot.Seal number) said ≡ true → IsInRange version said → (x : Digest) × Any x × (said ≡ Seal number x)
    from (Seal named digest) there fit =
        let same : named ≡ number = eqb-true named number (passed (named == number) (SealAt number digest) there) in
        (digest, tt, ap (λ n. Seal n digest) same)
    from said there fit = cc

pub total-spells : (version race candidate : ℕ) → Spells version Any (λ (count : ℕ). Total race candidate count ∷ []) (λ (count : ℕ). TotalAt race candidate count ∷ []) (slot.Total race candidate ∷ [])
total-spells version race candidate =
    spells-line version Any (λ (count : ℕ). Total race candidate count) (λ (count : ℕ). TotalAt race candidate count) (slot.Total race candidate)
    (λ count any. rw (eq-eqb race race refl, eq-eqb candidate candidate refl) refl)
    from
    (λ x y p q same. cc)
  where
    from : (said : Said) → fits (slot.Total race candidate) said ≡ true → IsInRange version said → (x : ℕ) × Any x × (said ≡ Total race candidate x)
    from (Total named of count) there fit =
        let tests = and_parts (named == race) (of == candidate) (passed (named == race && of == candidate) (TotalAt race candidate count) there) in
        let same : named ≡ race = eqb-true named race tests.0 in
        let too : of ≡ candidate = eqb-true of candidate tests.1 in
        (count, tt, ap (λ r. Total r of count) same ∙ ap (λ c. Total race c count) too)
    from said there fit = cc

pub row-spells : (version race instance at : ℕ) → Spells version Any (λ (opening : RowOpening). Row opening ∷ []) (λ (opening : RowOpening). RowAt race instance at opening ∷ []) (slot.Row race instance at ∷ [])
row-spells version race instance at =
    spells-line version Any (λ (opening : RowOpening). Row opening) (λ (opening : RowOpening). RowAt race instance at opening) (slot.Row race instance at) (λ opening any. refl) from (λ x y p q same. cc)
  where
    from : (said : Said) → fits (slot.Row race instance at) said ≡ true → IsInRange version said → (x : RowOpening) × Any x × (said ≡ Row x)
    from (Row opening) there fit = (opening, tt, refl)
    from said there fit = cc

-- BITS

-- signs of bits are those of a list of bits
signs_of : (signs : List ℕ) → All IsBit signs → (bits : List Bool) × (signs ≡ map bit_sign bits)
signs_of [] are = ([], refl)
signs_of (sign ∷ signs) are =
    let rest = signs_of signs (All-tail IsBit sign signs are) in
    elim (All-head IsBit sign signs are) [
      | inl unset ↦ (false ∷ rest.0, ap (λ s. s ∷ signs) unset ∙ ap (λ l. 48 ∷ l) rest.1)
      | inr set ↦ (true ∷ rest.0, ap (λ s. s ∷ signs) set ∙ ap (λ l. 49 ∷ l) rest.1)
    ]

-- different bits have different signs
signs_one : (xs ys : List Bool) → map bit_sign xs ≡ map bit_sign ys → xs ≡ ys
signs_one [] [] same = refl
signs_one [] (y ∷ ys) same = cc
signs_one (x ∷ xs) [] same = cc
signs_one (x ∷ xs) (y ∷ ys) same =
    let first : bit_sign x ≡ bit_sign y = cc in
    let others : map bit_sign xs ≡ map bit_sign ys = cc in
    ap (λ b. b ∷ xs) (bit_one x y first) ∙ ap (λ l. y ∷ l) (signs_one xs ys others)
  where
    bit_one : (a b : Bool) → bit_sign a ≡ bit_sign b → a ≡ b
    bit_one true true e = refl
    bit_one false false e = refl
    bit_one true false e = cc
    bit_one false true e = cc

pub signs_length : (bits : List Bool) → length (map bit_sign bits) ≡ length bits
signs_length [] = refl
signs_length (bit ∷ bits) = ap suc (signs_length bits)

-- so many bits
abbrev pub Counts : ℕ → List Bool → Type 0
Counts count bits = length bits ≡ count

pub flags-spells : (version race instance line count : ℕ)
    → Spells version (Counts count) (λ (bits : List Bool). Flags race instance (map bit_sign bits) ∷ []) (λ (bits : List Bool). FlagsAt race instance (64 * line) (map bit_sign bits) ∷ [])
    (slot.Flags race instance line count ∷ [])
flags-spells version race instance line count =
    spells-line version (Counts count) (λ (bits : List Bool). Flags race instance (map bit_sign bits)) (λ (bits : List Bool). FlagsAt race instance (64 * line) (map bit_sign bits))
    (slot.Flags race instance line count)
    (λ bits counts. rw (eq-eqb race race refl, eq-eqb instance instance refl, signs_length bits, eq-eqb (length bits) count counts) refl)
    from
    (λ x y p q same. signs_one x y (let signs : map bit_sign x ≡ map bit_sign y = cc in signs))
  where
    from : (said : Said) → fits (slot.Flags race instance line count) said ≡ true → IsInRange version said
        → (x : List Bool) × Counts count x × (said ≡ Flags race instance (map bit_sign x))
    from (Flags named of signs) there fit =
        let tests = and_parts (named == race && of == instance) (length signs == count)
        (passed ((named == race && of == instance) && length signs == count) (FlagsAt race instance (64 * line) signs) there) in
        let names = and_parts (named == race) (of == instance) tests.0 in
        let same : named ≡ race = eqb-true named race names.0 in
        let too : of ≡ instance = eqb-true of instance names.1 in
        let bits = signs_of signs fit.2.2.1 in
        let many : length bits.0 ≡ count = sym (signs_length bits.0) ∙ (ap length (sym bits.1) ∙ eqb-true (length signs) count tests.1) in
        (bits.0, many, ap (λ r. Flags r of signs) same ∙ (ap (λ i. Flags race i signs) too ∙ ap (λ l. Flags race instance l) bits.1))
    from said there fit = cc

pub places-spells : (version race line count : ℕ)
    → Spells version (Counts count) (λ (bits : List Bool). Places race (map bit_sign bits) ∷ []) (λ (bits : List Bool). PlacesAt race (64 * line) (map bit_sign bits) ∷ []) (slot.Places race line count ∷ [])
places-spells version race line count =
    spells-line version (Counts count) (λ (bits : List Bool). Places race (map bit_sign bits)) (λ (bits : List Bool). PlacesAt race (64 * line) (map bit_sign bits)) (slot.Places race line count)
    (λ bits counts. rw (eq-eqb race race refl, signs_length bits, eq-eqb (length bits) count counts) refl)
    from
    (λ x y p q same. signs_one x y (let signs : map bit_sign x ≡ map bit_sign y = cc in signs))
  where
    from : (said : Said) → fits (slot.Places race line count) said ≡ true → IsInRange version said
        → (x : List Bool) × Counts count x × (said ≡ Places race (map bit_sign x))
    from (Places named signs) there fit =
        let tests = and_parts (named == race) (length signs == count) (passed (named == race && length signs == count) (PlacesAt race (64 * line) signs) there) in
        let same : named ≡ race = eqb-true named race tests.0 in
        let bits = signs_of signs fit.1.2.1 in
        let many : length bits.0 ≡ count = sym (signs_length bits.0) ∙ (ap length (sym bits.1) ∙ eqb-true (length signs) count tests.1) in
        (bits.0, many, ap (λ r. Places r signs) same ∙ ap (λ l. Places race l) bits.1)
    from said there fit = cc
