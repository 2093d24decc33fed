-- A line of bits in a table of bits and in a table of counts.
use Rattle.std.proofs.Common.{◌≡◌, ◌≢◌, ℕ, zero, suc, ◌+◌, ◌-◌, ◌%◌, ◌<◌, ◌≤◌, ◌==◌, nat_le, min, inl, inr, Bool, true, false, ◌&&◌, ◌||◌, List, [], ◌∷◌, length, get_or, set, refl, sym, ap, ◌∙◌, arith, length-set, get_or-set_same, get_or-set_other, eq-eqb, ne_eqb, zero-add, le-leb}
use Rattle.std.proofs.lemmas.Bool.{and_left, and_right, cases_Bool, cases_eq, cases_lt, lt-leb}
use Rattle.std.proofs.Math.Bool.{or-false, or-true}
use Rattle.std.proofs.Math.Nat.{min-le_right}
use Rattle.sg_check.specs.Facts.{bit_at, votes_in}
use Rattle.sg_ledger.specs.inside.Tables.{most_votes, with_bits, with_one_more, with_votes}

pub length-bits : (table : List Bool) (at : ℕ) (bits : List ℕ) → length (with_bits table at bits) ≡ length table
length-bits table at [] = refl
length-bits table at (bit ∷ bits) =
    elim (cases_Bool (bit == 0x31)) [
      | inl one ↦ rw one (length-bits (set table at true) (at + 1) bits ∙ length-set table at true)
      | inr zero' ↦ rw zero' (length-bits table (at + 1) bits)
    ]

-- the place is one of those of the bits, and its bit is a 1
abbrev pub is_one : ℕ → List ℕ → ℕ → Bool
is_one at bits place = nat_le at place && bit_at bits (place - at)

-- the first of the bits is of this place
one-first : (at : ℕ) (bit : ℕ) (bits : List ℕ) (place : ℕ) → place ≡ at → is_one at (bit ∷ bits) place ≡ (bit == 0x31)
one-first at bit bits place same =
    let none : place - at ≡ 0 = omega arith in
    rw (le-leb at place (omega arith), none) refl

-- it is of another place
one-later : (at : ℕ) (bit : ℕ) (bits : List ℕ) (place : ℕ) → place ≢ at → is_one at (bit ∷ bits) place ≡ is_one (at + 1) bits place
one-later at bit bits place other =
    elim (cases_lt place at) [
      | inl before ↦ rw (lt-leb at place before, lt-leb (at + 1) place (omega arith)) refl
      | inr behind ↦
          let more : place - at ≡ suc (place - (at + 1)) = omega arith in
          rw (le-leb at place behind, le-leb (at + 1) place (omega arith), more) refl
    ]

one-before : (at : ℕ) (bits : List ℕ) (place : ℕ) → place < at → is_one at bits place ≡ false
one-before at bits place before = and_left (nat_le at place) (bit_at bits (place - at)) (lt-leb at place before)

-- what stands at a place behind a line of bits
pub bits-at : (table : List Bool) (at : ℕ) (bits : List ℕ) (place : ℕ) → at + length bits ≤ length table
    → get_or (with_bits table at bits) place false ≡ (get_or table place false || is_one at bits place)
bits-at table at [] place within = sym (ap (λ (b : Bool). get_or table place false || b) (and_right (nat_le at place) false refl) ∙ or-false (get_or table place false))
bits-at table at (bit ∷ bits) place within =
    let here : at < length table = omega arith in
    elim (cases_Bool (bit == 0x31)) [
      | inl one ↦
          let rest = bits-at (set table at true) (at + 1) bits place (omega (arith, length-set table at true)) in
          elim (cases_eq place at) [
            | inl same ↦
                let there : get_or (set table at true) place false ≡ true = rw same (get_or-set_same table at true false here) in
                rw (one) (rest ∙ (rw (there, one-first at bit bits place same, one) (sym (or-true (get_or table place false)))))
            | inr other ↦ rw one (rest ∙ rw (get_or-set_other table at place true false other, one-later at bit bits place other) refl)
          ]
      | inr none ↦
          let rest = bits-at table (at + 1) bits place (omega arith) in
          elim (cases_eq place at) [
            | inl same ↦ rw none (rest ∙ rw (one-before (at + 1) bits place (omega arith), one-first at bit bits place same, none) refl)
            | inr other ↦ rw none (rest ∙ rw (one-later at bit bits place other) refl)
          ]
    ]

-- a bit behind the last one is none
pub bit_at-past : (bits : List ℕ) (at : ℕ) → length bits ≤ at → bit_at bits at ≡ false
bit_at-past [] at past = refl
bit_at-past (bit ∷ bits) zero past = absurd (omega arith)
bit_at-past (bit ∷ bits) (suc at) past = bit_at-past bits at (omega arith)

-- COUNTS

pub length-votes : (candidates first : ℕ) (votes : List ℕ) (place : ℕ) (bits : List ℕ) → length (with_votes candidates first votes place bits) ≡ length votes
length-votes candidates first votes place [] = refl
length-votes candidates first votes place (bit ∷ bits) =
    elim (cases_Bool (bit == 0x31)) [
      | inl one ↦ rw one (length-votes candidates first (with_one_more most_votes votes (first + place % candidates)) (place + 1) bits ∙ length-set votes (first + place % candidates) (min (get_or votes (first + place % candidates) 0 + 1) most_votes))
      | inr none ↦ rw none (length-votes candidates first votes (place + 1) bits)
    ]

-- one more, and then more, up to the most
pub min-twice : (most a b : ℕ) → min (min (a + 1) most + b) most ≡ min (a + (1 + b)) most
min-twice most a b = omega arith

pub min-none : (most a : ℕ) → a ≤ most → min (a + 0) most ≡ a
min-none most a few = omega arith

-- what stands at a candidate's place behind a line of bits
pub votes-at : (candidates first : ℕ) (votes : List ℕ) (place : ℕ) (bits : List ℕ) (candidate : ℕ) → 0 < candidates → first + candidates ≤ length votes → candidate < candidates
    → get_or votes (first + candidate) 0 ≤ most_votes
    → get_or (with_votes candidates first votes place bits) (first + candidate) 0 ≡ min (get_or votes (first + candidate) 0 + votes_in candidates candidate place bits) most_votes
votes-at candidates first votes place [] candidate some within below few = sym (min-none most_votes (get_or votes (first + candidate) 0) few)
votes-at candidates first votes place (bit ∷ bits) candidate some within below few =
    let at = first + place % candidates in
    let old = get_or votes (first + candidate) 0 in
    let more = with_one_more most_votes votes at in
    let sized : length more ≡ length votes = length-set votes at (min (get_or votes at 0 + 1) most_votes) in
    let behind = votes_in candidates candidate (place + 1) bits in
    elim (cases_Bool (bit == 0x31)) [
      | inl one ↦ elim (cases_eq (place % candidates) candidate) [
        | inl same ↦
            let within' : first + place % candidates < length votes = rw same (omega arith) in
            let there : get_or more (first + candidate) 0 ≡ min (old + 1) most_votes = rw (← same) (get_or-set_same votes at (min (get_or votes at 0 + 1) most_votes) 0 within') in
            let rest = votes-at candidates first more (place + 1) bits candidate some (rw sized within) below (rw there (min-le_right (old + 1) most_votes)) in
            rw (one, eq-eqb (place % candidates) candidate same) (rest ∙ (ap (λ (k : ℕ). min (k + behind) most_votes) there ∙ min-twice most_votes old behind))
        | inr other ↦
            let apart : first + candidate ≢ at = λ e. other (omega (arith, e)) in
            let there : get_or more (first + candidate) 0 ≡ old = get_or-set_other votes at (first + candidate) (min (get_or votes at 0 + 1) most_votes) 0 apart in
            let rest = votes-at candidates first more (place + 1) bits candidate some (rw sized within) below (rw there few) in
            rw (one, ne_eqb (place % candidates) candidate other) (rest ∙ (ap (λ (k : ℕ). min (k + behind) most_votes) there ∙ ap (λ (k : ℕ). min (old + k) most_votes) (sym (zero-add behind))))
      ]
      | inr none ↦
          let rest = votes-at candidates first votes (place + 1) bits candidate some within below few in
          rw none (rest ∙ ap (λ (k : ℕ). min (old + k) most_votes) (sym (zero-add behind)))
    ]
