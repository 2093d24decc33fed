-- A total is the number of the candidate's places that are set.
use Rattle.std.proofs.Common.{◌≡◌, ℕ, zero, suc, ◌+◌, ◌-◌, ◌%◌, ◌<◌, ◌≤◌, ◌==◌, nat_le, nat_lt, Bool, true, false, ◌&&◌, ◌||◌, inl, inr, List, [], ◌∷◌, ◌++◌, length, refl, sym, subst, ap, ◌∙◌, arith}
use Rattle.std.proofs.lemmas.Bool.{and_left, and_parts, and_right, cases_eq, cases_lt, eq-eqb, le-leb, le-ltb, leb-true, lt-leb, ltb-false, ne_eqb, or_from, or_parts}
use Rattle.std.proofs.lemmas.List.Sums.{sum_by-append, sum_by-cons}
use Rattle.std.specs.List.{list_any}
use Rattle.sg_lists.proofs.Bools.{one_if}
use Rattle.sg_plan.specs.Ballots.{candidates_of, entries_of}
use Rattle.sg_plan.specs.declared.plan.Plan.{Plan}
use Rattle.sg_grammar.specs.Lines.{IsAmong}
use Rattle.sg_grammar.specs.Parting.{Apart, IsLineIn, None_of, are_places, are_places_before, clash}
use Rattle.sg_grammar.specs.Placed.{Placed}
use Rattle.sg_grammar.specs.Placed.Placed.{PlacesAt, TotalAt}
use Rattle.sg_check.specs.Facts.{bit_at, is_set, sets_place, votes_for, votes_in, votes_on}
use Rattle.sg_check.proofs.Counting.{count-none, count-one_more, count-or, count-same}
use Rattle.sg_grammar.proofs.Lists.{apart-behind, none-weaken}
use Rattle.sg_check.specs.Printings.{count_below}

-- the line has a place of n or more
abbrev is_out : Plan → Placed → Bool
is_out plan (PlacesAt race from bits) = nat_lt (entries_of plan race - from) (length bits)
is_out plan line = false

-- no line has, where the numbers of each are in the plan
pub places_in : (plan : Plan) (lines : List Placed) → ((line : Placed) → IsAmong lines line → IsLineIn plan line) → None_of (is_out plan) lines
places_in plan [] within = refl
places_in plan (line ∷ lines) within =
    or_from (is_out plan line) (list_any (is_out plan) lines) (one line (within line ([], lines, refl)))
    (places_in plan lines (λ later among. within later (line ∷ among.0, among.1, ap (λ (l : List Placed). line ∷ l) among.2)))
  where
    one : (x : Placed) → IsLineIn plan x → is_out plan x ≡ false
    one (PlacesAt race from bits) is = le-ltb (entries_of plan race - from) (length bits) (omega (arith, is.placed.1))
    one x is = refl

-- ONE LINE OF PLACES

bit_past : (bits : List ℕ) (at : ℕ) → length bits ≤ at → bit_at bits at ≡ false
bit_past [] at past = refl
bit_past (bit ∷ bits) zero past = absurd (omega arith)
bit_past (bit ∷ bits) (suc at) past = bit_past bits at (omega arith)

-- the bit of a place
abbrev has_bit : ℕ → List ℕ → ℕ → Bool
has_bit from bits place = nat_le from place && bit_at bits (place - from)

bit_here : (from bit : ℕ) (bits : List ℕ) → has_bit from (bit ∷ bits) from ≡ (bit == 0x31)
bit_here from bit bits =
    let none : from - from ≡ 0 = omega arith in
    rw (le-leb from from (omega arith), none) refl

bit_behind : (from bit : ℕ) (bits : List ℕ) (place : ℕ) → (place ≡ from → ⊥) → has_bit from (bit ∷ bits) place ≡ has_bit (from + 1) bits place
bit_behind from bit bits place other = elim (cases_lt place from) [
  | inl less ↦ rw (lt-leb from place less, lt-leb (from + 1) place (omega arith)) refl
  | inr more ↦
      let step : place - from ≡ suc (place - (from + 1)) = omega (arith, more, other) in
      rw (le-leb from place more, le-leb (from + 1) place (omega (arith, more, other)), step) refl
]

bit_not_before : (from : ℕ) (bits : List ℕ) → has_bit (from + 1) bits from ≡ false
bit_not_before from bits = rw (lt-leb (from + 1) from (omega arith)) refl

votes_count : (candidates candidate from : ℕ) (bits : List ℕ) (n : ℕ) → length bits ≤ n - from
    → votes_in candidates candidate from bits ≡ count_below (λ place. has_bit from bits place && place % candidates == candidate) n
votes_count candidates candidate from [] n within =
    sym (count-none (λ place. has_bit from [] place && place % candidates == candidate) n
    (λ k less. and_left (has_bit from [] k) (k % candidates == candidate) (and_right (nat_le from k) (bit_at [] (k - from)) refl)))
votes_count candidates candidate from (bit ∷ bits) n within =
    let rest = votes_count candidates candidate (from + 1) bits n (omega (arith, within)) in
    let more = count-one_more (λ place. has_bit from (bit ∷ bits) place && place % candidates == candidate) (λ place. has_bit (from + 1) bits place && place % candidates == candidate) from n
    (omega (arith, within)) (and_left (has_bit (from + 1) bits from) (from % candidates == candidate) (bit_not_before from bits))
    (λ k other. ap (λ (b : Bool). b && k % candidates == candidate) (bit_behind from bit bits k other)) in
    let here = ap (λ (b : Bool). one_if (b && from % candidates == candidate)) (bit_here from bit bits) in
    omega (arith, rest, more, here)

-- ALL LINES

-- places that stand before an end are not set behind it
set_before : (race place from : ℕ) (bits : List ℕ) (lines : List Placed) → has_bit from bits place ≡ true → None_of (are_places_before race (from + length bits)) lines → is_set race place lines ≡ false
set_before race place from bits lines has none = none-weaken (are_places_before race (from + length bits)) (sets_place race place) lines not_set none
  where
    within : place < from + length bits
    within =
        let parts = and_parts (nat_le from place) (bit_at bits (place - from)) has in
        elim (cases_lt (place - from) (length bits)) [
          | inl less ↦ omega (arith, less, leb-true from place parts.0)
          | inr past ↦ let both : true ≡ false = sym parts.1 ∙ bit_past bits (place - from) past in cc
        ]

    at_places : (of at : ℕ) (list : List ℕ) → (race == of && nat_lt at (from + length bits)) ≡ false → (of == race && has_bit at list place) ≡ false
    at_places of at list before = elim (cases_eq of race) [
      | inl same ↦
          let past : (race == of && nat_lt at (from + length bits)) ≡ nat_lt at (from + length bits) = rw (eq-eqb race of (sym same)) refl in
          let behind = ltb-false at (from + length bits) (sym past ∙ before) in
          and_right (of == race) (has_bit at list place) (and_left (nat_le at place) (bit_at list (place - at)) (lt-leb at place (omega (arith, behind, within))))
      | inr other ↦ and_left (of == race) (has_bit at list place) (ne_eqb of race other)
    ]

    not_set : (line : Placed) → are_places_before race (from + length bits) line ≡ false → sets_place race place line ≡ false
    not_set (PlacesAt of at list) before = at_places of at list before
    not_set line before = refl

module _ (plan : Plan) (race candidate : ℕ) where
  -- places of the candidate that are set
  abbrev pub is_vote : List Placed → ℕ → Bool
  is_vote lines place = is_set race place lines && place % candidates_of plan race == candidate

  same_or : (b x y : Bool) → ((b || x) && y) ≡ ((b && y) || (x && y))
  same_or true x true = refl
  same_or true x false = and_off x
    where
      and_off : (x : Bool) → false ≡ (x && false)
      and_off true = refl
      and_off false = refl
  same_or false x y = refl

  no_more : (a b y : Bool) → (a ≡ true → b ≡ false) → (a && y) ≡ true → (b && y) ≡ false
  no_more true b y none e = rw (none refl) refl
  no_more false b y none e = cc

  places_more : (from : ℕ) (bits : List ℕ) (lines : List Placed) → length bits ≤ entries_of plan race - from → None_of (are_places_before race (from + length bits)) lines
      → votes_for plan race candidate lines ≡ count_below (is_vote lines) (entries_of plan race)
      → votes_in (candidates_of plan race) candidate from bits + votes_for plan race candidate lines
      ≡ count_below (λ place. (has_bit from bits place || is_set race place lines) && place % candidates_of plan race == candidate) (entries_of plan race)
  places_more from bits lines within none rest =
      let of_line : ℕ → Bool = λ place. has_bit from bits place && place % candidates_of plan race == candidate in
      let here = votes_count (candidates_of plan race) candidate from bits (entries_of plan race) within in
      let both = count-or of_line (is_vote lines) (entries_of plan race)
      (λ k less. no_more (has_bit from bits k) (is_set race k lines) (k % candidates_of plan race == candidate) (λ has. set_before race k from bits lines has none)) in
      let same = count-same (λ place. (has_bit from bits place || is_set race place lines) && place % candidates_of plan race == candidate) (λ place. of_line place || is_vote lines place) (entries_of plan race)
      (λ k less. same_or (has_bit from bits k) (is_set race k lines) (k % candidates_of plan race == candidate)) in
      omega (arith, here, both, same, rest)

  pub votes-count : (lines : List Placed) → Apart clash lines → None_of (is_out plan) lines → votes_for plan race candidate lines ≡ count_below (is_vote lines) (entries_of plan race)
  votes-count [] apart none = sym (count-none (is_vote []) (entries_of plan race) (λ k less. refl))
  votes-count (PlacesAt of from bits ∷ lines) apart none =
      let parts = or_parts (nat_lt (entries_of plan of - from) (length bits)) (list_any (is_out plan) lines) none in
      let more = sum_by-cons (votes_on plan race candidate) (PlacesAt of from bits) lines in
      let rest = votes-count lines apart.1 parts.1 in
      elim (cases_eq of race) [
        | inl same ↦
            let here : votes_on plan race candidate (PlacesAt of from bits) ≡ votes_in (candidates_of plan race) candidate from bits = rw (eq-eqb of race same) refl in
            let set_here : (place : ℕ) → is_vote (PlacesAt of from bits ∷ lines) place ≡ ((has_bit from bits place || is_set race place lines) && place % candidates_of plan race == candidate)
            = λ place. rw (eq-eqb of race same) refl in
            let counted = count-same (is_vote (PlacesAt of from bits ∷ lines)) (λ place. (has_bit from bits place || is_set race place lines) && place % candidates_of plan race == candidate) (entries_of plan race) (λ k less. set_here k) in
            let joined = places_more from bits lines (subst (λ r. length bits ≤ entries_of plan r - from) same (ltb-false (entries_of plan of - from) (length bits) parts.0)) (subst (λ r. None_of (are_places_before r (from + length bits)) lines) same apart.0) rest in
            omega (arith, more, here, counted, joined)
        | inr other ↦
            let here : votes_on plan race candidate (PlacesAt of from bits) ≡ 0 = rw (ne_eqb of race other) refl in
            let set_here : (place : ℕ) → is_vote (PlacesAt of from bits ∷ lines) place ≡ is_vote lines place = λ place. rw (ne_eqb of race other) refl in
            let counted = count-same (is_vote (PlacesAt of from bits ∷ lines)) (is_vote lines) (entries_of plan race) (λ k less. set_here k) in
            omega (arith, more, here, counted, rest)
      ]
  votes-count (line ∷ lines) apart none =
      let parts = or_parts (is_out plan line) (list_any (is_out plan) lines) none in
      let more = sum_by-cons (votes_on plan race candidate) line lines in
      let rest = votes-count lines apart.1 parts.1 in
      omega (arith, more, rest)

  -- behind its total no place of the race is set
  votes_behind : (lines : List Placed) → None_of (are_places race) lines → votes_for plan race candidate lines ≡ 0
  votes_behind [] none = refl
  votes_behind (line ∷ lines) none =
      let parts = or_parts (are_places race line) (list_any (are_places race) lines) none in
      omega (arith, sum_by-cons (votes_on plan race candidate) line lines, votes_behind lines parts.1, none_on line parts.0)
    where
      none_on : (l : Placed) → are_places race l ≡ false → votes_on plan race candidate l ≡ 0
      none_on (PlacesAt of from bits) e = elim (cases_eq of race) [
        | inl same ↦ let both : true ≡ false = sym (eq-eqb race of (sym same)) ∙ e in cc
        | inr other ↦ rw (ne_eqb of race other) refl
      ]
      none_on l e = refl

  -- the set places before the total are all of them
  pub votes_before : (front rest : List Placed) (count : ℕ) → Apart clash (front ++ TotalAt race candidate count ∷ rest)
      → votes_for plan race candidate (front ++ TotalAt race candidate count ∷ rest) ≡ votes_for plan race candidate front
  votes_before front rest count apart =
      let behind = apart-behind clash front rest (TotalAt race candidate count) apart in
      omega (
        arith,
        sum_by-append (votes_on plan race candidate) front (TotalAt race candidate count ∷ rest),
        sum_by-cons (votes_on plan race candidate) (TotalAt race candidate count) rest,
        votes_behind rest behind,
      )
