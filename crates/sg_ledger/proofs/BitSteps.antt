-- The tables of flags, places and votes tell one more line, where they told the lines before.
use Rattle.std.proofs.Common.{◌≡◌, ◌≢◌, ℕ, ◌+◌, ◌-◌, ◌*◌, ◌%◌, ◌<◌, ◌≤◌, ◌==◌, ◌⊎◌, nat_le, min, inl, inr, Bool, true, false, ◌&&◌, ◌||◌, List, [], ◌∷◌, ◌++◌, length, get_or, refl, sym, ap, ap₂, ◌∙◌, arith, get_or-set_other, eqb-true, eq-eqb, ne_eqb, le-leb}
use Rattle.std.proofs.lemmas.Bool.{and_from, and_left, and_parts, and_right, both_ways, cases_Bool, cases_eq, cases_lt, lt-leb}
use Rattle.std.proofs.lemmas.List.Sums.{sum_by_push}
use Rattle.std.proofs.lemmas.Nat.{mod_below}
use Rattle.std.proofs.Math.Nat.{min-le_right}
use Rattle.sg_check.specs.Facts.{bit_at, flags_row, is_flagged, is_set, sets_place, votes_for, votes_in, votes_on}
use Rattle.sg_ledger.proofs.BitLists.{bit_at-past, bits-at, is_one, votes-at}
use Rattle.sg_ledger.proofs.Lists.{any-push, any-skip}
use Rattle.sg_ledger.proofs.Places.{entry_place-end, row_place-end}
use Rattle.sg_ledger.specs.inside.Steps.{flagged_after, places_after, votes_after}
use Rattle.sg_ledger.specs.inside.Tables.{most_votes, with_one_more, with_votes}
use Rattle.sg_ledger.specs.Tells.{AtCandidates, AtEntries, AtRows, candidate_place}
use Rattle.sg_plan.proofs.PlanLaws.{entry_place-one, row_place-one}
use Rattle.sg_plan.specs.Ballots.{all_entries, candidates_of, entries_of, entry_place, r_rows, row_place}
use Rattle.sg_plan.specs.declared.plan.Plan.{Plan}
use Rattle.sg_grammar.specs.Placed.{Placed}
use Rattle.sg_grammar.specs.Placed.Placed.{FlagsAt, PlacesAt}
use Rattle.sg_grammar.specs.Coordinates.{IsPlacedIn}

-- a bit at a place is that of the coordinate, where `same` says that the coordinates before the last are those of the line
bit_is : (at from place number : ℕ) (bits : List ℕ) (same : Bool) → (same ≡ true → place + from ≡ at + number) → (same ≡ false → at ≤ place → place < at + length bits → ⊥)
    → is_one at bits place ≡ (same && (nat_le from number && bit_at bits (number - from)))
bit_is at from place number bits true here there =
    let shift = here refl in
    elim (cases_lt number from) [
      | inl before ↦ rw (lt-leb at place (omega arith), lt-leb from number before) refl
      | inr behind ↦
          let same_bit : place - at ≡ number - from = omega arith in
          rw (le-leb at place (omega arith), le-leb from number behind, same_bit) refl
    ]
bit_is at from place number bits false here there =
    elim (cases_lt place at) [
      | inl before ↦ and_left (nat_le at place) (bit_at bits (place - at)) (lt-leb at place before)
      | inr behind ↦ elim (cases_lt place (at + length bits)) [
        | inl within ↦ absurd (there refl behind within)
        | inr past ↦ and_right (nat_le at place) (bit_at bits (place - at)) (bit_at-past bits (place - at) (omega arith))
      ]
    ]

-- FLAGS

abbrev pub TellsFlagged : Plan → List Bool → List Placed → Type 0
TellsFlagged plan table lines = AtRows plan table false (λ race instance row flag. flag ≡ is_flagged race instance row lines)

-- the places of a line of flags are of its instance
row_between : (plan : Plan) (race instance from count r i k : ℕ) → instance < plan.instances → from + count ≤ entries_of plan race → i < plan.instances → k < entries_of plan r
    → (race == r && instance == i) ≡ false → row_place plan race instance from ≤ row_place plan r i k → row_place plan r i k < row_place plan race instance from + count → ⊥
row_between plan race instance from count r i k within below within' below' other first last =
    let row = from + (row_place plan r i k - row_place plan race instance from) in
    let there : row_place plan r i k ≡ row_place plan race instance row = omega arith in
    let one = row_place-one plan r i k race instance row within' below' within (omega arith) there in
    both_ways (race == r && instance == i) other (and_from (race == r) (instance == i) (eq-eqb race r (sym one.0)) (eq-eqb instance i (sym one.1)))

pub flagged_step : (plan : Plan) (table : List Bool) (lines : List Placed) (line : Placed) → IsPlacedIn plan line → length table ≡ r_rows plan
    → TellsFlagged plan table lines → TellsFlagged plan (flagged_after plan table line) (lines ++ line ∷ [])
flagged_step plan table lines (FlagsAt race instance from bits) placed sized told = λ r i k r_in i_in k_in.
    let at = row_place plan race instance from in
    let place = row_place plan r i k in
    let within : at + length bits ≤ length table = omega (arith, sized, row_place-end plan race instance (from + length bits) placed.0 placed.1 placed.2) in
    let bit = bit_is at from place k bits (race == r && instance == i)
    (λ same. let parts = and_parts (race == r) (instance == i) same in rw (← eqb-true race r parts.0, ← eqb-true instance i parts.1) (omega arith))
    (row_between plan race instance from (length bits) r i k placed.1 placed.2 i_in k_in) in
    bits-at table at bits place within ∙ (ap₂ (λ (a b : Bool). a || b) (told r i k r_in i_in k_in) bit ∙ sym (any-push (flags_row r i k) lines (FlagsAt race instance from bits)))
flagged_step plan table lines line placed sized told = λ r i k r_in i_in k_in. told r i k r_in i_in k_in ∙ sym (any-skip (flags_row r i k) lines line refl)

-- PLACES

abbrev pub TellsPlaces : Plan → List Bool → List Placed → Type 0
TellsPlaces plan table lines = AtEntries plan table false (λ race place bit. bit ≡ is_set race place lines)

-- the places of a line of bits are of its race
entry_between : (plan : Plan) (race from count r e : ℕ) → from + count ≤ entries_of plan race → e < entries_of plan r
    → (race == r) ≡ false → entry_place plan race from ≤ entry_place plan r e → entry_place plan r e < entry_place plan race from + count → ⊥
entry_between plan race from count r e below below' other first last =
    let entry = from + (entry_place plan r e - entry_place plan race from) in
    let there : entry_place plan r e ≡ entry_place plan race entry = omega arith in
    let one = entry_place-one plan r e race entry below' (omega arith) there in
    both_ways (race == r) other (eq-eqb race r (sym one.0))

pub places_step : (plan : Plan) (table : List Bool) (lines : List Placed) (line : Placed) → IsPlacedIn plan line → length table ≡ all_entries plan
    → TellsPlaces plan table lines → TellsPlaces plan (places_after plan table line) (lines ++ line ∷ [])
places_step plan table lines (PlacesAt race from bits) placed sized told = λ r e r_in e_in.
    let at = entry_place plan race from in
    let place = entry_place plan r e in
    let within : at + length bits ≤ length table = omega (arith, sized, entry_place-end plan race (from + length bits) placed.0 placed.1) in
    let bit = bit_is at from place e bits (race == r)
    (λ same. rw (← eqb-true race r same) (omega arith))
    (entry_between plan race from (length bits) r e placed.1 e_in) in
    bits-at table at bits place within ∙ (ap₂ (λ (a b : Bool). a || b) (told r e r_in e_in) bit ∙ sym (any-push (sets_place r e) lines (PlacesAt race from bits)))
places_step plan table lines line placed sized told = λ r e r_in e_in. told r e r_in e_in ∙ sym (any-skip (sets_place r e) lines line refl)

-- VOTES

abbrev pub TellsVotes : Plan → List ℕ → List Placed → Type 0
TellsVotes plan table lines = AtCandidates plan table (λ race candidate count. count ≡ min (votes_for plan race candidate lines) most_votes)

-- counts that are not of the race's candidates stay
votes-apart : (candidates first : ℕ) (votes : List ℕ) (place : ℕ) (bits : List ℕ) (other : ℕ) → 0 < candidates → (other < first) ⊎ (first + candidates ≤ other)
    → get_or (with_votes candidates first votes place bits) other 0 ≡ get_or votes other 0
votes-apart candidates first votes place [] other some apart = refl
votes-apart candidates first votes place (bit ∷ bits) other some apart =
    let at = first + place % candidates in
    let small = mod_below place candidates some in
    let differ : other ≢ at = λ e. elim apart [ inl before ↦ omega (arith, e, before) | inr behind ↦ omega (arith, e, behind, small) ] in
    elim (cases_Bool (bit == 0x31)) [
      | inl one ↦ rw one (votes-apart candidates first (with_one_more most_votes votes at) (place + 1) bits other some apart ∙ get_or-set_other votes at other (min (get_or votes at 0 + 1) most_votes) 0 differ)
      | inr none ↦ rw none (votes-apart candidates first votes (place + 1) bits other some apart)
    ]

min-join : (most a b : ℕ) → min (min a most + b) most ≡ min (a + b) most
min-join most a b = omega arith

pub min-zero : (most a : ℕ) → min (a + 0) most ≡ min a most
min-zero most a = omega arith

votes-push : (plan : Plan) (r c : ℕ) (lines : List Placed) (line : Placed) → min (votes_for plan r c (lines ++ line ∷ [])) most_votes ≡ min (votes_for plan r c lines + votes_on plan r c line) most_votes
votes-push plan r c lines line = ap (λ (n : ℕ). min n most_votes) (sum_by_push (votes_on plan r c) lines line)

votes-skip : (plan : Plan) (r c : ℕ) (lines : List Placed) (line : Placed) → votes_on plan r c line ≡ 0 → min (votes_for plan r c lines) most_votes ≡ min (votes_for plan r c (lines ++ line ∷ [])) most_votes
votes-skip plan r c lines line none =
    sym (votes-push plan r c lines line ∙ (ap (λ (n : ℕ). min (votes_for plan r c lines + n) most_votes) none ∙ min-zero most_votes (votes_for plan r c lines)))

pub votes_step : (plan : Plan) (table : List ℕ) (lines : List Placed) (line : Placed)
    → ((race : ℕ) → race < length plan.races → 0 < candidates_of plan race) → ((race : ℕ) → candidates_of plan race ≤ 16)
    → IsPlacedIn plan line → length table ≡ 16 * length plan.races → TellsVotes plan table lines → TellsVotes plan (votes_after plan table line) (lines ++ line ∷ [])
votes_step plan table lines (PlacesAt race from bits) some few placed sized told = λ r c r_in c_in.
    let line = PlacesAt race from bits in
    let n = candidates_of plan race in
    let first = candidate_place race 0 in
    let v = votes_for plan r c lines in
    elim (cases_eq race r) [
      | inl same ↦
          let c_in' : c < n = rw same c_in in
          let place : candidate_place r c ≡ first + c = omega (arith, same) in
          let was : get_or table (first + c) 0 ≡ min v most_votes = rw (← place) (told r c r_in c_in) in
          let within : first + n ≤ length table = omega (arith, sized, few race, placed.0) in
          let now = votes-at n first table from bits c (some race placed.0) within c_in' (rw was (min-le_right v most_votes)) in
          let on : votes_on plan r c line ≡ votes_in n c from bits = rw (eq-eqb race r same, same) refl in
          rw place (now ∙ (ap (λ (k : ℕ). min (k + votes_in n c from bits) most_votes) was ∙ (min-join most_votes v (votes_in n c from bits)
          ∙ sym (votes-push plan r c lines line ∙ ap (λ (k : ℕ). min (v + k) most_votes) on))))
      | inr differ ↦
          let apart : (candidate_place r c < first) ⊎ (first + n ≤ candidate_place r c) = elim (cases_lt r race) [
            | inl before ↦ inl (omega (arith, few r, c_in, before))
            | inr behind ↦ inr (omega (arith, few race, behind, differ))
          ] in
          votes-apart n first table from bits (candidate_place r c) (some race placed.0) apart
          ∙ (told r c r_in c_in ∙ votes-skip plan r c lines line (rw (ne_eqb race r differ) refl))
    ]
votes_step plan table lines line some few placed sized told = λ r c r_in c_in. told r c r_in c_in ∙ votes-skip plan r c lines line refl
