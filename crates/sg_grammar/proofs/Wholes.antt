-- Which lines a whole record has: each row, each place and each total of the plan.
use Rattle.std.proofs.Common.{◌≡◌, ℕ, zero, suc, ◌+◌, ◌-◌, ◌*◌, ◌/◌, ◌<◌, ◌≤◌, ◌==◌, true, ◌&&◌, List, [], ◌∷◌, ◌++◌, length, inl, inr, Some, refl, sym, subst, ap, ◌∙◌, append_assoc, append-nil, arith}
use Rattle.std.proofs.lemmas.Bool.{and_parts, cases_eq, eqb-true}
use Rattle.std.proofs.lemmas.Option.{same_Some}
use Rattle.sg_plan.specs.Ballots.{candidates_of, entries_of}
use Rattle.sg_plan.specs.declared.plan.Plan.{Plan}
use Rattle.sg_forms.specs.Said.{Said}
use Rattle.sg_forms.specs.Said.Said.{Places, Row, Total}
use Rattle.sg_grammar.proofs.Claims.{if_then-claim}
use Rattle.sg_grammar.proofs.Filling.{Fills, FillsSlot, filled_at}
use Rattle.sg_grammar.proofs.Parting.{Parted, lines_apart, parted}
use Rattle.sg_grammar.specs.Due.{bits_on, each, instance_flags, instance_rows, lines_for, numbered, due_places, race_places, race_results, race_rows, race_totals, results, row_opening, due_totals}
use Rattle.sg_grammar.specs.Laws.{LinesStandApart, WholeHasEach}
use Rattle.sg_grammar.specs.Lines.{IsAmong, placed_of}
use Rattle.sg_grammar.specs.Parting.{HasEachLine, HasPlace, HasRow, HasTotal}
use Rattle.sg_grammar.specs.Placed.{Placed}
use Rattle.sg_grammar.specs.Placed.Placed.{PlacesAt, RowAt, TotalAt}
use Rattle.sg_grammar.specs.Walk.{Next, is_whole, place, start}
use Rattle.sg_grammar.specs.declared.state.Slot.{Slot}
use Rattle.sg_grammar.specs.declared.state.Slot.TheVariants as slot

-- EACH LINE OF THE RESULTS THAT IS DUE

-- one of the slots is this one
abbrev pub IsDue : Slot → List Slot → Type 0
IsDue s slots = (front rest : List Slot) × (slots ≡ front ++ s ∷ rest)

in_left : (s : Slot) (xs ys : List Slot) → IsDue s xs → IsDue s (xs ++ ys)
in_left s xs ys (front, rest, is) = (front, rest ++ ys, ap (λ (l : List Slot). l ++ ys) is ∙ append_assoc front (s ∷ rest) ys)

in_right : (s : Slot) (xs ys : List Slot) → IsDue s ys → IsDue s (xs ++ ys)
in_right s xs ys (front, rest, is) = (xs ++ front, rest, ap (λ (l : List Slot). xs ++ l) is ∙ sym (append_assoc xs front (s ∷ rest)))

in_numbered : (s : Slot) (f : ℕ → List Slot) (at count k : ℕ) → at ≤ k → k < at + count → IsDue s (f k) → IsDue s (numbered f at count)
unfolding numbered
in_numbered s f at zero k low high there = absurd (omega arith)
in_numbered s f at (suc count) k low high there = elim (cases_eq k at) [
  | inl same ↦ in_left s (f at) (numbered f (at + 1) count) (subst (λ j. IsDue s (f j)) same there)
  | inr other ↦ in_right s (f at) (numbered f (at + 1) count) (in_numbered s f (at + 1) count k (omega (arith, other, low)) (omega (arith, high)) there)
]

row_in : (plan : Plan) (race instance row : ℕ) → race < length plan.races → instance < plan.instances → row < entries_of plan race → IsDue (slot.Row race instance row) (results plan)
row_in plan race instance row a b c =
    let s = slot.Row race instance row in
    let rows = in_numbered s (row_opening race instance) 0 (entries_of plan race - 0) row (omega arith) (omega (arith, c)) ([], [], refl) in
    let instances = in_numbered s (instance_rows plan race) 0 (plan.instances - 0) instance (omega arith) (omega (arith, b)) rows in
    let races = in_numbered s (race_rows plan) 0 (length plan.races - 0) race (omega arith) (omega (arith, a)) instances in
    in_right s (each (race_results plan) 0 (length plan.races)) (slot.Seal 2 ∷ slot.Draw ∷ (each (race_rows plan) 0 (length plan.races) ++ slot.Seal 3 ∷ []))
    (in_right s (slot.Seal 2 ∷ slot.Draw ∷ []) (each (race_rows plan) 0 (length plan.races) ++ slot.Seal 3 ∷ []) (in_left s (each (race_rows plan) 0 (length plan.races)) (slot.Seal 3 ∷ []) races))

total_in : (plan : Plan) (race candidate : ℕ) → race < length plan.races → candidate < candidates_of plan race → IsDue (slot.Total race candidate) (results plan)
total_in plan race candidate a b =
    let s = slot.Total race candidate in
    let totals = in_numbered s (due_totals race) 0 (candidates_of plan race - 0) candidate (omega arith) (omega (arith, b)) ([], [], refl) in
    let own = in_right s (each (instance_flags plan race) 0 plan.instances) (race_places plan race ++ race_totals plan race) (in_right s (race_places plan race) (race_totals plan race) totals) in
    in_left s (each (race_results plan) 0 (length plan.races)) (slot.Seal 2 ∷ slot.Draw ∷ (each (race_rows plan) 0 (length plan.races) ++ slot.Seal 3 ∷ []))
    (in_numbered s (race_results plan) 0 (length plan.races - 0) race (omega arith) (omega (arith, a)) own)

places_in : (plan : Plan) (race at : ℕ) → race < length plan.races → at < entries_of plan race → IsDue (slot.Places race (at / 64) (bits_on (entries_of plan race) (at / 64))) (results plan)
places_in plan race at a b =
    let s = slot.Places race (at / 64) (bits_on (entries_of plan race) (at / 64)) in
    let places = in_numbered s (due_places plan race) 0 (lines_for (entries_of plan race) - 0) (at / 64) (omega arith) (omega (arith, b)) ([], [], refl) in
    let own = in_right s (each (instance_flags plan race) 0 plan.instances) (race_places plan race ++ race_totals plan race) (in_left s (race_places plan race) (race_totals plan race) places) in
    in_left s (each (race_results plan) 0 (length plan.races)) (slot.Seal 2 ∷ slot.Draw ∷ (each (race_rows plan) 0 (length plan.races) ++ slot.Seal 3 ∷ []))
    (in_numbered s (race_results plan) 0 (length plan.races - 0) race (omega arith) (omega (arith, a)) own)

-- in a whole record each slot of the results has its line
whole_at : (lines : List Placed) (next : Next) (s : Slot) → Parted lines next → is_whole next ≡ true → IsDue s (results next.plan) → (line : Placed) × IsAmong lines line × FillsSlot s line
whole_at lines next s parts whole (front, rest, is) =
    let e = parts.ends in
    let all : e.filled ≡ front ++ s ∷ rest = sym (append-nil e.filled) ∙ (ap (λ (l : List Slot). e.filled ++ l) (sym (e.ended whole)) ∙ (sym e.due_is ∙ is)) in
    let found = filled_at front rest s e.middle (subst (λ (l : List Slot). Fills l e.middle) all e.fills) in
    let lines_are : lines ≡ (parts.before ++ found.0) ++ found.2 ∷ (found.1 ++ e.last)
    = parts.lines_are
    ∙ (ap (λ (l : List Placed). parts.before ++ l) (e.lines_are ∙ (ap (λ (l : List Placed). l ++ e.last) found.3 ∙ append_assoc found.0 (found.2 ∷ found.1) e.last))
    ∙ sym (append_assoc parts.before found.0 (found.2 ∷ (found.1 ++ e.last)))) in
    (found.2, (parts.before ++ found.0, found.1 ++ e.last, lines_are), found.4)

-- each row has its line
row_stands : (lines : List Placed) (next : Next) (race instance row : ℕ) → Parted lines next → is_whole next ≡ true
    → race < length next.plan.races → instance < next.plan.instances → row < entries_of next.plan race → HasRow lines race instance row
row_stands lines next race instance row parts whole a b c =
    let found = whole_at lines next (slot.Row race instance row) parts whole (row_in next.plan race instance row a b c) in
    at_said found.2.0 found.0 found.1 found.2.1
  where
    at_said : (said : Said) (line : Placed) → IsAmong lines line → place (slot.Row race instance row) said ≡ Some line → HasRow lines race instance row
    at_said (Row opening) line among e = record { opening = opening; among = subst (λ (l : Placed). IsAmong lines l) (sym (same_Some (RowAt race instance row opening) line e)) among }
    at_said said line among e = cc

-- each candidate has its total
total_stands : (lines : List Placed) (next : Next) (race candidate : ℕ) → Parted lines next → is_whole next ≡ true
    → race < length next.plan.races → candidate < candidates_of next.plan race → HasTotal lines race candidate
total_stands lines next race candidate parts whole a b =
    let found = whole_at lines next (slot.Total race candidate) parts whole (total_in next.plan race candidate a b) in
    at_said found.2.0 found.0 found.1 found.2.1
  where
    at_said : (said : Said) (line : Placed) → IsAmong lines line → place (slot.Total race candidate) said ≡ Some line → HasTotal lines race candidate
    at_said (Total named of count) line among e =
        record {
          count = count;
          among = if_then-claim (λ (l : Placed). IsAmong lines l → IsAmong lines (TotalAt race candidate count)) (named == race && of == candidate) (TotalAt race candidate count) line (λ ok there. there) e among;
        }
    at_said said line among e = cc

-- each place has its bit
place_stands : (lines : List Placed) (next : Next) (race at : ℕ) → Parted lines next → is_whole next ≡ true
    → race < length next.plan.races → at < entries_of next.plan race → HasPlace lines race at
place_stands lines next race at parts whole a b =
    let count = bits_on (entries_of next.plan race) (at / 64) in
    let found = whole_at lines next (slot.Places race (at / 64) count) parts whole (places_in next.plan race at a b) in
    at_said count (omega arith) found.2.0 found.0 found.1 found.2.1
  where
    at_said : (count : ℕ) → at < 64 * (at / 64) + count → (said : Said) (line : Placed) → IsAmong lines line → place (slot.Places race (at / 64) count) said ≡ Some line → HasPlace lines race at
    at_said count low (Places named bits) line among e =
        if_then-claim (λ (l : Placed). IsAmong lines l → HasPlace lines race at) (named == race && length bits == count) (PlacesAt race (64 * (at / 64)) bits) line
        (λ ok there.
        let long = eqb-true (length bits) count (and_parts (named == race) (length bits == count) ok).1 in
        record { from = 64 * (at / 64); bits = bits; among = there; first = omega arith; behind = omega (arith, long, low) }) e among
    at_said count low said line among e = cc

each_stands : (lines : List Placed) (next : Next) → Parted lines next → is_whole next ≡ true → HasEachLine next.plan lines
each_stands lines next parts whole = record {
  row = λ race instance row a b c. row_stands lines next race instance row parts whole a b c;
  place = λ race at a b. place_stands lines next race at parts whole a b;
  total = λ race candidate a b. total_stands lines next race candidate parts whole a b;
}

-- THE LAWS

pub lines_stand_apart : LinesStandApart
lines_stand_apart lines walked walks = lines_apart (placed_of walked.posted) walked.next (parted start lines walked tt walks)

pub whole_has_each : WholeHasEach
whole_has_each lines walked walks whole = each_stands (placed_of walked.posted) walked.next (parted start lines walked tt walks) whole
