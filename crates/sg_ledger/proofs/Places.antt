-- One place of a flat table is written: what stands at the places of all coordinates then.
use Rattle.std.proofs.Common.{◌≡◌, ◌≢◌, ℕ, ◌+◌, ◌-◌, ◌*◌, ◌/◌, ◌%◌, ◌<◌, ◌≤◌, ◌==◌, inl, inr, if◌then◌else◌, Bool, true, false, ◌&&◌, List, length, get_or, set, Option, Some, None, is_some, refl, sym, ap, ◌∙◌, mul-add, arith, length-set, get_or-set_same, get_or-set_other, eqb-true, eq-eqb}
use Rattle.std.proofs.lemmas.Bool.{and_from, and_parts, both_ways, cases_Bool}
use Rattle.std.proofs.lemmas.Nat.{div-add-mod', div_below, mul-add-lt, mul-le}
use Rattle.std.specs.Option.{option_or}
use Rattle.sg_ledger.proofs.Lists.{option_or-none}
use Rattle.sg_ledger.specs.inside.Tables.{with_first}
use Rattle.sg_plan.proofs.PlanLaws.{entries_before-more, entry_place-one, entry_tells, row_place-one, rows_are_one}
use Rattle.sg_plan.specs.Ballots.{all_entries, ballot_has, candidates_of, entries_before, entries_of, entry_at, entry_place, r_rows, row_place, rows_of}
use Rattle.sg_plan.specs.declared.plan.Plan.{Plan}

-- THE TABLE

-- a fact of what stands at a place, where another place or this one was written
pub tells-set : {A : Type 0} (table : List A) (none : A) (at place : ℕ) (value : A) (P : A → Type 0) (same : Bool)
    → at < length table → (same ≡ true → place ≡ at) → (same ≡ false → place ≢ at)
    → (same ≡ true → P value) → (same ≡ false → P (get_or table place none)) → P (get_or (set table at value) place none)
tells-set table none at place value P same within same_at other_at here there =
    elim (cases_Bool same) [
      | inl e ↦ rw (same_at e, get_or-set_same table at value none within) (here e)
      | inr e ↦ let apart = other_at e in rw (get_or-set_other table at place value none apart) (there e)
    ]

some_stays : {A : Type 0} (old more : Option A) → is_some old ≡ true → option_or old more ≡ old
some_stays None more some = absurd (cc)
some_stays (Some x) more some = refl

none_is : {A : Type 0} (old more : Option A) → is_some old ≡ false → option_or old more ≡ more
none_is None more none = refl
none_is (Some x) more none = absurd (cc)

-- what stands at a place, where the first value of another place or of this one was kept
pub first-set : {A : Type 0} (table : List (Option A)) (at place : ℕ) (value : A) (old new : Option A) (same : Bool)
    → at < length table → (same ≡ true → place ≡ at) → (same ≡ false → place ≢ at)
    → get_or table place None ≡ old → new ≡ option_or old (if same then Some value else None) → get_or (with_first table at value) place None ≡ new
first-set {A} table at place value old new same within same_at other_at was is =
    elim (cases_Bool same) [
      | inl e ↦
          let here : get_or table at None ≡ old = ap (λ (k : ℕ). get_or table k None) (sym (same_at e)) ∙ was in
          let is' : new ≡ option_or old (Some value) = is ∙ ap (λ (b : Bool). option_or old (if b then Some value else None)) e in
          elim (cases_Bool (is_some (get_or table at None))) [
            | inl some ↦ rw (some, is') (was ∙ sym (some_stays old (Some value) (ap is_some (sym here) ∙ some)))
            | inr none ↦ rw (none, is', same_at e) (get_or-set_same table at (Some value) None within ∙ sym (none_is old (Some value) (ap is_some (sym here) ∙ none)))
          ]
      | inr e ↦
          let is' : new ≡ old = is ∙ (ap (λ (b : Bool). option_or old (if b then Some value else None)) e ∙ option_or-none old) in
          let apart = other_at e in
          elim (cases_Bool (is_some (get_or table at None))) [
            | inl some ↦ rw (some, is') was
            | inr none ↦ rw (none, is') (get_or-set_other table at place (Some value) None apart ∙ was)
          ]
    ]

pub length-first : {A : Type 0} (table : List (Option A)) (at : ℕ) (value : A) → length (with_first table at value) ≡ length table
length-first table at value =
    elim (cases_Bool (is_some (get_or table at None))) [ inl some ↦ rw some refl | inr none ↦ rw none (length-set table at (Some value)) ]

-- ENTRIES

pub entry_same : (plan : Plan) (race entry r e : ℕ) → (race == r && entry == e) ≡ true → entry_place plan r e ≡ entry_place plan race entry
entry_same plan race entry r e same =
    let parts = and_parts (race == r) (entry == e) same in
    rw (eqb-true race r parts.0, eqb-true entry e parts.1) refl

pub entry_other : (plan : Plan) (race entry r e : ℕ) → entry < entries_of plan race → e < entries_of plan r → (race == r && entry == e) ≡ false
    → entry_place plan r e ≢ entry_place plan race entry
entry_other plan race entry r e below below' other = λ same.
    let one = entry_place-one plan r e race entry below' below same in
    both_ways (race == r && entry == e) other (and_from (race == r) (entry == e) (eq-eqb race r (sym one.0)) (eq-eqb entry e (sym one.1)))

-- the places of a part of a race's entries are in the table
pub entry_place-end : (plan : Plan) (race entry : ℕ) → race < length plan.races → entry ≤ entries_of plan race → entry_place plan race entry ≤ all_entries plan
entry_place-end plan race entry within below = omega (arith, entries_before-more plan race (length plan.races) within)

-- ROWS

pub row_same : (plan : Plan) (race instance row r i k : ℕ) → ((race == r && instance == i) && row == k) ≡ true → row_place plan r i k ≡ row_place plan race instance row
row_same plan race instance row r i k same =
    let parts = and_parts (race == r && instance == i) (row == k) same in
    let pair = and_parts (race == r) (instance == i) parts.0 in
    rw (eqb-true race r pair.0, eqb-true instance i pair.1, eqb-true row k parts.1) refl

pub row_other : (plan : Plan) (race instance row r i k : ℕ) → instance < plan.instances → row < entries_of plan race → i < plan.instances → k < entries_of plan r
    → ((race == r && instance == i) && row == k) ≡ false → row_place plan r i k ≢ row_place plan race instance row
row_other plan race instance row r i k within below within' below' other = λ same.
    let one = row_place-one plan r i k race instance row within' below' within below same in
    both_ways ((race == r && instance == i) && row == k) other
    (and_from (race == r && instance == i) (row == k) (and_from (race == r) (instance == i) (eq-eqb race r (sym one.0)) (eq-eqb instance i (sym one.1))) (eq-eqb row k (sym one.2)))

-- the places of a part of an instance's rows are in the table
pub row_place-end : (plan : Plan) (race instance row : ℕ) → race < length plan.races → instance < plan.instances → row ≤ entries_of plan race
    → row_place plan race instance row ≤ r_rows plan
row_place-end plan race instance row in_plan within below =
    let m = plan.instances in
    let n = entries_of plan race in
    let inside = mul-le (instance + 1) n m n (omega arith) (omega arith) in
    let ends = mul-le m (entries_before plan race + n) m (all_entries plan) (omega arith) (entries_before-more plan race (length plan.races) in_plan) in
    let spread : (instance + 1) * n ≡ instance * n + n = omega arith in
    omega (arith, inside, ends, spread, mul-add m (entries_before plan race) n)

-- BALLOTS

-- an entry of a race is in one column of one ballot
pub record IsOne (ballot column other at : ℕ) : Type 0 where
  pub ballot_is : ballot ≡ other
  pub column_is : column ≡ at

pub entry_one : (plan : Plan) (race ballot column other at : ℕ) → ballot_has plan ballot race ≡ true → column < candidates_of plan race → ballot_has plan other race ≡ true → at < candidates_of plan race
    → entry_at plan race ballot column ≡ entry_at plan race other at → IsOne ballot column other at
entry_one plan race ballot column other at has below has' below' same =
    let tells = entry_tells plan race ballot column has below in
    let tells' = entry_tells plan race other at has' below' in
    record {
      ballot_is = (rows_are_one plan race).one ballot other has has' (sym tells.row ∙ (ap (λ (e : ℕ). e / candidates_of plan race) same ∙ tells'.row));
      column_is = sym tells.column_is ∙ (ap (λ (e : ℕ). e % candidates_of plan race) same ∙ tells'.column_is);
    }

-- the columns of a ballot are entries of the race
pub ballot_within : (plan : Plan) (race ballot column : ℕ) → ballot_has plan ballot race ≡ true → column < candidates_of plan race
    → entry_at plan race ballot 0 + candidates_of plan race ≤ entries_of plan race
ballot_within plan race ballot column has below =
    let last = (entry_tells plan race ballot (candidates_of plan race - 1) has (omega arith)).below in
    omega (arith, last, below)

-- the columns of an entry's ballot are entries of the race
pub column_below : (rows n entry column : ℕ) → entry < rows * n → column < n → entry / n * n + column < rows * n
column_below rows n entry column below within = omega (arith, mul-add-lt (entry / n) n column rows (div_below entry n rows (omega arith) below) within)

-- the table has a place for each column of an entry's ballot
pub ballot_end : (plan : Plan) (race entry : ℕ) → race < length plan.races → 2 ≤ candidates_of plan race → entry < entries_of plan race
    → entry_place plan race (entry - entry % candidates_of plan race) + candidates_of plan race ≤ all_entries plan
ballot_end plan race entry in_plan some below =
    let n = candidates_of plan race in
    let last = column_below (rows_of plan race) n entry (n - 1) below (omega arith) in
    let first_is : entry - entry % n ≡ entry / n * n = omega (arith, div-add-mod' entry n) in
    omega (arith, first_is, last, entry_place-end plan race (entry / n * n + n) in_plan (omega (arith, last, some)))
