-- What is looked up in the tables judges a line as the lines before it do.
use Rattle.std.proofs.Common.{◌≡◌, ℕ, ◌+◌, ◌*◌, ◌/◌, ◌%◌, ◌<◌, ◌≤◌, ◌==◌, nat_lt, nat_le, min, inl, inr, if◌then◌else◌, Bool, true, false, not, ◌&&◌, ◌||◌, List, length, get_or, Option, Some, None, count_by, refl, sym, ap, ap₂, ◌∙◌, arith, eqb-true, eq-eqb, ne_eqb, ltb-true, le-ltb, le-leb}
use Rattle.std.proofs.lemmas.Bool.{and_from, and_parts, and_right, both_ways, cases_eq, cases_lt, false_from_ne_true, false≢true, leb-false, lt-leb, or_parts}
use Rattle.std.proofs.lemmas.Nat.{div-add-mod', div-mul-add, mod_below}
use Rattle.std.specs.List.{list_any}
use Rattle.std.specs.Option.{option_map_or}
use Rattle.sg_grammar.specs.Lines.{is_cast}
use Rattle.sg_check.proofs.AllKinds.{none_bad}
use Rattle.sg_check.specs.Facts.{marks_ballot, opens_pointer}
use Rattle.sg_check.specs.Kinds.{bad_placed, clashes_with, differ, first_bad, shows_against}
use Rattle.sg_check.specs.inside.BySide.{bad_pointer_on}
use Rattle.sg_check.specs.declared.judged.Kind.TheVariants as kind
use Rattle.sg_commit.specs.declared.Opening.{Opening}
use Rattle.sg_forms.specs.declared.line.CodeLine.{CodeLine}
use Rattle.sg_forms.specs.declared.line.RowOpening.TheVariants as row
use Rattle.sg_ledger.proofs.AuditSteps.{HasFresh}
use Rattle.sg_ledger.proofs.KeptSteps.{AgreesWith, TellsKnown, TellsMarks}
use Rattle.sg_ledger.proofs.Lists.{any-along, any-none}
use Rattle.sg_ledger.proofs.PathSteps.{are_small}
use Rattle.sg_ledger.proofs.Places.{column_below, entry_one}
use Rattle.sg_ledger.specs.inside.Tables.{leads_another, most_marks, shows_another}
use Rattle.sg_ledger.specs.Tells.{ArePlacedIn, TellsPaths, is_value, leads_entry, shows_entry}
use Rattle.sg_plan.proofs.PlanLaws.{entry_tells}
use Rattle.sg_plan.specs.declared.plan.Side.TheVariants as side
use Rattle.sg_plan.specs.Ballots.{ballot_has, candidates_of, entries_of, entry_at, entry_place, rows_of, votes_of}
use Rattle.sg_plan.specs.declared.plan.Plan.{Plan}
use Rattle.sg_grammar.specs.Placed.{Placed}
use Rattle.sg_grammar.specs.Placed.Placed.{CodeAt, RowAt}
use Rattle.sg_grammar.specs.Coordinates.{IsPlacedIn}
use Rattle.sg_grammar.specs.declared.state.Block.{Block}

-- THE COLUMNS OF A BALLOT

-- what a line gives a column
pub record Gives (columns : ℕ) (gives : ℕ → ℕ → Placed → Bool) (against : ℕ → ℕ → Bool) (line : Placed) : Type 0 where
  pub column : ℕ
  pub value : ℕ
  pub within : column < columns
  pub given : gives column value line ≡ true
  pub is_against : against column value ≡ true

value_is : (kept : Option ℕ) (test : ℕ → Bool) → option_map_or test kept false ≡ true → (value : ℕ) × (kept ≡ Some value) × (test value ≡ true)
value_is None test passes = absurd (false≢true passes)
value_is (Some value) test passes = (value, refl, passes)

pub is_value-some : (kept : Option ℕ) (value : ℕ) → is_value kept value ≡ true → kept ≡ Some value
is_value-some None value is = absurd (false≢true is)
is_value-some (Some k) value is = ap Some (eqb-true k value is)

-- some column is against, exactly where some line is
pub columns_judged : (plan : Plan) (lines : List Placed) (test : Placed → Bool) (gives : ℕ → ℕ → Placed → Bool) (columns : ℕ) (kept : ℕ → Option ℕ) (against : ℕ → ℕ → Bool) (some : Bool)
    → ArePlacedIn plan lines
    → ((column value : ℕ) → column < columns → list_any (gives column value) lines ≡ is_value (kept column) value)
    → ((line : Placed) → IsPlacedIn plan line → (column value : ℕ) → column < columns → gives column value line ≡ true → against column value ≡ true → test line ≡ true)
    → ((line : Placed) → IsPlacedIn plan line → test line ≡ true → Gives columns gives against line)
    → (some ≡ true → (column : ℕ) × (column < columns) × (option_map_or (against column) (kept column) false ≡ true))
    → (some ≡ false → (column : ℕ) → column < columns → option_map_or (against column) (kept column) false ≡ false)
    → some ≡ list_any test lines
columns_judged plan lines test gives columns kept against true placed told up down found none =
    let at = found refl in
    let value = value_is (kept at.0) (against at.0) at.2 in
    let given : list_any (gives at.0 value.0) lines ≡ true = told at.0 value.0 at.1 ∙ (ap (λ (k : Option ℕ). is_value k value.0) value.1 ∙ eq-eqb value.0 value.0 refl) in
    sym (any-along plan (gives at.0 value.0) test lines placed (λ line in_plan gives_it. up line in_plan at.0 value.0 at.1 gives_it value.2) given)
columns_judged plan lines test gives columns kept against false placed told up down found none =
    sym (any-none plan test lines lines placed (λ f passes. passes) (λ line in_plan member.
    false_from_ne_true (test line) (λ passes.
    let g = down line in_plan passes in
    let given : list_any (gives g.column g.value) lines ≡ true = member (gives g.column g.value) g.given in
    let is = is_value-some (kept g.column) g.value (sym (told g.column g.value g.within) ∙ given) in
    both_ways (against g.column g.value) (sym (ap (λ (k : Option ℕ). option_map_or (against g.column) k false) is) ∙ none refl g.column g.within) g.is_against)))

-- RULE

abbrev against_code : ℕ → ℕ → ℕ → ℕ → Bool
against_code column code at shown = (if at == column then not (shown == code) else shown == code)

-- a line that shows a code in a column of the ballot
code_up : (plan : Plan) (ballot race column code : ℕ) → ballot_has plan ballot race ≡ true
    → (line : Placed) → IsPlacedIn plan line → (at shown : ℕ) → at < candidates_of plan race → shows_entry plan race (entry_at plan race ballot at) shown line ≡ true
    → against_code column code at shown ≡ true → shows_against ballot race column code line ≡ true
code_up plan ballot race column code has (CodeAt block of in_race at' seen) placed at shown within shows against =
    let parts = and_parts (in_race == race && entry_at plan in_race of at' == entry_at plan race ballot at) (seen.code == shown) shows in
    let pair = and_parts (in_race == race) (entry_at plan in_race of at' == entry_at plan race ballot at) parts.0 in
    let race_is : in_race ≡ race = eqb-true in_race race pair.0 in
    let shown_is : seen.code ≡ shown = eqb-true seen.code shown parts.1 in
    let entry_is : entry_at plan race of at' ≡ entry_at plan race ballot at = rw race_is at (eqb-true (entry_at plan in_race of at') (entry_at plan race ballot at) pair.1) in
    let has' : ballot_has plan of race ≡ true = rw race_is at placed.3 in
    let below' : at' < candidates_of plan race = rw race_is at placed.4 in
    let one = entry_one plan race of at' ballot at has' below' has within entry_is in
    rw (eq-eqb of ballot one.ballot_is, pair.0, one.column_is, shown_is) against
code_up plan ballot race column code has line placed at shown within shows against = absurd (false≢true shows)

code_down : (plan : Plan) (ballot race column code : ℕ) → (line : Placed) → IsPlacedIn plan line → shows_against ballot race column code line ≡ true
    → Gives (candidates_of plan race) (λ at shown. shows_entry plan race (entry_at plan race ballot at) shown) (against_code column code) line
code_down plan ballot race column code (CodeAt block of in_race at seen) placed shows =
    let parts = and_parts (of == ballot && in_race == race) (if at == column then not (seen.code == code) else seen.code == code) shows in
    let pair = and_parts (of == ballot) (in_race == race) parts.0 in
    let race_is : in_race ≡ race = eqb-true in_race race pair.1 in
    let ballot_is : of ≡ ballot = eqb-true of ballot pair.0 in
    record {
      column = at;
      value = seen.code;
      within = rw race_is at placed.4;
      given = and_from (in_race == race && entry_at plan in_race of at == entry_at plan race ballot at) (seen.code == seen.code)
          (and_from (in_race == race) (entry_at plan in_race of at == entry_at plan race ballot at) pair.1 (eq-eqb (entry_at plan in_race of at) (entry_at plan race ballot at) (ap₂ (λ (r b : ℕ). entry_at plan r b at) race_is ballot_is)))
          (eq-eqb seen.code seen.code refl);
      is_against = parts.1;
    }
code_down plan ballot race column code line placed shows = absurd (false≢true shows)

-- as many marks as votes, told up to the most that are counted
enough : (votes marks most : ℕ) → votes ≤ most → nat_le votes (min marks most) ≡ nat_le votes marks
enough votes marks most few =
    elim (cases_lt marks votes) [
      | inl less ↦ lt-leb votes (min marks most) (omega arith) ∙ sym (lt-leb votes marks less)
      | inr more ↦ le-leb votes (min marks most) (omega arith) ∙ sym (le-leb votes marks more)
    ]

-- the rule is broken, as the tables say; `first` is the place of the ballot's first entry
pub rule_judged : (plan : Plan) (known : List (Option ℕ)) (marks : List ℕ) (lines : List Placed) (block : Block) (ballot race column : ℕ) (code : CodeLine) (first : ℕ) (many some : Bool)
    → race < length plan.races → ballot_has plan ballot race ≡ true → votes_of plan race ≤ most_marks → ArePlacedIn plan lines
    → TellsKnown plan known lines → TellsMarks plan marks lines → first ≡ entry_place plan race (entry_at plan race ballot 0)
    → many ≡ (is_cast block && nat_le (votes_of plan race) (get_or marks first 0))
    → (some ≡ true → (at : ℕ) × (at < candidates_of plan race) × (shows_another column code.code at (get_or known (first + at) None) ≡ true))
    → (some ≡ false → (at : ℕ) → at < candidates_of plan race → shows_another column code.code at (get_or known (first + at) None) ≡ false)
    → (many || some) ≡ bad_placed kind.Rule plan lines (CodeAt block ballot race column code)
rule_judged plan known marks lines block ballot race column code first many some in_plan has few placed told counted first_is many_is found none =
    let marks_are : get_or marks first 0 ≡ min (count_by (marks_ballot ballot race) lines) most_marks = rw first_is (counted race ballot in_plan has) in
    let many' : many ≡ (is_cast block && nat_le (votes_of plan race) (count_by (marks_ballot ballot race) lines)) =
    many_is ∙ ap (λ (b : Bool). is_cast block && b) (ap (λ (n : ℕ). nat_le (votes_of plan race) n) marks_are ∙ enough (votes_of plan race) (count_by (marks_ballot ballot race) lines) most_marks few) in
    let tells : (at shown : ℕ) → at < candidates_of plan race → list_any (shows_entry plan race (entry_at plan race ballot at) shown) lines ≡ is_value (get_or known (first + at) None) shown
    = λ at shown within.
    let place : first + at ≡ entry_place plan race (entry_at plan race ballot at) = omega (arith, first_is) in
    rw place (told race (entry_at plan race ballot at) in_plan (entry_tells plan race ballot at has within).below shown) in
    let some' = columns_judged plan lines (shows_against ballot race column code.code) (λ at shown. shows_entry plan race (entry_at plan race ballot at) shown) (candidates_of plan race)
    (λ at. get_or known (first + at) None) (against_code column code.code) some placed tells
    (code_up plan ballot race column code.code has) (code_down plan ballot race column code.code) found none in
    ap₂ (λ (a b : Bool). a || b) many' some'

-- PATH

abbrev against_path : ℕ → ℕ → ℕ → ℕ → ℕ → Bool
against_path candidates entry place other led = (if other == entry then not (led == place) else led % candidates == place % candidates)

path_up : (plan : Plan) (race entry place first : ℕ) → first ≡ entry / candidates_of plan race * candidates_of plan race
    → (line : Placed) → IsPlacedIn plan line → (column led : ℕ) → column < candidates_of plan race → leads_entry plan race (first + column) led line ≡ true
    → against_path (candidates_of plan race) entry place (first + column) led ≡ true → clashes_with plan race entry place line ≡ true
path_up plan race entry place first first_is (RowAt of instance number (row.Both left right)) placed column led within leads against =
    let n = candidates_of plan race in
    let parts = and_parts (of == race) (are_small plan race left right && (left.value == first + column && right.value == led)) leads in
    let inner = and_parts (are_small plan race left right) (left.value == first + column && right.value == led) parts.1 in
    let ends = and_parts (left.value == first + column) (right.value == led) inner.1 in
    let left_is : left.value ≡ first + column = eqb-true left.value (first + column) ends.0 in
    let right_is : right.value ≡ led = eqb-true right.value led ends.1 in
    elim (cases_eq (first + column) entry) [
      | inl same ↦
          let against' : not (led == place) ≡ true = rw (eq-eqb (first + column) entry same) at against in
          rw (parts.0, inner.0, left_is, right_is, eq-eqb (first + column) entry same) against'
      | inr other ↦
          let against' : (led % n == place % n) ≡ true = rw (ne_eqb (first + column) entry other) at against in
          let ballot : (first + column) / n ≡ entry / n = rw first_is (div-mul-add (entry / n) n column within) in
          rw (parts.0, inner.0, left_is, right_is, ne_eqb (first + column) entry other, eq-eqb ((first + column) / n) (entry / n) ballot) against'
    ]
path_up plan race entry place first first_is (RowAt of instance number (row.Left opening)) placed column led within leads against = absurd (false≢true (sym (and_right (of == race) false refl) ∙ leads))
path_up plan race entry place first first_is (RowAt of instance number (row.Right opening)) placed column led within leads against = absurd (false≢true (sym (and_right (of == race) false refl) ∙ leads))
path_up plan race entry place first first_is line placed column led within leads against = absurd (false≢true leads)

path_down : (plan : Plan) (race entry place first : ℕ) → 0 < candidates_of plan race → first ≡ entry / candidates_of plan race * candidates_of plan race
    → (line : Placed) → IsPlacedIn plan line → clashes_with plan race entry place line ≡ true
    → Gives (candidates_of plan race) (λ column led. leads_entry plan race (first + column) led) (λ column led. against_path (candidates_of plan race) entry place (first + column) led) line
path_down plan race entry place first some first_is (RowAt of instance number (row.Both left right)) placed clashes =
    let n = candidates_of plan race in
    let rest = (if left.value == entry then not (right.value == place) else (left.value / n == entry / n && right.value % n == place % n)) in
    let parts = and_parts (of == race) (are_small plan race left right && rest) clashes in
    let inner = and_parts (are_small plan race left right) rest parts.1 in
    elim (cases_eq left.value entry) [
      | inl same ↦
          let against : not (right.value == place) ≡ true = rw (eq-eqb left.value entry same) at inner.1 in
          let there : first + left.value % n ≡ left.value = rw (first_is, same) (div-add-mod' entry n) in
          record {
            column = left.value % n;
            value = right.value;
            within = mod_below left.value n some;
            given = and_from (of == race) (are_small plan race left right && (left.value == first + left.value % n && right.value == right.value)) parts.0
                (and_from (are_small plan race left right) (left.value == first + left.value % n && right.value == right.value) inner.0
                (and_from (left.value == first + left.value % n) (right.value == right.value) (eq-eqb left.value (first + left.value % n) (sym there)) (eq-eqb right.value right.value refl)));
            is_against = rw (there, eq-eqb left.value entry same) against;
          }
      | inr other ↦
          let both : (left.value / n == entry / n && right.value % n == place % n) ≡ true = rw (ne_eqb left.value entry other) at inner.1 in
          let halves = and_parts (left.value / n == entry / n) (right.value % n == place % n) both in
          let ballot : entry / n ≡ left.value / n = sym (eqb-true (left.value / n) (entry / n) halves.0) in
          let there : first + left.value % n ≡ left.value = rw (first_is, ballot) (div-add-mod' left.value n) in
          record {
            column = left.value % n;
            value = right.value;
            within = mod_below left.value n some;
            given = and_from (of == race) (are_small plan race left right && (left.value == first + left.value % n && right.value == right.value)) parts.0
                (and_from (are_small plan race left right) (left.value == first + left.value % n && right.value == right.value) inner.0
                (and_from (left.value == first + left.value % n) (right.value == right.value) (eq-eqb left.value (first + left.value % n) (sym there)) (eq-eqb right.value right.value refl)));
            is_against = rw (there, ne_eqb left.value entry other) halves.1;
          }
    ]
path_down plan race entry place first some first_is line placed clashes = absurd (false≢true clashes)

-- a path is bad, as the table says; `first` is the ballot's first entry, and `at` its place
pub path_judged : (plan : Plan) (paths : List (Option ℕ)) (lines : List Placed) (race : ℕ) (left right : Opening) (first at : ℕ) (some : Bool)
    → race < length plan.races → 0 < candidates_of plan race → ArePlacedIn plan lines → TellsPaths plan paths lines → are_small plan race left right ≡ true
    → first ≡ left.value / candidates_of plan race * candidates_of plan race → at ≡ entry_place plan race first
    → (some ≡ true → (column : ℕ) × (column < candidates_of plan race) × (leads_another (candidates_of plan race) left.value right.value (first + column) (get_or paths (at + column) None) ≡ true))
    → (some ≡ false → (column : ℕ) → column < candidates_of plan race → leads_another (candidates_of plan race) left.value right.value (first + column) (get_or paths (at + column) None) ≡ false)
    → some ≡ list_any (clashes_with plan race left.value right.value) lines
path_judged plan paths lines race left right first at some in_plan candidates placed told small first_is at_is found none =
    let n = candidates_of plan race in
    let below = ltb-true left.value (entries_of plan race) (and_parts (nat_lt left.value (entries_of plan race)) (nat_lt right.value (entries_of plan race)) small).0 in
    let tells : (column led : ℕ) → column < n → list_any (leads_entry plan race (first + column) led) lines ≡ is_value (get_or paths (at + column) None) led
    = λ column led within.
    let place : at + column ≡ entry_place plan race (first + column) = omega (arith, at_is) in
    let below' : first + column < entries_of plan race = rw first_is (column_below (rows_of plan race) n left.value column below within) in
    rw place (told race (first + column) in_plan below' led) in
    columns_judged plan lines (clashes_with plan race left.value right.value) (λ column led. leads_entry plan race (first + column) led) n
    (λ column. get_or paths (at + column) None) (λ column led. against_path n left.value right.value (first + column) led) some placed tells
    (path_up plan race left.value right.value first first_is) (path_down plan race left.value right.value first candidates first_is) found none

-- POINTERS AND FLAGS

pub pointer_judged : (n : ℕ) (seen : ℕ → Bool) (fact : ℕ → Bool) (opening : Option Opening) → ((k : ℕ) → k < n → seen k ≡ fact k)
    → option_map_or (λ (o : Opening). nat_le n o.value || seen o.value) opening false ≡ option_map_or (λ (o : Opening). nat_le n o.value || fact o.value) opening false
pointer_judged n seen fact None told = refl
pointer_judged n seen fact (Some o) told =
    elim (cases_lt o.value n) [
      | inl below ↦ ap (λ (b : Bool). nat_le n o.value || b) (told o.value below)
      | inr above ↦ rw (le-leb n o.value above) refl
    ]

pub flag_judged : (n : ℕ) (kept : ℕ → Bool) (fact : ℕ → Bool) (flag : Bool) (opening : Option Opening) → ((k : ℕ) → k < n → kept k ≡ fact k)
    → option_map_or (λ (o : Opening). nat_lt o.value n && differ flag (kept o.value)) opening false ≡ option_map_or (λ (o : Opening). nat_lt o.value n && differ flag (fact o.value)) opening false
flag_judged n kept fact flag None told = refl
flag_judged n kept fact flag (Some o) told =
    elim (cases_lt o.value n) [
      | inl below ↦ ap (λ (b : Bool). nat_lt o.value n && differ flag b) (told o.value below)
      | inr above ↦ rw (le-ltb o.value n above) refl
    ]

-- a total that is no more than a count's most
pub total_judged : (votes most count : ℕ) → count < most → (min votes most == count) ≡ (count == votes)
total_judged votes most count few =
    elim (cases_eq count votes) [
      | inl same ↦ eq-eqb (min votes most) count (omega arith) ∙ sym (eq-eqb count votes same)
      | inr differ' ↦ ne_eqb (min votes most) count (λ e. differ' (omega arith)) ∙ sym (ne_eqb count votes differ')
    ]

pub total_kind : (same : Bool) → (if same then None else Some kind.Total) ≡ (if not same then Some kind.Total else None)
total_kind true = refl
total_kind false = refl

-- WHERE NOTHING IS BAD

-- a line in which nothing is bad agrees with the lines before it
pub agrees : (plan : Plan) (lines : List Placed) (line : Placed) → first_bad plan lines line ≡ None → AgreesWith plan line lines
agrees plan lines (CodeAt block ballot race column code) none =
    (or_parts (is_cast block && nat_le (votes_of plan race) (count_by (marks_ballot ballot race) lines)) (list_any (shows_against ballot race column code.code) lines)
    (none_bad plan lines (CodeAt block ballot race column code) none kind.Rule)).1
agrees plan lines (RowAt race instance number (row.Both left right)) none = λ small.
    let path = none_bad plan lines (RowAt race instance number (row.Both left right)) none kind.Path in
    rw small at path
agrees plan lines (RowAt race instance number (row.Left opening)) none = tt
agrees plan lines (RowAt race instance number (row.Right opening)) none = tt
agrees plan lines line none = tt

-- the left pointer of a row in which nothing is bad is below n, and no row of its instance opens it
pub freshness : (plan : Plan) (lines : List Placed) (line : Placed) → first_bad plan lines line ≡ None → HasFresh plan lines line
freshness plan lines (RowAt race instance number (row.Both left right)) none =
    let pointer = none_bad plan lines (RowAt race instance number (row.Both left right)) none kind.Pointer in
    let left_fine = (or_parts (bad_pointer_on side.Left plan lines race instance (Some left)) (bad_pointer_on side.Right plan lines race instance (Some right)) pointer).0 in
    let parts = or_parts (nat_le (entries_of plan race) left.value) (list_any (opens_pointer side.Left race instance left.value) lines) left_fine in
    record { below = leb-false (entries_of plan race) left.value parts.0; fresh = parts.1 }
freshness plan lines (RowAt race instance number (row.Left opening)) none = tt
freshness plan lines (RowAt race instance number (row.Right opening)) none = tt
freshness plan lines line none = tt
