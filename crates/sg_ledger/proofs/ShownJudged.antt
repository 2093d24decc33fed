-- What is looked up in the tables of codes and of print audits judges a row, an answer and a race that is over as the
-- lines before do.
use Rattle.std.proofs.Common.{◌≡◌, ℕ, ◌+◌, ◌/◌, ◌%◌, ◌<◌, ◌≤◌, ◌==◌, nat_lt, min, inl, inr, if◌then◌else◌, Bool, true, false, not, ◌&&◌, ◌||◌, List, length, get_or, take, Option, Some, None, is_some, count_by, refl, sym, ap, ap₂, ◌∙◌, arith, eqb-true, eq-eqb, ne_eqb, ltb-true, lt-ltb, le-ltb}
use Rattle.std.proofs.lemmas.Bool.{and_from, and_parts, both_ways, cases_Bool, cases_eq, cases_lt, false_from_ne_true, false≢true}
use Rattle.std.proofs.lemmas.List.{length-take, take_all}
use Rattle.std.proofs.lemmas.Nat.{div-mul-add, mod-mul-add, mod_below}
use Rattle.std.specs.List.{list_any}
use Rattle.std.specs.Option.{option_map, option_map_or}
use Rattle.std.proofs.lemmas.Option.{same_Some}
use Rattle.sg_lists.proofs.Any.{any-count}
use Rattle.sg_grammar.specs.Lines.{is_audit, is_cast, is_dispute}
use Rattle.sg_check.specs.Facts.{DisputedCode, audited_code, audited_entries, audits_entry, both_rows, is_audited, is_both, last_claim, opened_on, marks_code, marks_entry, opens_pointer, paper_code}
use Rattle.sg_check.specs.Kinds.{bad_placed, differ, is_right, is_there, wrong_audit, wrong_number, wrong_paper}
use Rattle.sg_check.specs.declared.judged.Kind.TheVariants as kind
use Rattle.sg_commit.specs.declared.Opening.{Opening}
use Rattle.sg_forms.specs.declared.line.CodeLine.{CodeLine}
use Rattle.sg_forms.specs.declared.line.RowOpening.{RowOpening}
use Rattle.sg_forms.specs.declared.line.RowOpening.TheVariants as row
use Rattle.sg_ledger.proofs.AuditSteps.{TellsAudited, TellsPapers, count_to-most}
use Rattle.sg_ledger.proofs.Judged.{flag_judged, is_value-some}
use Rattle.sg_ledger.proofs.KeptSteps.{TellsKnown, TellsMarked}
use Rattle.sg_ledger.proofs.Lists.{any-by, any-none, given-any}
use Rattle.sg_ledger.proofs.PathSteps.{are_small}
use Rattle.sg_ledger.proofs.Places.{column_below, entry_one}
use Rattle.sg_ledger.specs.inside.Reads.{beside, is_same_code, reads_another}
use Rattle.sg_ledger.specs.Tells.{ArePlacedIn, is_value, kept_of, opened_lefts, shows_entry}
use Rattle.sg_ledger.specs.declared.claims.Claimed.{Claimed}
use Rattle.sg_plan.proofs.PlanLaws.{entry_tells}
use Rattle.sg_plan.specs.declared.plan.Side.TheVariants as side
use Rattle.sg_plan.specs.Ballots.{ballot_has, candidates_of, entries_of, entry_at, entry_place, rows_of}
use Rattle.sg_plan.specs.declared.plan.Plan.{Plan}
use Rattle.sg_grammar.specs.Placed.{Placed}
use Rattle.sg_grammar.specs.Placed.Placed.{CodeAt}
use Rattle.sg_grammar.specs.Coordinates.{IsPlacedIn}
use Rattle.sg_grammar.specs.declared.state.Block.{Block}

-- A RACE THAT IS OVER

some-most : (most count : ℕ) → 0 < most → nat_lt 0 (min count most) ≡ nat_lt 0 count
some-most most count some =
    elim (cases_eq count 0) [
      | inl none ↦ le-ltb 0 (min count most) (omega arith) ∙ sym (le-ltb 0 count (omega arith))
      | inr more ↦ lt-ltb 0 (min count most) (omega arith) ∙ sym (lt-ltb 0 count (omega arith))
    ]

-- a ballot has a mark exactly where some line marks it
pub over_judged : (most found : ℕ) (p : Placed → Bool) (lines : List Placed) → 0 < most → found ≡ min (count_by p lines) most → nat_lt 0 found ≡ list_any p lines
over_judged most found p lines some found_is = ap (λ (n : ℕ). nat_lt 0 n) found_is ∙ (some-most most (count_by p lines) some ∙ sym (any-count p lines))

-- A PAPER

-- the first of a list, so many as there are
pub first_same : (list : List ℕ) (count many : ℕ) → length (take count list) ≡ many → take many list ≡ take count list
first_same list count many is =
    elim (cases_lt count (length list)) [
      | inl within ↦ ap (λ (n : ℕ). take n list) (omega (arith, length-take count list, is, within))
      | inr past ↦ take_all many list (omega (arith, length-take count list, is, past)) ∙ sym (take_all count list past)
    ]

-- PRINT: WHAT IS OPENED

-- a row is opened on one side and its entry audited, or on both and its entry not audited
pub audit_judged : (plan : Plan) (audited : List Bool) (lines : List Placed) (race : ℕ) (opening : RowOpening) → race < length plan.races → TellsAudited plan audited lines
    → option_map_or (λ (o : Opening). nat_lt o.value (entries_of plan race) && differ (is_both opening) (get_or audited (entry_place plan race o.value) false)) (opened_on side.Left opening) false ≡ wrong_audit plan lines race opening
audit_judged plan audited lines race opening in_plan told =
    flag_judged (entries_of plan race) (λ k. get_or audited (entry_place plan race k) false) (λ k. is_audited plan race k lines) (is_both opening) (opened_on side.Left opening) (λ k below. told race k in_plan below)

-- PRINT: HOW MANY ROWS

one-most : (b : Bool) → (if b then 1 else 0) ≤ 1
one-most true = omega arith
one-most false = omega arith

counts_agree : (most boths audits b a one : ℕ) → boths ≡ min b most → audits ≡ min a most → b + one < most → (boths + one == audits) ≡ (b + one == a)
counts_agree most boths audits b a one boths_are audits_are few =
    elim (cases_eq (b + one) a) [
      | inl same ↦ eq-eqb (boths + one) audits (omega arith) ∙ sym (eq-eqb (b + one) a same)
      | inr differ' ↦ ne_eqb (boths + one) audits (λ e. differ' (omega arith)) ∙ sym (ne_eqb (b + one) a differ')
    ]

pub number_judged : (most : ℕ) (plan : Plan) (lines : List Placed) (race instance number boths audits : ℕ) (opening : RowOpening) → entries_of plan race + 1 < most
    → boths ≡ min (both_rows race instance lines) most → audits ≡ min (audited_entries race lines) most → both_rows race instance lines ≤ opened_lefts plan race instance lines
    → (number + 1 == entries_of plan race && not (boths + (if is_both opening then 1 else 0) == audits)) ≡ wrong_number plan lines race instance number opening
number_judged most plan lines race instance number boths audits opening few boths_are audits_are opened =
    let limit = count_to-most (entries_of plan race) (λ pointer. list_any (opens_pointer side.Left race instance pointer) lines) in
    let rows : both_rows race instance lines ≤ entries_of plan race = omega (arith, opened, limit) in
    ap (λ (b : Bool). number + 1 == entries_of plan race && not b)
    (counts_agree most boths audits (both_rows race instance lines) (audited_entries race lines) (if is_both opening then 1 else 0) boths_are audits_are (omega (arith, rows, few, one-most (is_both opening))))

-- PRINT: WHAT THE PAPER HAS

audit_shows : (plan : Plan) (race entry code : ℕ) (line : Placed) → audits_entry plan race entry line ≡ Some code → shows_entry plan race entry code line ≡ true
audit_shows plan race entry code (CodeAt block ballot of column shown) audits =
    elim (cases_Bool (is_audit block && (of == race && entry_at plan of ballot column == entry))) [
      | inl passes ↦
          let found : Some shown.code ≡ Some code = rw passes at audits in
          let parts = and_parts (is_audit block) (of == race && entry_at plan of ballot column == entry) passes in
          and_from (of == race && entry_at plan of ballot column == entry) (shown.code == code) parts.1 (eq-eqb shown.code code (same_Some shown.code code found))
      | inr fails ↦
          let none : None ≡ Some code = rw fails at audits in
          absurd (cc)
    ]
audit_shows plan race entry code line audits = absurd (cc)

-- the code of an audited entry is the one that is known
known_is : (plan : Plan) (known : List (Option ℕ)) (lines : List Placed) (race entry code : ℕ) → race < length plan.races → entry < entries_of plan race → TellsKnown plan known lines
    → audited_code plan race entry lines ≡ Some code → get_or known (entry_place plan race entry) None ≡ Some code
known_is plan known lines race entry code in_plan below told audited =
    is_value-some (get_or known (entry_place plan race entry) None) code
    (sym (told race entry in_plan below code) ∙ given-any (audits_entry plan race entry) (shows_entry plan race entry code) code (audit_shows plan race entry code) lines audited)

paper_cases : (audited : Bool) (code known paper : Option ℕ) → audited ≡ is_some code → ((c : ℕ) → code ≡ Some c → known ≡ Some c)
    → (audited && not (is_same_code paper known)) ≡ option_map_or (λ c. not (is_there paper c)) code false
paper_cases audited None known paper audited_is known_is' = rw audited_is refl
paper_cases audited (Some c) known paper audited_is known_is' = rw (audited_is, known_is' c refl) refl

pub paper_judged : (plan : Plan) (audited : List Bool) (papers known : List (Option ℕ)) (lines : List Placed) (race : ℕ) (opening : RowOpening) → race < length plan.races → 0 < candidates_of plan race
    → TellsAudited plan audited lines → TellsPapers plan papers lines → TellsKnown plan known lines
    → reads_another plan audited papers known race opening ≡ wrong_paper plan lines race opening
paper_judged plan audited papers known lines race (row.Left left) in_plan some told_audited told_papers told_known = refl
paper_judged plan audited papers known lines race (row.Right right) in_plan some told_audited told_papers told_known = refl
paper_judged plan audited papers known lines race (row.Both left right) in_plan some told_audited told_papers told_known =
    let n = candidates_of plan race in
    let entry = left.value in
    let column = right.value % n in
    let other = beside n entry right.value in
    elim (cases_Bool (are_small plan race left right)) [
      | inl small ↦
          let parts = and_parts (nat_lt left.value (entries_of plan race)) (nat_lt right.value (entries_of plan race)) small in
          let below : entry < entries_of plan race = ltb-true entry (entries_of plan race) parts.0 in
          let column_small = mod_below right.value n some in
          let other_below : other < entries_of plan race = column_below (rows_of plan race) n entry column below column_small in
          let paper_is : get_or papers (entry_place plan race other) None ≡ paper_code plan race (entry / n) column lines =
          told_papers race other in_plan other_below
          ∙ ap₂ (λ (a b : ℕ). paper_code plan race a b lines) (div-mul-add (entry / n) n column column_small) (mod-mul-add (entry / n) n column column_small) in
          rw (small, paper_is)
          (paper_cases (get_or audited (entry_place plan race entry) false) (audited_code plan race entry lines) (get_or known (entry_place plan race entry) None) (paper_code plan race (entry / n) column lines)
          (told_audited race entry in_plan below) (λ c is. known_is plan known lines race entry c in_plan below told_known is))
      | inr large ↦ rw large refl
    ]

-- DISPUTES

-- the column is marked, and this code is known of it
abbrev pub is_mark_with : List Bool → List (Option ℕ) → ℕ → ℕ → Bool
is_mark_with marked known code at = get_or marked at false && is_there (get_or known at None) code

-- a line that marks the entry in a column of a ballot, whose code is known to be this one, marks this code
posted_up : (plan : Plan) (known : Option ℕ) (lines : List Placed) (ballot race column code : ℕ) → ballot_has plan ballot race ≡ true → column < candidates_of plan race
    → ((shown : ℕ) → list_any (shows_entry plan race (entry_at plan race ballot column) shown) lines ≡ is_value known shown) → is_there known code ≡ true
    → (line : Placed) → IsPlacedIn plan line → ((f : Placed → Bool) → f line ≡ true → list_any f lines ≡ true) → marks_entry plan race (entry_at plan race ballot column) line ≡ true
    → marks_code ballot race code line ≡ true
posted_up plan known lines ballot race column code has below told is (CodeAt block of in_race at shown) placed member marks =
    let parts = and_parts (is_cast block) (in_race == race && entry_at plan in_race of at == entry_at plan race ballot column) marks in
    let pair = and_parts (in_race == race) (entry_at plan in_race of at == entry_at plan race ballot column) parts.1 in
    let race_is : in_race ≡ race = eqb-true in_race race pair.0 in
    let entry_is : entry_at plan race of at ≡ entry_at plan race ballot column = rw race_is at (eqb-true (entry_at plan in_race of at) (entry_at plan race ballot column) pair.1) in
    let has' : ballot_has plan of race ≡ true = rw race_is at placed.3 in
    let below' : at < candidates_of plan race = rw race_is at placed.4 in
    let one = entry_one plan race of at ballot column has' below' has below entry_is in
    let shows = and_from (in_race == race && entry_at plan in_race of at == entry_at plan race ballot column) (shown.code == shown.code) parts.1 (eq-eqb shown.code shown.code refl) in
    let known_shown : known ≡ Some shown.code = is_value-some known shown.code (sym (told shown.code) ∙ member (shows_entry plan race (entry_at plan race ballot column) shown.code) shows) in
    let same : (shown.code == code) ≡ true = rw known_shown at is in
    and_from (is_cast block && (of == ballot && in_race == race)) (shown.code == code)
    (and_from (is_cast block) (of == ballot && in_race == race) parts.0 (and_from (of == ballot) (in_race == race) (eq-eqb of ballot one.ballot_is) pair.0)) same
posted_up plan known lines ballot race column code has below told is line placed member marks = absurd (false≢true marks)

-- what is kept of a claim judges its answer at the last code of its block
pub answer_judged : (plan : Plan) (lines : List Placed) (block : Block) (ballot race column : ℕ) (code : CodeLine) (claim : Option DisputedCode) (kept : Claimed) (marked wrong : Bool)
    → is_dispute block ≡ true → column + 1 ≡ candidates_of plan race → last_claim lines ≡ claim → Some kept ≡ option_map kept_of claim
    → marked ≡ list_any (marks_code ballot race kept.code) lines → wrong ≡ not (is_right kept.answer marked (kept.shown || code.code == kept.code))
    → wrong ≡ bad_placed kind.Dispute plan lines (CodeAt block ballot race column code)
answer_judged plan lines block ballot race column code None kept marked wrong is last claim_is kept_is marked_is wrong_is = absurd (cc)
answer_judged plan lines block ballot race column code (Some claim) kept marked wrong is last claim_is kept_is marked_is wrong_is =
    let same : kept ≡ kept_of claim = ap (λ (o : Option Claimed). option_map_or (λ (c : Claimed). c) o kept) kept_is in
    rw (is, eq-eqb (column + 1) (candidates_of plan race) last, claim_is)
    (wrong_is ∙ (ap (λ (b : Bool). not (is_right kept.answer b (kept.shown || code.code == kept.code))) marked_is
    ∙ ap (λ (k : Claimed). not (is_right k.answer (list_any (marks_code ballot race k.code) lines) (k.shown || code.code == k.code))) same))

-- what a line that marks a code of a ballot says
record MarksColumn (plan : Plan) (ballot race code : ℕ) (line : Placed) : Type 0 where
  pub column : ℕ
  pub within : column < candidates_of plan race
  pub marks : marks_entry plan race (entry_at plan race ballot column) line ≡ true
  pub shows : shows_entry plan race (entry_at plan race ballot column) code line ≡ true

posted_down : (plan : Plan) (ballot race code : ℕ) (line : Placed) → IsPlacedIn plan line → marks_code ballot race code line ≡ true → MarksColumn plan ballot race code line
posted_down plan ballot race code (CodeAt block of in_race at shown) placed marks =
    let parts = and_parts (is_cast block && (of == ballot && in_race == race)) (shown.code == code) marks in
    let cast = and_parts (is_cast block) (of == ballot && in_race == race) parts.0 in
    let pair = and_parts (of == ballot) (in_race == race) cast.1 in
    let ballot_is : of ≡ ballot = eqb-true of ballot pair.0 in
    let race_is : in_race ≡ race = eqb-true in_race race pair.1 in
    let entry = and_from (in_race == race) (entry_at plan in_race of at == entry_at plan race ballot at) pair.1
    (eq-eqb (entry_at plan in_race of at) (entry_at plan race ballot at) (ap₂ (λ (r b : ℕ). entry_at plan r b at) race_is ballot_is)) in
    record {
      column = at;
      within = rw race_is at placed.4;
      marks = and_from (is_cast block) (in_race == race && entry_at plan in_race of at == entry_at plan race ballot at) cast.0 entry;
      shows = and_from (in_race == race && entry_at plan in_race of at == entry_at plan race ballot at) (shown.code == code) entry parts.1;
    }
posted_down plan ballot race code line placed marks = absurd (false≢true marks)

is_there-value : (known : Option ℕ) (code : ℕ) → known ≡ Some code → is_there known code ≡ true
is_there-value known code is = rw is (eq-eqb code code refl)

-- a column of a ballot is marked with the code, exactly where a line marks it; `first` is the place of its first entry
pub posted_judged : (plan : Plan) (marked : List Bool) (known : List (Option ℕ)) (lines : List Placed) (ballot race code first : ℕ) (some : Bool)
    → race < length plan.races → ballot_has plan ballot race ≡ true → ArePlacedIn plan lines → TellsMarked plan marked lines → TellsKnown plan known lines
    → first ≡ entry_place plan race (entry_at plan race ballot 0)
    → (some ≡ true → (at : ℕ) × (at < candidates_of plan race) × (is_mark_with marked known code (first + at) ≡ true))
    → (some ≡ false → (at : ℕ) → at < candidates_of plan race → is_mark_with marked known code (first + at) ≡ false)
    → some ≡ list_any (marks_code ballot race code) lines
posted_judged plan marked known lines ballot race code first true in_plan has placed told_marked told_known first_is found none =
    let at = found refl in
    let column = at.0 in
    let entry = entry_at plan race ballot column in
    let below = (entry_tells plan race ballot column has at.1).below in
    let place : first + column ≡ entry_place plan race entry = omega (arith, first_is) in
    let parts = and_parts (get_or marked (first + column) false) (is_there (get_or known (first + column) None) code) at.2 in
    let is_marked' : list_any (marks_entry plan race entry) lines ≡ true = sym (rw place (told_marked race entry in_plan below)) ∙ parts.0 in
    sym (any-by plan (marks_entry plan race entry) (marks_code ballot race code) lines lines placed (λ f passes. passes)
    (posted_up plan (get_or known (first + column) None) lines ballot race column code has at.1 (λ shown. rw place (told_known race entry in_plan below shown)) parts.1) is_marked')
posted_judged plan marked known lines ballot race code first false in_plan has placed told_marked told_known first_is found none =
    sym (any-none plan (marks_code ballot race code) lines lines placed (λ f passes. passes) (λ line in_place member.
    false_from_ne_true (marks_code ballot race code line) (λ passes.
    let m = posted_down plan ballot race code line in_place passes in
    let entry = entry_at plan race ballot m.column in
    let below = (entry_tells plan race ballot m.column has m.within).below in
    let place : first + m.column ≡ entry_place plan race entry = omega (arith, first_is) in
    let mark : get_or marked (first + m.column) false ≡ true = rw place (told_marked race entry in_plan below ∙ member (marks_entry plan race entry) m.marks) in
    let value : is_value (get_or known (entry_place plan race entry) None) code ≡ true = sym (told_known race entry in_plan below code) ∙ member (shows_entry plan race entry code) m.shows in
    let there : is_there (get_or known (first + m.column) None) code ≡ true = rw place (is_there-value (get_or known (entry_place plan race entry) None) code (is_value-some (get_or known (entry_place plan race entry) None) code value)) in
    both_ways (is_mark_with marked known code (first + m.column)) (none refl m.column m.within)
    (and_from (get_or marked (first + m.column) false) (is_there (get_or known (first + m.column) None) code) mark there))))
