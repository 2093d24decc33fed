-- Each table tells one more line, where it told the lines before.
use Rattle.std.proofs.Common.{◌≡◌, ◌≢◌, ℕ, ◌+◌, ◌<◌, ◌≤◌, ◌==◌, nat_lt, min, inl, inr, if◌then◌else◌, Bool, true, false, cond, ◌&&◌, ◌||◌, List, [], ◌∷◌, ◌++◌, length, get_or, Option, Some, None, count_by, refl, sym, ap, ◌∙◌, arith, eqb-true, eq-eqb, ltb-true, ltb-false}
use Rattle.std.proofs.lemmas.Bool.{and_from, and_left, and_parts, and_right, both_ways, cases_Bool, false_from_ne_true, false≢true, or_right}
use Rattle.std.proofs.lemmas.List.Sums.{sum_by_push}
use Rattle.std.specs.List.{list_any}
use Rattle.std.proofs.Math.Bool.{or-false, or-true}
use Rattle.sg_ledger.proofs.BitSteps.{min-zero}
use Rattle.sg_grammar.specs.Lines.{is_cast}
use Rattle.sg_check.specs.Facts.{code_commitment, commits_code, commits_half, is_marked, half_commitment, opened_on, marks_ballot, marks_entry, opens_pointer, points_to}
use Rattle.sg_check.specs.Kinds.{clashes_with, shows_against}
use Rattle.sg_commit.specs.declared.Digest.{Digest}
use Rattle.sg_commit.specs.declared.Opening.{Opening}
use Rattle.sg_forms.specs.declared.line.RowOpening.TheVariants as row
use Rattle.sg_ledger.proofs.Lists.{any-along, any-push, any-skip, given-push, given-skip}
use Rattle.sg_ledger.proofs.Places.{entry_one, entry_other, entry_same, first-set, row_other, row_same, tells-set}
use Rattle.sg_ledger.specs.inside.Steps.{codes_after, known_after, lefts_after, marked_after, marks_after, rights_after, seen_after, seen_lefts_after, seen_rights_after}
use Rattle.sg_ledger.specs.inside.Tables.{most_marks}
use Rattle.sg_ledger.specs.Tells.{ArePlacedIn, AtBallots, AtEntries, AtRows, is_value, shows_entry}
use Rattle.sg_plan.proofs.PlanLaws.{entry_place-below, entry_place-one, entry_tells, row_place-below}
use Rattle.sg_plan.specs.declared.plan.Side.TheVariants as side
use Rattle.sg_plan.specs.Ballots.{all_entries, ballot_has, candidates_of, entries_of, entry_at, entry_place, r_rows, row_place}
use Rattle.sg_plan.specs.declared.plan.Plan.{Plan}
use Rattle.sg_grammar.specs.Placed.{Placed}
use Rattle.sg_grammar.specs.Placed.Placed.{CodeCommitAt, RowCommitAt, CodeAt, RowAt}
use Rattle.sg_grammar.specs.Coordinates.{IsPlacedIn}

-- COMMITMENTS

abbrev pub TellsDigests : Plan → List (Option Digest) → List Placed → Type 0
TellsDigests plan table lines = AtEntries plan table None (λ race entry digest. digest ≡ code_commitment race entry lines)

pub codes_step : (plan : Plan) (table : List (Option Digest)) (lines : List Placed) (line : Placed) → IsPlacedIn plan line → length table ≡ all_entries plan
    → TellsDigests plan table lines → TellsDigests plan (codes_after plan table line) (lines ++ line ∷ [])
codes_step plan table lines (CodeCommitAt race entry digest) placed sized told = λ r e r_in e_in.
    first-set table (entry_place plan race entry) (entry_place plan r e) digest
    (code_commitment r e lines) (code_commitment r e (lines ++ CodeCommitAt race entry digest ∷ [])) (race == r && entry == e)
    (rw sized (entry_place-below plan race entry placed.0 placed.1)) (entry_same plan race entry r e) (entry_other plan race entry r e placed.1 e_in)
    (told r e r_in e_in) (given-push (commits_code r e) lines (CodeCommitAt race entry digest))
codes_step plan table lines line placed sized told = λ r e r_in e_in. told r e r_in e_in ∙ sym (given-skip (commits_code r e) lines line refl)

abbrev pub TellsLefts : Plan → List (Option Digest) → List Placed → Type 0
TellsLefts plan table lines = AtRows plan table None (λ race instance row digest. digest ≡ half_commitment lines side.Left race instance row)

pub lefts_step : (plan : Plan) (table : List (Option Digest)) (lines : List Placed) (line : Placed) → IsPlacedIn plan line → length table ≡ r_rows plan
    → TellsLefts plan table lines → TellsLefts plan (lefts_after plan table line) (lines ++ line ∷ [])
lefts_step plan table lines (RowCommitAt race instance row left right) placed sized told = λ r i k r_in i_in k_in.
    first-set table (row_place plan race instance row) (row_place plan r i k) left
    (half_commitment lines side.Left r i k) (half_commitment (lines ++ RowCommitAt race instance row left right ∷ []) side.Left r i k) ((race == r && instance == i) && row == k)
    (rw sized (row_place-below plan race instance row placed.0 placed.1 placed.2)) (row_same plan race instance row r i k) (row_other plan race instance row r i k placed.1 placed.2 i_in k_in)
    (told r i k r_in i_in k_in) (given-push (commits_half side.Left r i k) lines (RowCommitAt race instance row left right))
lefts_step plan table lines line placed sized told = λ r i k r_in i_in k_in. told r i k r_in i_in k_in ∙ sym (given-skip (commits_half side.Left r i k) lines line refl)

abbrev pub TellsRights : Plan → List (Option Digest) → List Placed → Type 0
TellsRights plan table lines = AtRows plan table None (λ race instance row digest. digest ≡ half_commitment lines side.Right race instance row)

pub rights_step : (plan : Plan) (table : List (Option Digest)) (lines : List Placed) (line : Placed) → IsPlacedIn plan line → length table ≡ r_rows plan
    → TellsRights plan table lines → TellsRights plan (rights_after plan table line) (lines ++ line ∷ [])
rights_step plan table lines (RowCommitAt race instance row left right) placed sized told = λ r i k r_in i_in k_in.
    first-set table (row_place plan race instance row) (row_place plan r i k) right
    (half_commitment lines side.Right r i k) (half_commitment (lines ++ RowCommitAt race instance row left right ∷ []) side.Right r i k) ((race == r && instance == i) && row == k)
    (rw sized (row_place-below plan race instance row placed.0 placed.1 placed.2)) (row_same plan race instance row r i k) (row_other plan race instance row r i k placed.1 placed.2 i_in k_in)
    (told r i k r_in i_in k_in) (given-push (commits_half side.Right r i k) lines (RowCommitAt race instance row left right))
rights_step plan table lines line placed sized told = λ r i k r_in i_in k_in. told r i k r_in i_in k_in ∙ sym (given-skip (commits_half side.Right r i k) lines line refl)

-- CODES

-- no line before shows a code that is against the line's, and no row before leads an entry against it
abbrev pub AgreesWith : Plan → Placed → List Placed → Type 0
AgreesWith plan (CodeAt block ballot race column code) lines = list_any (shows_against ballot race column code.code) lines ≡ false
AgreesWith plan (RowAt race instance number (row.Both left right)) lines =
    (nat_lt left.value (entries_of plan race) && nat_lt right.value (entries_of plan race)) ≡ true → list_any (clashes_with plan race left.value right.value) lines ≡ false
AgreesWith plan line lines = Unit {0}

abbrev pub TellsKnown : Plan → List (Option ℕ) → List Placed → Type 0
TellsKnown plan table lines = AtEntries plan table None (λ race entry code. (shown : ℕ) → list_any (shows_entry plan race entry shown) lines ≡ is_value code shown)

-- a line that shows another code of the entry is against this code
shown_otherwise : (plan : Plan) (ballot race column code shown : ℕ) → ballot_has plan ballot race ≡ true → column < candidates_of plan race → (code == shown) ≡ false
    → (line : Placed) → IsPlacedIn plan line → shows_entry plan race (entry_at plan race ballot column) shown line ≡ true → shows_against ballot race column code line ≡ true
shown_otherwise plan ballot race column code shown has below differ (CodeAt block of in_race at seen) placed shows =
    let parts = and_parts (in_race == race && entry_at plan in_race of at == entry_at plan race ballot column) (seen.code == shown) shows in
    let pair = and_parts (in_race == race) (entry_at plan in_race of at == entry_at plan race ballot column) parts.0 in
    let race_is : in_race ≡ race = eqb-true in_race race pair.0 in
    let shown_is : seen.code ≡ shown = eqb-true seen.code shown parts.1 in
    let entry_is : entry_at plan race of at ≡ entry_at plan race ballot column = rw race_is at (eqb-true (entry_at plan in_race of at) (entry_at plan race ballot column) pair.1) in
    let has' : ballot_has plan of race ≡ true = rw race_is at placed.3 in
    let below' : at < candidates_of plan race = rw race_is at placed.4 in
    let one = entry_one plan race of at ballot column has' below' has below entry_is in
    let apart : (seen.code == code) ≡ false = false_from_ne_true (seen.code == code) (λ e. both_ways (code == shown) differ (eq-eqb code shown (sym (eqb-true seen.code code e) ∙ shown_is))) in
    rw (eq-eqb of ballot one.ballot_is, pair.0, eq-eqb at column one.column_is, apart) refl
shown_otherwise plan ballot race column code shown has below differ line placed shows = absurd (false≢true shows)

-- the lines that show an entry, and one more that shows it
shown_push : (some same equal : Bool) → same ≡ true → (equal ≡ false → some ≡ false) → (some || (same && equal)) ≡ equal
shown_push some same true is only = rw is (or-true some)
shown_push some same false is only = rw (is, only refl) refl

pub known_step : (plan : Plan) (table : List (Option ℕ)) (lines : List Placed) (line : Placed) → IsPlacedIn plan line → length table ≡ all_entries plan → ArePlacedIn plan lines
    → AgreesWith plan line lines → TellsKnown plan table lines → TellsKnown plan (known_after plan table line) (lines ++ line ∷ [])
known_step plan table lines (CodeAt block ballot race column code) placed sized placed_lines agrees told = λ r e r_in e_in.
    let entry = entry_at plan race ballot column in
    let line = CodeAt block ballot race column code in
    let tells = entry_tells plan race ballot column placed.3 placed.4 in
    tells-set table None (entry_place plan race entry) (entry_place plan r e) (Some code.code)
    (λ (v : Option ℕ). (shown : ℕ) → list_any (shows_entry plan r e shown) (lines ++ line ∷ []) ≡ is_value v shown) (race == r && entry == e)
    (rw sized (entry_place-below plan race entry placed.0 tells.below)) (entry_same plan race entry r e) (entry_other plan race entry r e tells.below e_in)
    (λ same shown.
    let parts = and_parts (race == r) (entry == e) same in
    let race_is : race ≡ r = eqb-true race r parts.0 in
    let entry_is : entry ≡ e = eqb-true entry e parts.1 in
    any-push (shows_entry plan r e shown) lines line
    ∙ shown_push (list_any (shows_entry plan r e shown) lines) (race == r && entry == e) (code.code == shown) same
    (λ differ. rw (← race_is, ← entry_is) (false_from_ne_true (list_any (shows_entry plan race entry shown) lines)
    (λ some. both_ways (list_any (shows_against ballot race column code.code) lines) agrees
    (any-along plan (shows_entry plan race entry shown) (shows_against ballot race column code.code) lines placed_lines (shown_otherwise plan ballot race column code.code shown placed.3 placed.4 differ) some)))))
    (λ other shown. any-skip (shows_entry plan r e shown) lines line (and_left (race == r && entry == e) (code.code == shown) other) ∙ told r e r_in e_in shown)
known_step plan table lines line placed sized placed_lines agrees told = λ r e r_in e_in shown. any-skip (shows_entry plan r e shown) lines line refl ∙ told r e r_in e_in shown

abbrev pub TellsMarked : Plan → List Bool → List Placed → Type 0
TellsMarked plan table lines = AtEntries plan table false (λ race entry mark. mark ≡ is_marked plan race entry lines)

pub marked_step : (plan : Plan) (table : List Bool) (lines : List Placed) (line : Placed) → IsPlacedIn plan line → length table ≡ all_entries plan
    → TellsMarked plan table lines → TellsMarked plan (marked_after plan table line) (lines ++ line ∷ [])
marked_step plan table lines (CodeAt block ballot race column code) placed sized told = λ r e r_in e_in.
    let entry = entry_at plan race ballot column in
    let line = CodeAt block ballot race column code in
    let tells = entry_tells plan race ballot column placed.3 placed.4 in
    let push = any-push (marks_entry plan r e) lines line in
    elim (cases_Bool (is_cast block)) [
      | inl cast ↦
          rw cast (tells-set table false (entry_place plan race entry) (entry_place plan r e) true
          (λ (v : Bool). v ≡ is_marked plan r e (lines ++ line ∷ [])) (race == r && entry == e)
          (rw sized (entry_place-below plan race entry placed.0 tells.below)) (entry_same plan race entry r e) (entry_other plan race entry r e tells.below e_in)
          (λ same. sym (push ∙ or_right (is_marked plan r e lines) (is_cast block && (race == r && entry == e)) (and_from (is_cast block) (race == r && entry == e) cast same)))
          (λ other. told r e r_in e_in ∙ sym (any-skip (marks_entry plan r e) lines line (and_right (is_cast block) (race == r && entry == e) other))))
      | inr not_cast ↦ rw not_cast (told r e r_in e_in ∙ sym (any-skip (marks_entry plan r e) lines line (and_left (is_cast block) (race == r && entry == e) not_cast)))
    ]
marked_step plan table lines line placed sized told = λ r e r_in e_in. told r e r_in e_in ∙ sym (any-skip (marks_entry plan r e) lines line refl)

abbrev pub TellsMarks : Plan → List ℕ → List Placed → Type 0
TellsMarks plan table lines = AtBallots plan table (λ race ballot count. count ≡ min (count_by (marks_ballot ballot race) lines) most_marks)

-- counts go up by one, to the most at last
min-more : (most a : ℕ) → min (min a most + 1) most ≡ min (a + 1) most
min-more most a = omega arith

pub count-push : (p : Placed → Bool) (lines : List Placed) (line : Placed) → count_by p (lines ++ line ∷ []) ≡ count_by p lines + (if p line then 1 else 0)
count-push p lines line = sum_by_push (λ x. cond (p x) 1 0) lines line

pub count-skip : (p : Placed → Bool) (lines : List Placed) (line : Placed) → p line ≡ false → min (count_by p (lines ++ line ∷ [])) most_marks ≡ min (count_by p lines) most_marks
count-skip p lines line fails =
    ap (λ (n : ℕ). min n most_marks) (count-push p lines line ∙ ap (λ (b : Bool). count_by p lines + (if b then 1 else 0)) fails) ∙ min-zero most_marks (count_by p lines)

pub count-one : (p : Placed → Bool) (lines : List Placed) (line : Placed) → p line ≡ true → min (min (count_by p lines) most_marks + 1) most_marks ≡ min (count_by p (lines ++ line ∷ [])) most_marks
count-one p lines line passes =
    min-more most_marks (count_by p lines) ∙ sym (ap (λ (n : ℕ). min n most_marks) (count-push p lines line ∙ ap (λ (b : Bool). count_by p lines + (if b then 1 else 0)) passes))

-- ballots have their first entries at different places
ballot_same : (plan : Plan) (ballot race b r : ℕ) → (ballot == b && race == r) ≡ true → entry_place plan r (entry_at plan r b 0) ≡ entry_place plan race (entry_at plan race ballot 0)
ballot_same plan ballot race b r same =
    let parts = and_parts (ballot == b) (race == r) same in
    rw (eqb-true ballot b parts.0, eqb-true race r parts.1) refl

ballot_other : (plan : Plan) (ballot race b r : ℕ) → ballot_has plan ballot race ≡ true → 0 < candidates_of plan race → ballot_has plan b r ≡ true → 0 < candidates_of plan r
    → (ballot == b && race == r) ≡ false → entry_place plan r (entry_at plan r b 0) ≢ entry_place plan race (entry_at plan race ballot 0)
ballot_other plan ballot race b r has some has' some' other = λ same.
    let place = entry_place-one plan r (entry_at plan r b 0) race (entry_at plan race ballot 0) (entry_tells plan r b 0 has' some').below (entry_tells plan race ballot 0 has some).below same in
    let entry : entry_at plan race b 0 ≡ entry_at plan race ballot 0 = rw place.0 at place.1 in
    let has_it : ballot_has plan b race ≡ true = rw place.0 at has' in
    let one = entry_one plan race b 0 ballot 0 has_it some has some entry in
    both_ways (ballot == b && race == r) other (and_from (ballot == b) (race == r) (eq-eqb ballot b (sym one.ballot_is)) (eq-eqb race r (sym place.0)))

pub marks_step : (plan : Plan) (table : List ℕ) (lines : List Placed) (line : Placed) → ((race : ℕ) → race < length plan.races → 0 < candidates_of plan race)
    → IsPlacedIn plan line → length table ≡ all_entries plan → TellsMarks plan table lines → TellsMarks plan (marks_after plan table line) (lines ++ line ∷ [])
marks_step plan table lines (CodeAt block ballot race column code) some placed sized told = λ r b r_in has.
    let first = entry_at plan race ballot 0 in
    let line = CodeAt block ballot race column code in
    let at = entry_place plan race first in
    let below = (entry_tells plan race ballot 0 placed.3 (some race placed.0)).below in
    let p = marks_ballot b r in
    let was = told race ballot placed.0 placed.3 in
    elim (cases_Bool (is_cast block)) [
      | inl cast ↦
          rw cast (tells-set table 0 at (entry_place plan r (entry_at plan r b 0)) (min (get_or table at 0 + 1) most_marks)
          (λ (v : ℕ). v ≡ min (count_by p (lines ++ line ∷ [])) most_marks) (ballot == b && race == r)
          (rw sized (entry_place-below plan race first placed.0 below)) (ballot_same plan ballot race b r) (ballot_other plan ballot race b r placed.3 (some race placed.0) has (some r r_in))
          (λ same.
          let parts = and_parts (ballot == b) (race == r) same in
          let passes : p line ≡ true = and_from (is_cast block) (ballot == b && race == r) cast same in
          let was' : get_or table at 0 ≡ min (count_by p lines) most_marks = rw (← eqb-true ballot b parts.0, ← eqb-true race r parts.1) was in
          ap (λ (n : ℕ). min (n + 1) most_marks) was' ∙ count-one p lines line passes)
          (λ other. told r b r_in has ∙ sym (count-skip p lines line (and_right (is_cast block) (ballot == b && race == r) other))))
      | inr not_cast ↦ rw not_cast (told r b r_in has ∙ sym (count-skip p lines line (and_left (is_cast block) (ballot == b && race == r) not_cast)))
    ]
marks_step plan table lines line some placed sized told = λ r b r_in has. told r b r_in has ∙ sym (count-skip (marks_ballot b r) lines line refl)

-- POINTERS

abbrev pub TellsSeenLefts : Plan → List Bool → List Placed → Type 0
TellsSeenLefts plan table lines = AtRows plan table false (λ race instance pointer seen. seen ≡ list_any (opens_pointer side.Left race instance pointer) lines)

abbrev pub TellsSeenRights : Plan → List Bool → List Placed → Type 0
TellsSeenRights plan table lines = AtRows plan table false (λ race instance pointer seen. seen ≡ list_any (opens_pointer side.Right race instance pointer) lines)

-- what stands at a pointer's place when one more pointer was opened
seen_set : (plan : Plan) (table : List Bool) (race instance : ℕ) (opening : Option Opening) (r i pointer : ℕ) (old : Bool) → race < length plan.races → instance < plan.instances → length table ≡ r_rows plan
    → i < plan.instances → pointer < entries_of plan r → get_or table (row_place plan r i pointer) false ≡ old
    → get_or (seen_after plan table race instance opening) (row_place plan r i pointer) false ≡ (old || ((race == r && instance == i) && points_to pointer opening))
seen_set plan table race instance None r i pointer old within within_i sized i_in below was = was ∙ sym (ap (λ (b : Bool). old || b) (and_right (race == r && instance == i) false refl) ∙ or-false old)
seen_set plan table race instance (Some o) r i pointer old within within_i sized i_in below was =
    let same = (race == r && instance == i) && o.value == pointer in
    elim (cases_Bool (nat_lt o.value (entries_of plan race))) [
      | inl small ↦
          let few = ltb-true o.value (entries_of plan race) small in
          rw small (tells-set table false (row_place plan race instance o.value) (row_place plan r i pointer) true (λ (v : Bool). v ≡ (old || same)) same
          (rw sized (row_place-below plan race instance o.value within within_i few)) (row_same plan race instance o.value r i pointer) (row_other plan race instance o.value r i pointer within_i few i_in below)
          (λ e. sym (or_right old same e)) (λ e. was ∙ sym (ap (λ (b : Bool). old || b) e ∙ or-false old)))
      | inr large ↦
          let not_same : same ≡ false = false_from_ne_true same (λ e.
          let parts = and_parts (race == r && instance == i) (o.value == pointer) e in
          let pair = and_parts (race == r) (instance == i) parts.0 in
          let large' : entries_of plan r ≤ o.value = rw (← eqb-true race r pair.0) (ltb-false o.value (entries_of plan race) large) in
          omega (arith, below, large', eqb-true o.value pointer parts.1)) in
          rw large (was ∙ sym (ap (λ (b : Bool). old || b) not_same ∙ or-false old))
    ]

pub seen_lefts_step : (plan : Plan) (table : List Bool) (lines : List Placed) (line : Placed) → IsPlacedIn plan line → length table ≡ r_rows plan
    → TellsSeenLefts plan table lines → TellsSeenLefts plan (seen_lefts_after plan table line) (lines ++ line ∷ [])
seen_lefts_step plan table lines (RowAt race instance number opening) placed sized told = λ r i pointer r_in i_in below.
    seen_set plan table race instance (opened_on side.Left opening) r i pointer (list_any (opens_pointer side.Left r i pointer) lines) placed.0 placed.1 sized i_in below (told r i pointer r_in i_in below)
    ∙ sym (any-push (opens_pointer side.Left r i pointer) lines (RowAt race instance number opening))
seen_lefts_step plan table lines line placed sized told = λ r i pointer r_in i_in below. told r i pointer r_in i_in below ∙ sym (any-skip (opens_pointer side.Left r i pointer) lines line refl)

pub seen_rights_step : (plan : Plan) (table : List Bool) (lines : List Placed) (line : Placed) → IsPlacedIn plan line → length table ≡ r_rows plan
    → TellsSeenRights plan table lines → TellsSeenRights plan (seen_rights_after plan table line) (lines ++ line ∷ [])
seen_rights_step plan table lines (RowAt race instance number opening) placed sized told = λ r i pointer r_in i_in below.
    seen_set plan table race instance (opened_on side.Right opening) r i pointer (list_any (opens_pointer side.Right r i pointer) lines) placed.0 placed.1 sized i_in below (told r i pointer r_in i_in below)
    ∙ sym (any-push (opens_pointer side.Right r i pointer) lines (RowAt race instance number opening))
seen_rights_step plan table lines line placed sized told = λ r i pointer r_in i_in below. told r i pointer r_in i_in below ∙ sym (any-skip (opens_pointer side.Right r i pointer) lines line refl)
