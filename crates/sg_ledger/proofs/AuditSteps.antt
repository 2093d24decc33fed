-- The tables of print audits tell one more line, where they told the lines before.
use Rattle.std.proofs.Common.{◌≡◌, ℕ, zero, suc, ◌+◌, ◌-◌, ◌*◌, ◌/◌, ◌%◌, ◌<◌, ◌≤◌, ◌==◌, nat_le, min, inl, inr, if◌then◌else◌, Bool, true, false, ◌&&◌, ◌||◌, List, [], ◌∷◌, ◌++◌, length, get_or, slice_get, Option, Some, None, is_some, count_by, refl, sym, ap, ap₂, ◌∙◌, arith, eqb-true, eq-eqb, ne_eqb, le-leb}
use Rattle.std.proofs.lemmas.Bool.{and_from, and_left, and_parts, and_right, both_ways, cases_Bool, cases_eq, cases_lt, false≢true, lt-leb, or_left, or_right}
use Rattle.std.proofs.lemmas.Nat.{div-add-mod'}
use Rattle.std.proofs.lemmas.Option.{slice_get_past}
use Rattle.std.specs.List.{list_any}
use Rattle.std.specs.Option.{option_or}
use Rattle.std.proofs.Math.Bool.{or-false}
use Rattle.sg_lists.proofs.Options.{is_some-cond}
use Rattle.sg_grammar.specs.Lines.{is_audit}
use Rattle.sg_check.specs.Facts.{audited_entries, audits_entry, audits_race, both_rows, is_audited, is_both, opens_both, opens_pointer, paper_code, shows_paper}
use Rattle.sg_forms.specs.declared.line.CodeLine.{CodeLine}
use Rattle.sg_forms.specs.declared.line.RowOpening.TheVariants as row
use Rattle.sg_ledger.proofs.KeptSteps.{count-one, count-push, count-skip}
use Rattle.sg_ledger.proofs.Lists.{any-push, given-push, given-skip}
use Rattle.sg_ledger.proofs.Places.{entry_other, entry_place-end, entry_same, first-set, length-first, tells-set}
use Rattle.sg_ledger.specs.inside.Steps.{audit_counts_after, audited_after, both_counts_after, papers_after}
use Rattle.sg_ledger.specs.inside.Tables.{most_marks, with_first, with_firsts}
use Rattle.sg_ledger.specs.Tells.{AtEntries, AtInstances, AtRaces, count_to, instance_place, opened_lefts}
use Rattle.sg_plan.proofs.PlanLaws.{entry_place-below, entry_place-one, entry_tells}
use Rattle.sg_plan.specs.declared.plan.Side.TheVariants as side
use Rattle.sg_plan.specs.Ballots.{all_entries, ballot_row, candidates_of, entries_of, entry_at, entry_place}
use Rattle.sg_plan.specs.declared.plan.Plan.{Plan}
use Rattle.sg_grammar.specs.Placed.{Placed}
use Rattle.sg_grammar.specs.Placed.Placed.{CodeAt, PaperAt, RowAt}
use Rattle.sg_grammar.specs.Coordinates.{IsPlacedIn}
use Rattle.sg_grammar.specs.declared.state.Block.{Block}

-- AUDITED ENTRIES

abbrev pub TellsAudited : Plan → List Bool → List Placed → Type 0
TellsAudited plan table lines = AtEntries plan table false (λ race entry bit. bit ≡ is_audited plan race entry lines)

some_or : (a b : Option ℕ) → is_some (option_or a b) ≡ (is_some a || is_some b)
some_or None b = refl
some_or (Some x) b = refl

audited-push : (plan : Plan) (r e : ℕ) (lines : List Placed) (block : Block) (ballot race column : ℕ) (code : CodeLine)
    → is_audited plan r e (lines ++ CodeAt block ballot race column code ∷ []) ≡ (is_audited plan r e lines || (is_audit block && (race == r && entry_at plan race ballot column == e)))
audited-push plan r e lines block ballot race column code =
    let line = CodeAt block ballot race column code in
    ap (λ (o : Option ℕ). is_some o) (given-push (audits_entry plan r e) lines line)
    ∙ (some_or _ (audits_entry plan r e line)
    ∙ ap (λ (b : Bool). is_audited plan r e lines || b) (is_some-cond (is_audit block && (race == r && entry_at plan race ballot column == e)) code.code))

pub audited_step : (plan : Plan) (table : List Bool) (lines : List Placed) (line : Placed) → IsPlacedIn plan line → length table ≡ all_entries plan
    → TellsAudited plan table lines → TellsAudited plan (audited_after plan table line) (lines ++ line ∷ [])
audited_step plan table lines (CodeAt block ballot race column code) placed sized told = λ r e r_in e_in.
    let entry = entry_at plan race ballot column in
    let line = CodeAt block ballot race column code in
    let tells = entry_tells plan race ballot column placed.3 placed.4 in
    let push = audited-push plan r e lines block ballot race column code in
    let skip : (is_audit block && (race == r && entry == e)) ≡ false → is_audited plan r e (lines ++ line ∷ []) ≡ is_audited plan r e lines
    = λ none. push ∙ (ap (λ (b : Bool). is_audited plan r e lines || b) none ∙ or-false (is_audited plan r e lines)) in
    elim (cases_Bool (is_audit block)) [
      | inl audit ↦
          rw audit (tells-set table false (entry_place plan race entry) (entry_place plan r e) true
          (λ (v : Bool). v ≡ is_audited plan r e (lines ++ line ∷ [])) (race == r && entry == e)
          (rw sized (entry_place-below plan race entry placed.0 tells.below)) (entry_same plan race entry r e) (entry_other plan race entry r e tells.below e_in)
          (λ same. sym (push ∙ or_right (is_audited plan r e lines) (is_audit block && (race == r && entry == e)) (and_from (is_audit block) (race == r && entry == e) audit same)))
          (λ other. told r e r_in e_in ∙ sym (skip (and_right (is_audit block) (race == r && entry == e) other))))
      | inr no_audit ↦ rw no_audit (told r e r_in e_in ∙ sym (skip (and_left (is_audit block) (race == r && entry == e) no_audit)))
    ]
audited_step plan table lines line placed sized told = λ r e r_in e_in. told r e r_in e_in ∙ sym (ap (λ (o : Option ℕ). is_some o) (given-skip (audits_entry plan r e) lines line refl))

-- HOW MANY ENTRIES

abbrev pub TellsAuditCounts : Plan → List ℕ → List Placed → Type 0
TellsAuditCounts plan table lines = AtRaces plan table (λ race count. count ≡ min (audited_entries race lines) most_marks)

pub audit_counts_step : (plan : Plan) (table : List ℕ) (lines : List Placed) (line : Placed) → IsPlacedIn plan line → length table ≡ length plan.races
    → TellsAuditCounts plan table lines → TellsAuditCounts plan (audit_counts_after table line) (lines ++ line ∷ [])
audit_counts_step plan table lines (CodeAt block ballot race column code) placed sized told = λ r r_in.
    let line = CodeAt block ballot race column code in
    let p = audits_race r in
    elim (cases_Bool (is_audit block)) [
      | inl audit ↦
          rw audit (tells-set table 0 race r (min (get_or table race 0 + 1) most_marks) (λ (v : ℕ). v ≡ min (count_by p (lines ++ line ∷ [])) most_marks) (race == r)
          (rw sized placed.0) (λ same. sym (eqb-true race r same)) (λ other e. both_ways (race == r) other (eq-eqb race r (sym e)))
          (λ same.
          let passes : p line ≡ true = and_from (is_audit block) (race == r) audit same in
          let was : get_or table race 0 ≡ min (count_by p lines) most_marks = rw (← eqb-true race r same) (told race placed.0) in
          ap (λ (n : ℕ). min (n + 1) most_marks) was ∙ count-one p lines line passes)
          (λ other. told r r_in ∙ sym (count-skip p lines line (and_right (is_audit block) (race == r) other))))
      | inr no_audit ↦ rw no_audit (told r r_in ∙ sym (count-skip p lines line (and_left (is_audit block) (race == r) no_audit)))
    ]
audit_counts_step plan table lines line placed sized told = λ r r_in. told r r_in ∙ sym (count-skip (audits_race r) lines line refl)

-- ROWS OPENED ON BOTH SIDES

abbrev pub TellsBothCounts : Plan → List ℕ → List Placed → Type 0
TellsBothCounts plan table lines = AtInstances plan table (λ race instance count. count ≡ min (both_rows race instance lines) most_marks)

pub both_counts_step : (plan : Plan) (table : List ℕ) (lines : List Placed) (line : Placed) → plan.instances ≤ 16 → IsPlacedIn plan line → length table ≡ 16 * length plan.races
    → TellsBothCounts plan table lines → TellsBothCounts plan (both_counts_after table line) (lines ++ line ∷ [])
both_counts_step plan table lines (RowAt race instance number opening) few placed sized told = λ r i r_in i_in.
    let line = RowAt race instance number opening in
    let p = opens_both r i in
    let at = instance_place race instance in
    let same_instance = race == r && instance == i in
    elim (cases_Bool (is_both opening)) [
      | inl both ↦
          rw both (tells-set table 0 at (instance_place r i) (min (get_or table at 0 + 1) most_marks) (λ (v : ℕ). v ≡ min (count_by p (lines ++ line ∷ [])) most_marks) same_instance
          (omega (arith, sized, placed.0, placed.1, few))
          (λ same. let parts = and_parts (race == r) (instance == i) same in rw (eqb-true race r parts.0, eqb-true instance i parts.1) refl)
          (λ other e. both_ways same_instance other
          (and_from (race == r) (instance == i) (eq-eqb race r (omega (arith, e, placed.1, i_in, few))) (eq-eqb instance i (omega (arith, e, placed.1, i_in, few)))))
          (λ same.
          let parts = and_parts (race == r) (instance == i) same in
          let passes : p line ≡ true = and_from same_instance (is_both opening) same both in
          let was : get_or table at 0 ≡ min (count_by p lines) most_marks = rw (← eqb-true race r parts.0, ← eqb-true instance i parts.1) (told race instance placed.0 placed.1) in
          ap (λ (n : ℕ). min (n + 1) most_marks) was ∙ count-one p lines line passes)
          (λ other. told r i r_in i_in ∙ sym (count-skip p lines line (and_left same_instance (is_both opening) other))))
      | inr one ↦ rw one (told r i r_in i_in ∙ sym (count-skip p lines line (and_right same_instance (is_both opening) one)))
    ]
both_counts_step plan table lines line few placed sized told = λ r i r_in i_in. told r i r_in i_in ∙ sym (count-skip (opens_both r i) lines line refl)

-- PAPERS

abbrev pub TellsPapers : Plan → List (Option ℕ) → List Placed → Type 0
TellsPapers plan table lines = AtEntries plan table None (λ race entry code. code ≡ paper_code plan race (entry / candidates_of plan race) (entry % candidates_of plan race) lines)

pub length-firsts : {A : Type 0} (table : List (Option A)) (at : ℕ) (values : List A) → length (with_firsts table at values) ≡ length table
length-firsts table at [] = refl
length-firsts table at (value ∷ values) = length-firsts (with_first table at value) (at + 1) values ∙ length-first table at value

-- the value for a place, where the first of the values is for `at`
abbrev given_at : {A : Type 0} → ℕ → List A → ℕ → Option A
given_at at values place = (if nat_le at place then slice_get values (place - at) else None)

given_at-none : {A : Type 0} (at : ℕ) (values : List A) (place : ℕ) → (at ≤ place → at + length values ≤ place) → given_at at values place ≡ None
given_at-none at values place apart =
    elim (cases_lt place at) [
      | inl before ↦ rw (lt-leb at place before) refl
      | inr behind ↦ rw (le-leb at place behind) (slice_get_past values (place - at) (omega (arith, apart behind)))
    ]

or_more : {A : Type 0} (old first more : Option A) → option_or (option_or old first) more ≡ option_or old (option_or first more)
or_more None first more = refl
or_more (Some x) first more = refl

-- what is given for a place is the first value there, or one of the others
given_at-more : {A : Type 0} (at : ℕ) (value : A) (values : List A) (place : ℕ)
    → option_or (if place == at then Some value else None) (given_at (at + 1) values place) ≡ given_at at (value ∷ values) place
given_at-more at value values place =
    elim (cases_eq place at) [
      | inl same ↦
          let none : place - at ≡ 0 = omega arith in
          rw (eq-eqb place at same, le-leb at place (omega arith), none) refl
      | inr other ↦
          elim (cases_lt place at) [
            | inl before ↦ rw (ne_eqb place at other, lt-leb (at + 1) place (omega arith), lt-leb at place before) refl
            | inr behind ↦
                let more : place - at ≡ suc (place - (at + 1)) = omega arith in
                rw (ne_eqb place at other, le-leb (at + 1) place (omega arith), le-leb at place behind, more) refl
          ]
    ]

-- what stands at a place behind a list of values
firsts-at : {A : Type 0} (table : List (Option A)) (at : ℕ) (values : List A) (place : ℕ) → at + length values ≤ length table
    → get_or (with_firsts table at values) place None ≡ option_or (get_or table place None) (given_at at values place)
firsts-at {A} table at [] place within =
    sym (ap (λ (o : Option A). option_or (get_or table place None) o) (given_at-none at [] place (λ behind. omega arith)) ∙ or_none (get_or table place None))
  where
    or_none : (o : Option A) → option_or o None ≡ o
    or_none None = refl
    or_none (Some x) = refl
firsts-at {A} table at (value ∷ values) place within =
    let old = get_or table place None in
    let one = first-set table at place value old (option_or old (if place == at then Some value else None)) (place == at)
    (omega arith) (λ same. eqb-true place at same) (λ other e. both_ways (place == at) other (eq-eqb place at e)) refl refl in
    firsts-at (with_first table at value) (at + 1) values place (omega (arith, length-first table at value))
    ∙ (ap (λ (o : Option A). option_or o (given_at (at + 1) values place)) one
    ∙ (or_more old (if place == at then Some value else None) (given_at (at + 1) values place)
    ∙ ap (λ (o : Option A). option_or old o) (given_at-more at value values place)))

-- what a paper gives for the place of an entry is what it shows beside the entry's candidate
paper_given : (plan : Plan) (ballot race : ℕ) (list : List ℕ) (r e : ℕ) → IsPlacedIn plan (PaperAt ballot race list) → r < length plan.races → e < entries_of plan r → 0 < candidates_of plan r
    → given_at (entry_place plan race (entry_at plan race ballot 0)) list (entry_place plan r e) ≡ shows_paper plan r (e / candidates_of plan r) (e % candidates_of plan r) (PaperAt ballot race list)
paper_given plan ballot race list r e placed r_in e_in some =
    let n = candidates_of plan r in
    let at = entry_place plan race (entry_at plan race ballot 0) in
    let place = entry_place plan r e in
    let same_row = race == r && ballot_row plan race ballot == e / n in
    elim (cases_Bool same_row) [
      | inl same ↦
          let parts = and_parts (race == r) (ballot_row plan race ballot == e / n) same in
          let race_is : race ≡ r = eqb-true race r parts.0 in
          let row_is : ballot_row plan race ballot ≡ e / n = eqb-true (ballot_row plan race ballot) (e / n) parts.1 in
          let first_is : entry_at plan race ballot 0 ≡ e / n * n + 0 = ap₂ (λ (row k : ℕ). row * k + 0) row_is (ap (λ (k : ℕ). candidates_of plan k) race_is) in
          let at_is : at ≡ entry_place plan r (e / n * n + 0) = ap₂ (λ (k first : ℕ). entry_place plan k first) race_is first_is in
          let there : place ≡ at + e % n = omega (arith, at_is, div-add-mod' e n) in
          let column : place - at ≡ e % n = omega arith in
          rw (same, le-leb at place (omega arith), column) refl
      | inr other ↦
          rw other (given_at-none at list place (λ behind.
          elim (cases_lt place (at + length list)) [
            | inr past ↦ past
            | inl within ↦
                let column = place - at in
                let column_below : column < candidates_of plan race = omega (arith, placed.4) in
                let tells = entry_tells plan race ballot column placed.3 column_below in
                let there : place ≡ entry_place plan race (entry_at plan race ballot column) = omega arith in
                let one = entry_place-one plan r e race (entry_at plan race ballot column) e_in tells.below there in
                let row_is : e / n ≡ ballot_row plan race ballot = ap₂ (λ (x k : ℕ). x / candidates_of plan k) one.1 one.0 ∙ tells.row in
                absurd (both_ways same_row other (and_from (race == r) (ballot_row plan race ballot == e / n) (eq-eqb race r (sym one.0)) (eq-eqb (ballot_row plan race ballot) (e / n) (sym row_is))))
          ]))
    ]

pub papers_step : (plan : Plan) (table : List (Option ℕ)) (lines : List Placed) (line : Placed) → ((race : ℕ) → race < length plan.races → 0 < candidates_of plan race)
    → IsPlacedIn plan line → length table ≡ all_entries plan → TellsPapers plan table lines → TellsPapers plan (papers_after plan table line) (lines ++ line ∷ [])
papers_step plan table lines (PaperAt ballot race list) some placed sized told = λ r e r_in e_in.
    let n = candidates_of plan r in
    let line = PaperAt ballot race list in
    let at = entry_place plan race (entry_at plan race ballot 0) in
    let k = candidates_of plan race in
    let last = (entry_tells plan race ballot (k - 1) placed.3 (omega (arith, some race placed.0))).below in
    let within : at + length list ≤ length table = omega (arith, sized, placed.4, last, entry_place-end plan race (entry_at plan race ballot 0 + k) placed.0 (omega (arith, last, some race placed.0))) in
    firsts-at table at list (entry_place plan r e) within
    ∙ (ap₂ (λ (a b : Option ℕ). option_or a b) (told r e r_in e_in) (paper_given plan ballot race list r e placed r_in e_in (some r r_in))
    ∙ sym (given-push (shows_paper plan r (e / n) (e % n)) lines line))
papers_step plan table lines line some placed sized told = λ r e r_in e_in.
    told r e r_in e_in ∙ sym (given-skip (shows_paper plan r (e / candidates_of plan r) (e % candidates_of plan r)) lines line refl)

-- NO INSTANCE HAS MORE ROWS OPENED ON BOTH SIDES THAN ENTRIES

one-le : (a b : Bool) → (a ≡ true → b ≡ true) → (if a then 1 else 0) ≤ (if b then 1 else 0)
one-le true true passes = omega arith
one-le true false passes = absurd (false≢true (passes refl))
one-le false true passes = omega arith
one-le false false passes = omega arith

-- more tests are passed
count_to-le : (n : ℕ) (p q : ℕ → Bool) → ((k : ℕ) → p k ≡ true → q k ≡ true) → count_to n p ≤ count_to n q
count_to-le zero p q passes = omega arith
count_to-le (suc n) p q passes = omega (arith, count_to-le n p q passes, one-le (p n) (q n) (passes n))

-- and one more is
count_to-more : (n v : ℕ) (p q : ℕ → Bool) → v < n → p v ≡ false → q v ≡ true → ((k : ℕ) → p k ≡ true → q k ≡ true) → count_to n p + 1 ≤ count_to n q
count_to-more zero v p q below out in_it passes = absurd (omega arith)
count_to-more (suc n) v p q below out in_it passes =
    elim (cases_eq v n) [
      | inl last ↦
          let out' : p n ≡ false = rw (← last) out in
          let in_it' : q n ≡ true = rw (← last) in_it in
          rw (out', in_it') (omega (arith, count_to-le n p q passes))
      | inr before ↦ omega (arith, count_to-more n v p q (omega arith) out in_it passes, one-le (p n) (q n) (passes n))
    ]

pub count_to-most : (n : ℕ) (p : ℕ → Bool) → count_to n p ≤ n
count_to-most zero p = omega arith
count_to-most (suc n) p = omega (arith, count_to-most n p, one-le (p n) true (λ e. refl))

-- the pointers opened by earlier lines are opened
opened-le : (plan : Plan) (r i : ℕ) (lines : List Placed) (line : Placed) → opened_lefts plan r i lines ≤ opened_lefts plan r i (lines ++ line ∷ [])
opened-le plan r i lines line =
    count_to-le (entries_of plan r) (λ k. list_any (opens_pointer side.Left r i k) lines) (λ k. list_any (opens_pointer side.Left r i k) (lines ++ line ∷ []))
    (λ k opened. any-push (opens_pointer side.Left r i k) lines line ∙ or_left (list_any (opens_pointer side.Left r i k) lines) (opens_pointer side.Left r i k line) opened)

abbrev pub AreFewBoths : Plan → List Placed → Type 0
AreFewBoths plan lines = (race instance : ℕ) → race < length plan.races → instance < plan.instances → both_rows race instance lines ≤ opened_lefts plan race instance lines

-- a line that opens no row on both sides
few_skip : (plan : Plan) (r i : ℕ) (lines : List Placed) (line : Placed) → opens_both r i line ≡ false → both_rows r i lines ≤ opened_lefts plan r i lines
    → both_rows r i (lines ++ line ∷ []) ≤ opened_lefts plan r i (lines ++ line ∷ [])
few_skip plan r i lines line none few =
    let one : ◌≡◌ {A = ℕ} (if opens_both r i line then 1 else 0) 0 = rw none refl in
    omega (arith, count-push (opens_both r i) lines line, one, opened-le plan r i lines line, few)

-- the left pointer of a fine row is below n, and no row of its instance opens it
pub record IsFresh (plan : Plan) (lines : List Placed) (race instance pointer : ℕ) : Type 0 where
  pub below : pointer < entries_of plan race
  pub fresh : list_any (opens_pointer side.Left race instance pointer) lines ≡ false

-- the left pointer of a row opened on both sides is fresh
abbrev pub HasFresh : Plan → List Placed → Placed → Type 0
HasFresh plan lines (RowAt race instance number (row.Both left right)) = IsFresh plan lines race instance left.value
HasFresh plan lines line = Unit {0}

few_same : (plan : Plan) (r i : ℕ) (lines : List Placed) (line : Placed) (pointer : ℕ) → IsFresh plan lines r i pointer → opens_pointer side.Left r i pointer line ≡ true
    → both_rows r i lines ≤ opened_lefts plan r i lines → both_rows r i (lines ++ line ∷ []) ≤ opened_lefts plan r i (lines ++ line ∷ [])
few_same plan r i lines line pointer is_fresh opens few =
    let more = count_to-more (entries_of plan r) pointer (λ k. list_any (opens_pointer side.Left r i k) lines) (λ k. list_any (opens_pointer side.Left r i k) (lines ++ line ∷ []))
    is_fresh.below is_fresh.fresh (any-push (opens_pointer side.Left r i pointer) lines line ∙ or_right (list_any (opens_pointer side.Left r i pointer) lines) (opens_pointer side.Left r i pointer line) opens)
    (λ k opened. any-push (opens_pointer side.Left r i k) lines line ∙ or_left (list_any (opens_pointer side.Left r i k) lines) (opens_pointer side.Left r i k line) opened) in
    let one = one-le (opens_both r i line) true (λ e. refl) in
    omega (arith, count-push (opens_both r i) lines line, one, more, few)

pub few_step : (plan : Plan) (lines : List Placed) (line : Placed) → HasFresh plan lines line → AreFewBoths plan lines → AreFewBoths plan (lines ++ line ∷ [])
few_step plan lines (RowAt race instance number (row.Both left right)) is_fresh few = λ r i r_in i_in.
    let line = RowAt race instance number (row.Both left right) in
    elim (cases_Bool (race == r && instance == i)) [
      | inl same ↦
          let parts = and_parts (race == r) (instance == i) same in
          let is_fresh' : IsFresh plan lines r i left.value = rw (← eqb-true race r parts.0, ← eqb-true instance i parts.1) is_fresh in
          few_same plan r i lines line left.value is_fresh' (and_from (race == r && instance == i) (left.value == left.value) same (eq-eqb left.value left.value refl)) (few r i r_in i_in)
      | inr other ↦ few_skip plan r i lines line (and_left (race == r && instance == i) true other) (few r i r_in i_in)
    ]
few_step plan lines (RowAt race instance number (row.Left opening)) is_fresh few = λ r i r_in i_in. few_skip plan r i lines (RowAt race instance number (row.Left opening)) (and_right (race == r && instance == i) false refl) (few r i r_in i_in)
few_step plan lines (RowAt race instance number (row.Right opening)) is_fresh few = λ r i r_in i_in. few_skip plan r i lines (RowAt race instance number (row.Right opening)) (and_right (race == r && instance == i) false refl) (few r i r_in i_in)
few_step plan lines line is_fresh few = λ r i r_in i_in. few_skip plan r i lines line refl (few r i r_in i_in)
