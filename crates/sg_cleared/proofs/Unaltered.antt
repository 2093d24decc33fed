-- No row of a completion with the tables' openings is altered, and none is lacking.
use Rattle.std.proofs.Common.{◌≡◌, ◌≢◌, ℕ, zero, suc, ◌/◌, ◌%◌, ◌<◌, ◌==◌, nat_le, nat_lt, Bool, true, false, ◌&&◌, ◌||◌, not, inl, inr, List, length, Option, Some, None, refl, sym, ap, ◌∙◌, arith}
use Rattle.std.proofs.Math.Bool.{and-false}
use Rattle.std.specs.Prelude.{is_none}
use Rattle.std.specs.List.{list_all}
use Rattle.std.specs.Option.{option_map_or}
use Rattle.std.proofs.lemmas.Bool.{cases_eq, eq-eqb, lt-leb, ne_eqb, or_from}
use Rattle.sg_plan.proofs.PlanLaws.{entry_filled, rows_are_one}
use Rattle.sg_plan.specs.Ballots.{candidates_of, entries_of, rows_of}
use Rattle.sg_plan.specs.Limits.{fault_of}
use Rattle.sg_plan.specs.declared.plan.Draw.{Draw}
use Rattle.sg_plan.specs.declared.plan.Plan.{Plan}
use Rattle.sg_plan.specs.declared.plan.Side.{Side}
use Rattle.sg_plan.specs.declared.plan.Side.TheVariants as side
use Rattle.sg_commit.specs.declared.Opening.{Opening}
use Rattle.sg_tables.proofs.TableLaws.{code_laws, entry_leads, opening_laws, pointer_laws}
use Rattle.sg_tables.specs.Laws.{Permutes}
use Rattle.sg_tables.specs.Tables.{code_beside, code_of_entry, left_of, left_opening_of, path_of, right_of, right_opening_of, shown_by}
use Rattle.sg_grammar.specs.Placed.{Placed}
use Rattle.sg_record.specs.Places.{places_in}
use Rattle.sg_check.specs.Completions.{Completion, IsHalfOf, any_below, is_altered, is_half_altered, is_misprinted, is_repeated, is_row_misprinted, is_unopened, is_wrong_pointer, posted_half}
use Rattle.sg_check.specs.Facts.{is_flagged, is_marked as posted_marked, is_set as posted_set, points_to}
use Rattle.sg_check.specs.Kinds.{is_counted}
use Rattle.sg_check.specs.Printings.{Printing, marked_code}
use Rattle.sg_post.specs.Fits.{claim_fits, fates_fit}
use Rattle.sg_post.specs.Marks.{flag_of}
use Rattle.sg_post.specs.Posted.{posted_record}
use Rattle.sg_post.specs.declared.story.Claimed.{Claimed}
use Rattle.sg_post.specs.declared.story.Told.{Told}
use Rattle.sg_accepted.proofs.Flag.{same-differ, set-marked}
use Rattle.sg_accepted.proofs.Posted.{flag_is, marked_is, set_is}
use Rattle.sg_cleared.proofs.Posted.{mark_is, opening_on}

-- TESTS

pub none_below : (test : ℕ → Bool) (count : ℕ) → ((k : ℕ) → k < count → test k ≡ false) → any_below test count ≡ false
none_below test zero none = refl
none_below test (suc count) none =
    ap (λ (b : Bool). b || test count) (none_below test count (λ k less. none k (omega (arith, less)))) ∙ none count (omega arith)

-- POINTERS

-- the pointer of a half, as the tables have it
abbrev pub pointer_on : Plan → List ℕ → Side → ℕ → ℕ → ℕ → ℕ
pointer_on plan seed side.Left race instance number = left_of plan seed race instance number
pointer_on plan seed side.Right race instance number = right_of plan seed race instance number

pub pointer_is : (plan : Plan) (seed : List ℕ) (on : Side) (race instance number : ℕ) → (opening_on plan seed on race instance number).value ≡ pointer_on plan seed on race instance number
pointer_is plan seed side.Left race instance number = opening_laws.left plan seed race instance number
pointer_is plan seed side.Right race instance number = opening_laws.right plan seed race instance number

pub pointers_permute : (plan : Plan) (seed : List ℕ) (on : Side) (race instance : ℕ) → Permutes (entries_of plan race) (pointer_on plan seed on race instance)
pointers_permute plan seed side.Left race instance = pointer_laws.lefts plan seed race instance
pointers_permute plan seed side.Right race instance = pointer_laws.rights plan seed race instance

-- the completion has the tables' openings
abbrev pub HasTables : Plan → List ℕ → Completion → Type 0
HasTables plan seed completion = (on : Side) (race instance number : ℕ) → IsHalfOf plan race instance number → completion on race instance number ≡ Some (opening_on plan seed on race instance number)

-- the printing has the codes of table P
abbrev pub PrintsTables : Plan → List ℕ → Printing → Type 0
PrintsTables plan seed printing = (race row candidate : ℕ) → race < length plan.races → row < rows_of plan race → candidate < candidates_of plan race → printing race row candidate ≡ code_beside plan seed race row candidate

-- another row has another pointer
pub points_elsewhere : (plan : Plan) (seed : List ℕ) (completion : Completion) → HasTables plan seed completion → (on : Side) (race instance number other : ℕ) → IsHalfOf plan race instance number → other < entries_of plan race
    → other ≢ number → points_to (opening_on plan seed on race instance number).value (completion on race instance other) ≡ false
points_elsewhere plan seed completion has on race instance number other within low differs =
    ap (λ (o : Option Opening). points_to (opening_on plan seed on race instance number).value o) (has on race instance other (within.0, within.1, low))
    ∙ ne_eqb (opening_on plan seed on race instance other).value (opening_on plan seed on race instance number).value
    (λ same. differs ((pointers_permute plan seed on race instance).one other number low within.2 (sym (pointer_is plan seed on race instance other) ∙ (same ∙ pointer_is plan seed on race instance number))))

pub pointer_below : (plan : Plan) (seed : List ℕ) (on : Side) (race instance number : ℕ) → IsHalfOf plan race instance number → (opening_on plan seed on race instance number).value < entries_of plan race
pointer_below plan seed on race instance number within =
    let value = pointer_is plan seed on race instance number in
    let below = (pointers_permute plan seed on race instance).below number within.2 in
    omega (arith, value, below)

-- what the row of an entry has
pub entry_row : (plan : Plan) (race entry : ℕ) → entry < entries_of plan race → entry / candidates_of plan race < rows_of plan race
entry_row plan race entry below =
    let found = entry_filled plan race entry below in
    let low = (rows_are_one plan race).below found.ballot found.is.has in
    omega (arith, low, found.is.row)

module _ (plan : Plan) (seed : List ℕ) (fates : List Told) (draw : Draw) (claims : List Claimed) (fine : fault_of plan ≡ None) (fit : fates_fit plan 0 fates ≡ true) (claimed : list_all (claim_fits plan) claims ≡ true)
    (completion : Completion) (has : HasTables plan seed completion) (printing : Printing) (prints : PrintsTables plan seed printing) where
  abbrev lines : List Placed
  lines = places_in (posted_record plan seed fates draw claims)

  -- HALVES

  repeats_none : (on : Side) (race instance number : ℕ) → IsHalfOf plan race instance number → is_repeated plan completion on race instance number (opening_on plan seed on race instance number).value ≡ false
  repeats_none on race instance number within =
      none_below (λ other. not (other == number) && points_to (opening_on plan seed on race instance number).value (completion on race instance other)) (entries_of plan race)
      (λ other low. at_other other low)
    where
      at_other : (other : ℕ) → other < entries_of plan race → (not (other == number) && points_to (opening_on plan seed on race instance number).value (completion on race instance other)) ≡ false
      at_other other low = elim (cases_eq other number) [
        | inl same ↦ ap (λ (b : Bool). not b && points_to (opening_on plan seed on race instance number).value (completion on race instance other)) (eq-eqb other number same)
        | inr differs ↦
            ap (λ (b : Bool). not (other == number) && b) (points_elsewhere plan seed completion has on race instance number other within low differs) ∙ and-false (not (other == number))
      ]

  counts_so : (on : Side) (race instance number : ℕ) → IsHalfOf plan race instance number → is_flagged race instance number lines ≡ is_counted plan lines on race (opening_on plan seed on race instance number).value
  unfolding flag_of
  counts_so side.Left race instance number within =
      let entry = left_of plan seed race instance number in
      let below = (pointer_laws.lefts plan seed race instance).below number within.2 in
      flag_is plan seed fates draw claims race instance number within
      ∙ (sym (marked_is plan seed fates draw claims fine fit race entry within.0) ∙ ap (λ e. posted_marked plan race e lines) (sym (opening_laws.left plan seed race instance number)))
  counts_so side.Right race instance number within =
      let entry = left_of plan seed race instance number in
      let below = (pointer_laws.lefts plan seed race instance).below number within.2 in
      let place = path_of plan seed race entry in
      let place_below = (pointer_laws.paths plan seed race).below entry below in
      let value : (right_opening_of plan seed race instance number).value ≡ place = opening_laws.right plan seed race instance number ∙ pointer_laws.composed plan seed race instance number in
      flag_is plan seed fates draw claims race instance number within
      ∙ (sym (set-marked plan seed fates race entry below)
      ∙ (sym (set_is plan seed fates draw claims race place within.0 place_below) ∙ ap (λ s. posted_set race s lines) (sym value)))

  half_right : (on : Side) (race instance number : ℕ) → IsHalfOf plan race instance number → is_half_altered plan lines completion on race instance number ≡ false
  half_right on race instance number within =
      let one = opening_on plan seed on race instance number in
      let right : is_wrong_pointer plan lines completion on race instance number one.value ≡ false =
      or_from (nat_le (entries_of plan race) one.value) _ (lt-leb (entries_of plan race) one.value (pointer_below plan seed on race instance number within))
      (or_from (is_repeated plan completion on race instance number one.value) _ (repeats_none on race instance number within)
      (same-differ (is_flagged race instance number lines) (is_counted plan lines on race one.value) (counts_so on race instance number within))) in
      ap (λ (o : Option Opening). is_none (posted_half lines on race instance number) && option_map_or (λ opening. is_wrong_pointer plan lines completion on race instance number opening.value) o true) (has on race instance number within)
      ∙ (ap (λ (b : Bool). is_none (posted_half lines on race instance number) && b) right ∙ and-false (is_none (posted_half lines on race instance number)))

  -- PRINTS

  -- the code beside the candidate to whose place an entry leads
  pub printed_is : (race instance number : ℕ) → IsHalfOf plan race instance number
      → printing race ((left_opening_of plan seed race instance number).value / candidates_of plan race) ((right_opening_of plan seed race instance number).value % candidates_of plan race)
      ≡ code_of_entry plan seed race (left_opening_of plan seed race instance number).value
  printed_is race instance number within =
      let count = candidates_of plan race in
      let entry = left_of plan seed race instance number in
      let below = (pointer_laws.lefts plan seed race instance).below number within.2 in
      let leads = entry_leads plan seed race entry below in
      let value : (right_opening_of plan seed race instance number).value ≡ path_of plan seed race entry = opening_laws.right plan seed race instance number ∙ pointer_laws.composed plan seed race instance number in
      let left : (left_opening_of plan seed race instance number).value ≡ entry = opening_laws.left plan seed race instance number in
      let column : (right_opening_of plan seed race instance number).value % count ≡ shown_by plan seed race entry = ap (λ n. n % count) value ∙ leads.column in
      ap (λ n. printing race (n / count) ((right_opening_of plan seed race instance number).value % count)) left
      ∙ (ap (printing race (entry / count)) column
      ∙ (prints race (entry / count) (shown_by plan seed race entry) within.0 (entry_row plan race entry below) leads.shows
      ∙ (sym (code_laws.beside plan seed race entry) ∙ ap (code_of_entry plan seed race) (sym left))))

  pub print_right : (race instance number : ℕ) → IsHalfOf plan race instance number → is_row_misprinted plan lines completion printing race instance number ≡ false
  print_right race instance number within =
      let left = left_opening_of plan seed race instance number in
      let right = right_opening_of plan seed race instance number in
      ap (λ (o : Option Opening). option_map_or (λ l. option_map_or (λ r. is_misprinted plan lines printing race l r) (completion side.Right race instance number) false) o false) (has side.Left race instance number within)
      ∙ (ap (λ (o : Option Opening). option_map_or (λ r. is_misprinted plan lines printing race left r) o false) (has side.Right race instance number within)
      ∙ (ap (λ (b : Bool). (nat_lt left.value (entries_of plan race) && nat_lt right.value (entries_of plan race)) && b) (by_code (marked_code plan race left.value lines) refl)
      ∙ and-false (nat_lt left.value (entries_of plan race) && nat_lt right.value (entries_of plan race))))
    where
      left_one : Opening
      left_one = left_opening_of plan seed race instance number

      beside : ℕ
      beside = printing race (left_one.value / candidates_of plan race) ((right_opening_of plan seed race instance number).value % candidates_of plan race)

      by_code : (o : Option ℕ) → marked_code plan race left_one.value lines ≡ o → option_map_or (λ code. not (beside == code)) (marked_code plan race left_one.value lines) false ≡ false
      by_code None e = ap (λ (o : Option ℕ). option_map_or (λ code. not (beside == code)) o false) e
      by_code (Some shown) e =
          let code = mark_is plan seed fates draw claims fine fit claimed race left_one.value shown e in
          ap (λ (o : Option ℕ). option_map_or (λ c. not (beside == c)) o false) e
          ∙ ap not (eq-eqb beside shown (printed_is race instance number within ∙ sym code))

  -- ROWS

  pub row_right : (race instance number : ℕ) → IsHalfOf plan race instance number → is_altered plan lines completion printing race instance number ≡ false
  row_right race instance number within =
      or_from (is_half_altered plan lines completion side.Left race instance number || is_half_altered plan lines completion side.Right race instance number)
      (is_unopened lines race instance number && is_row_misprinted plan lines completion printing race instance number)
      (or_from (is_half_altered plan lines completion side.Left race instance number) (is_half_altered plan lines completion side.Right race instance number) (half_right side.Left race instance number within)
      (half_right side.Right race instance number within))
      (ap (λ (b : Bool). is_unopened lines race instance number && b) (print_right race instance number within) ∙ and-false (is_unopened lines race instance number))
