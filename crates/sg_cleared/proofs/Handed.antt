-- What an office hands to a court, as a record, a printing and a completion: the lines spell it.
use Rattle.std.proofs.Common.{◌≡◌, ℕ, zero, suc, ◌+◌, ◌<◌, ◌==◌, Bool, true, List, [], ◌∷◌, ◌++◌, All, length, map, Option, Some, None, refl, sym, subst, ap, ◌∙◌, arith}
use Rattle.std.specs.List.{concat, list_all, range_with_len}
use Rattle.std.specs.Option.{option_and_then, option_map_or}
use Rattle.std.specs.Prelude.{slice_get}
use Rattle.std.proofs.lemmas.Bool.{and_from, eq-eqb}
use Rattle.std.proofs.lemmas.List.Elements.{All-cons, All-nil}
use Rattle.std.proofs.lemmas.Option.{none-some, slice_get_within, same_Some}
use Rattle.sg_lists.proofs.Each.{EachOf, of-map, of-range}
use Rattle.sg_lists.proofs.Tests.{list_all-range}
use Rattle.sg_outside.proofs.LineLemmas.{lines_of-concat, lines_of-line, lines_of-lines}
use Rattle.sg_outside.specs.TextLines.{AreLines, lines_of}
use Rattle.sg_plan.proofs.PlanLaws.{bounds}
use Rattle.sg_plan.specs.Ballots.{candidates_of, entries_of, rows_of}
use Rattle.sg_plan.specs.Codes.{codes_of}
use Rattle.sg_plan.specs.Limits.{fault_of}
use Rattle.sg_plan.specs.declared.plan.Draw.{Draw}
use Rattle.sg_plan.specs.declared.plan.Plan.{Plan}
use Rattle.sg_plan.specs.declared.plan.Side.{Side}
use Rattle.sg_plan.specs.declared.plan.Side.TheVariants as side
use Rattle.sg_sheet.specs.Sheet.{SheetLine, line_text, lines_text, sheet_lines}
use Rattle.sg_streams.specs.Numbers.{numbers_below}
use Rattle.sg_streams.specs.Streams.{stream_number}
use Rattle.sg_tables.proofs.Lists.{length-map_below, slice_get-map_below}
use Rattle.sg_tables.proofs.TableLaws.{code_laws, opening_laws, pointer_laws}
use Rattle.sg_tables.specs.Tables.{code_beside, codes_of_row, left_opening_of, right_opening_of}
use Rattle.sg_forms.specs.Spelling.{AreBytes, IsOpening}
use Rattle.sg_record.proofs.BytesWalk.{AreIn-from_All}
use Rattle.sg_record.proofs.TextLaw.{spelled_lines}
use Rattle.sg_record.specs.Formed.{each_passes, has_rows, is_formed}
use Rattle.sg_record.specs.Laws.{HasWords}
use Rattle.sg_record.specs.Lines.{lines_in, text_of, texts_in}
use Rattle.sg_record.specs.declared.record.Record.{Record}
use Rattle.sg_check.specs.Completions.{IsHalfOf}
use Rattle.sg_post.proofs.Bytes.{key-bytes}
use Rattle.sg_post.specs.Posted.{both_sides, by_row, posted_record}
use Rattle.sg_post.specs.declared.story.Claimed.{Claimed}
use Rattle.sg_post.specs.declared.story.Told.{Told}
use Rattle.sg_openings.specs.Openings.{openings_text, openings_texts, row_text as opened_text}
use Rattle.sg_facts.specs.Items.{item_in, row_in}
use Rattle.sg_parts.specs.Given.{AreCodes, AreOpenings, ArePrinted, Given, IsGiven, IsRowGiven, completion_line, completion_of, completion_texts, half_given, joined, printed_of, printing_line, row_text, sheet_texts}
use Rattle.sg_parts.specs.declared.parts.RowGiven.{RowGiven}
use Rattle.sg_accepted.proofs.Posted.{item_get, row_get}
use Rattle.sg_accepted.proofs.Rule.{no-repeat}
use Rattle.sg_cleared.proofs.Posted.{opening_on}
use Rattle.sg_cleared.proofs.Shapes.{each_joined, made_texts, passes}
use Rattle.sg_cleared.proofs.SheetTexts.{Agree, AreOfVersion, same_sheet, sheet_are_lines}
use Rattle.sg_cleared.proofs.Splitting.{completion_is_line, half_is_line, printing_is_line}

-- THE PARTS

-- both openings of a row
abbrev pub both_given : Plan → List ℕ → ℕ → ℕ → ℕ → RowGiven
both_given plan seed race instance number = record {
  left = Some (left_opening_of plan seed race instance number);
  right = Some (right_opening_of plan seed race instance number);
}

-- the openings of the tables
abbrev pub office_rows : Plan → List ℕ → List (List (List RowGiven))
office_rows plan seed = by_row plan (both_given plan seed)

-- the codes of table P
abbrev pub office_codes : Plan → List ℕ → List (List (List ℕ))
office_codes plan seed = map (λ race. map (codes_of_row plan seed race) (numbers_below (rows_of plan race))) (numbers_below (length plan.races))

abbrev pub office_given : Plan → List ℕ → List Told → Draw → List Claimed → Given
office_given plan seed fates draw claims = record { posted = posted_record plan seed fates draw claims; codes = office_codes plan seed; rows = office_rows plan seed }

-- LISTS

-- what stands at a number was made of it
record MadeAt {A : Type 0} (f : ℕ → A) (count k : ℕ) (x : A) : Type 0 where
  below : k < count
  is : f k ≡ x

made_at : {A : Type 0} (f : ℕ → A) (count k : ℕ) (x : A) → slice_get (map f (numbers_below count)) k ≡ Some x → MadeAt f count k x
made_at f count k x is =
    let long = length-map_below f count in
    let short = slice_get_within (map f (numbers_below count)) k x is in
    let below : k < count = omega (arith, long, short) in
    record { below = below; is = same_Some _ _ (sym (slice_get-map_below f count k below) ∙ is) }

all_listed : (P : ℕ → Type 0) (list : List ℕ) → ((k v : ℕ) → slice_get list k ≡ Some v → P v) → All P list
all_listed P [] each = All-nil P
all_listed P (x ∷ list) each = All-cons P x list (each 0 x refl) (all_listed P list (λ k v is. each (suc k) v is))

each_made : {A : Type 0} (P : A → Type 0) (f : ℕ → A) (count : ℕ) → ((k : ℕ) → k < count → P (f k)) → EachOf P (map f (numbers_below count))
unfolding numbers_below
each_made P f count all = of-map P f (range_with_len 0 count) (of-range (λ k. P (f k)) 0 count (λ k below. all k (omega (arith, below))))

-- THE ROWS ARE OF THE PLAN

passes_range : {A : Type 0} (test : ℕ → A → Bool) (f : ℕ → A) (at count : ℕ) → ((k : ℕ) → test k (f k) ≡ true) → each_passes test at (map f (range_with_len at count)) ≡ true
passes_range test f at zero all = refl
passes_range test f at (suc count) all = and_from (test at (f at)) (each_passes test (at + 1) (map f (range_with_len (at + 1) count))) (all at) (passes_range test f (at + 1) count all)

passes_below : {A : Type 0} (test : ℕ → A → Bool) (f : ℕ → A) (count : ℕ) → ((k : ℕ) → test k (f k) ≡ true) → each_passes test 0 (map f (numbers_below count)) ≡ true
unfolding numbers_below
passes_below test f count all = passes_range test f 0 count all

all_below : {A : Type 0} (test : A → Bool) (f : ℕ → A) (count : ℕ) → ((k : ℕ) → test (f k) ≡ true) → list_all test (map f (numbers_below count)) ≡ true
unfolding numbers_below
all_below test f count all = list_all-range test f 0 count all

so_many : {A : Type 0} (f : ℕ → A) (count : ℕ) → (length (map f (numbers_below count)) == count) ≡ true
so_many f count = eq-eqb (length (map f (numbers_below count))) count (length-map_below f count)

pub rows_are : {A : Type 0} (plan : Plan) (value : ℕ → ℕ → ℕ → A) → has_rows plan (by_row plan value) ≡ true
rows_are {A} plan value =
    let list : ℕ → ℕ → List A = λ race instance. map (value race instance) (numbers_below (entries_of plan race)) in
    let lists : ℕ → List (List A) = λ race. map (list race) (numbers_below plan.instances) in
    let test : ℕ → List (List A) → Bool = passes {A = A} plan in
    and_from (length (by_row plan value) == length plan.races) (each_passes test 0 (by_row plan value)) (so_many lists (length plan.races))
    (passes_below test lists (length plan.races)
    (λ race. and_from (length (lists race) == plan.instances) (list_all (λ (items : List A). length items == entries_of plan race) (lists race)) (so_many (list race) plan.instances)
    (all_below (λ (items : List A). length items == entries_of plan race) (list race) plan.instances (λ instance. so_many (value race instance) (entries_of plan race)))))

-- CODES

module _ (plan : Plan) (seed : List ℕ) (fine : fault_of plan ≡ None) where
  -- a code that is listed is the one beside its candidate
  code_at : (race row k v : ℕ) → race < length plan.races → slice_get (codes_of_row plan seed race row) k ≡ Some v → MadeAt (code_beside plan seed race row) (candidates_of plan race) k v
  code_at race row k v in_race is =
      let differ = code_laws.differ plan seed race row fine in_race in
      let short = slice_get_within (codes_of_row plan seed race row) k v is in
      let many = differ.many in
      let below : k < candidates_of plan race = omega (arith, short, many) in
      record { below = below; is = same_Some _ _ (sym (differ.listed k below) ∙ is) }

  pub codes_are : (race row : ℕ) → race < length plan.races → AreCodes plan race (codes_of_row plan seed race row)
  codes_are race row in_race =
      let differ = code_laws.differ plan seed race row fine in_race in
      record {
        long = differ.many;
        below = all_listed (λ code. code < codes_of plan.version) (codes_of_row plan seed race row)
            (λ k v is. let at = code_at race row k v in_race is in subst (λ code. code < codes_of plan.version) at.is (differ.below k at.below));
        differ = no-repeat (codes_of_row plan seed race row)
            (λ i j v here there.
            let a = code_at race row i v in_race here in
            let b = code_at race row j v in_race there in
            differ.one i j a.below b.below (a.is ∙ sym b.is));
      }

  pub tables_of_version : AreOfVersion plan (codes_of_row plan seed)
  tables_of_version race row in_race within = (codes_are race row in_race).below

  pub printed_same : Agree plan (printed_of (office_codes plan seed)) (codes_of_row plan seed)
  printed_same race row in_race within =
      ap (λ (o : Option (List ℕ)). option_map_or (λ list. list) o []) (item_get (length plan.races) (rows_of plan) (codes_of_row plan seed) race row in_race within)

  pub office_printed : ArePrinted plan (office_codes plan seed)
  office_printed = record {
    races = length-map_below (λ race. map (codes_of_row plan seed race) (numbers_below (rows_of plan race))) (length plan.races);
    rows = λ race rows is.
        let at = made_at (λ race. map (codes_of_row plan seed race) (numbers_below (rows_of plan race))) (length plan.races) race rows is in
        ap (λ (l : List (List ℕ)). length l) (sym at.is) ∙ length-map_below (codes_of_row plan seed race) (rows_of plan race);
    codes_are = λ race row list is. code_in race row list is (slice_get (office_codes plan seed) race) refl;
  }
    where
      code_in : (race row : ℕ) (list : List ℕ) → item_in (office_codes plan seed) race row ≡ Some list → (o : Option (List (List ℕ))) → slice_get (office_codes plan seed) race ≡ o → AreCodes plan race list
      code_in race row list is None e = absurd (none-some list (sym (ap (option_and_then (λ (items : List (List ℕ)). slice_get items row)) e) ∙ is))
      code_in race row list is (Some rows) e =
          let at = made_at (λ r. map (codes_of_row plan seed r) (numbers_below (rows_of plan r))) (length plan.races) race rows e in
          let here : slice_get rows row ≡ Some list = sym (ap (option_and_then (λ (items : List (List ℕ)). slice_get items row)) e) ∙ is in
          let one = made_at (codes_of_row plan seed race) (rows_of plan race) row list (ap (λ (l : List (List ℕ)). slice_get l row) at.is ∙ here) in
          subst (AreCodes plan race) one.is (codes_are race row at.below)

  -- OPENINGS

  pub opening_in : (on : Side) (race instance number : ℕ) → IsHalfOf plan race instance number → IsOpening (opening_on plan seed on race instance number)
  opening_in side.Left race instance number within =
      let value = opening_laws.left plan seed race instance number in
      let pointer = (pointer_laws.lefts plan seed race instance).below number within.2 in (
        subst (AreBytes 16) (sym (opening_laws.left_key plan seed race instance number)) (key-bytes seed (stream_number 6 race instance) number),
        omega (arith, value, pointer, (bounds plan fine).few_entries race within.0),
      )
  opening_in side.Right race instance number within =
      let value = opening_laws.right plan seed race instance number in
      let pointer = (pointer_laws.rights plan seed race instance).below number within.2 in (
        subst (AreBytes 16) (sym (opening_laws.right_key plan seed race instance number)) (key-bytes seed (stream_number 7 race instance) number),
        omega (arith, value, pointer, (bounds plan fine).few_entries race within.0),
      )

  pub row_given : (race instance number : ℕ) → IsHalfOf plan race instance number → IsRowGiven (both_given plan seed race instance number)
  row_given race instance number within = record { left = opening_in side.Left race instance number within; right = opening_in side.Right race instance number within }

  -- each row has both openings of the tables
  abbrev pub IsOffice : RowGiven → Type 0
  IsOffice row = (race instance number : ℕ) × IsHalfOf plan race instance number × (row ≡ both_given plan seed race instance number)

  pub rows_office : EachOf IsOffice (joined (joined (office_rows plan seed)))
  rows_office =
      each_joined IsOffice (joined (office_rows plan seed))
      (each_joined (EachOf IsOffice) (office_rows plan seed)
      (each_made (EachOf (EachOf IsOffice)) (λ race. map (λ instance. map (both_given plan seed race instance) (numbers_below (entries_of plan race))) (numbers_below plan.instances)) (length plan.races)
      (λ race a. each_made (EachOf IsOffice) (λ instance. map (both_given plan seed race instance) (numbers_below (entries_of plan race))) plan.instances
      (λ instance b. each_made IsOffice (both_given plan seed race instance) (entries_of plan race) (λ number c. (race, instance, number, (a, b, c), refl))))))

  office_is_given : (row : RowGiven) → IsOffice row → IsRowGiven row
  office_is_given row is = subst IsRowGiven (sym is.4) (row_given is.0 is.1 is.2 is.3)

  each_given : (rows : List RowGiven) → EachOf IsOffice rows → EachOf IsRowGiven rows
  each_given [] all = tt
  each_given (row ∷ rows) all = (office_is_given row all.0, each_given rows all.1)

  pub office_rows_given : EachOf IsRowGiven (joined (joined (office_rows plan seed)))
  office_rows_given = each_given (joined (joined (office_rows plan seed))) rows_office

  -- the completion opens each half
  pub office_has : (on : Side) (race instance number : ℕ) → IsHalfOf plan race instance number → completion_of (office_rows plan seed) on race instance number ≡ Some (opening_on plan seed on race instance number)
  office_has on race instance number within = ap (option_and_then (half_given on)) (row_get plan (both_given plan seed) race instance number within) ∙ at_side on
    where
      at_side : (s : Side) → half_given s (both_given plan seed race instance number) ≡ Some (opening_on plan seed s race instance number)
      at_side side.Left = refl
      at_side side.Right = refl

  pub office_openings : AreOpenings (office_rows plan seed)
  office_openings on race instance number opening is = by_race (slice_get (office_rows plan seed) race) refl
    where
      rows : ℕ → ℕ → List RowGiven
      rows r i = map (both_given plan seed r i) (numbers_below (entries_of plan r))

      no : None ≡ Some opening → ⊥
      no d = cc

      of_row : (o : Option RowGiven) → row_in (office_rows plan seed) race instance number ≡ o → option_and_then (half_given on) o ≡ Some opening
      of_row o e = sym (ap (option_and_then (half_given on)) e) ∙ is

      by_row_item : (instances : List (List RowGiven)) → slice_get (office_rows plan seed) race ≡ Some instances → (items : List RowGiven) → slice_get instances instance ≡ Some items
          → (o : Option RowGiven) → slice_get items number ≡ o → IsOpening opening
      by_row_item instances e items d None f =
          absurd (no (of_row None (ap (option_and_then (λ (l : List (List RowGiven)). item_in l instance number)) e ∙ (ap (option_and_then (λ (l : List RowGiven). slice_get l number)) d ∙ f))))
      by_row_item instances e items d (Some one) f =
          let at = made_at (λ r. map (rows r) (numbers_below plan.instances)) (length plan.races) race instances e in
          let of = made_at (rows race) plan.instances instance items (ap (λ (l : List (List RowGiven)). slice_get l instance) at.is ∙ d) in
          let here = made_at (both_given plan seed race instance) (entries_of plan race) number one (ap (λ (l : List RowGiven). slice_get l number) of.is ∙ f) in
          let within : IsHalfOf plan race instance number = (at.below, of.below, here.below) in
          subst IsOpening (same_Some _ _ (sym (office_has on race instance number within) ∙ is)) (opening_in on race instance number within)

      by_instance : (instances : List (List RowGiven)) → slice_get (office_rows plan seed) race ≡ Some instances → (o : Option (List RowGiven)) → slice_get instances instance ≡ o → IsOpening opening
      by_instance instances e None d =
          absurd (no (of_row None (ap (option_and_then (λ (l : List (List RowGiven)). item_in l instance number)) e ∙ ap (option_and_then (λ (l : List RowGiven). slice_get l number)) d)))
      by_instance instances e (Some items) d = by_row_item instances e items d (slice_get items number) refl

      by_race : (o : Option (List (List RowGiven))) → slice_get (office_rows plan seed) race ≡ o → IsOpening opening
      by_race None e = absurd (no (of_row None (ap (option_and_then (λ (l : List (List RowGiven)). item_in l instance number)) e)))
      by_race (Some instances) e = by_instance instances e (slice_get instances instance) refl

  -- THE TEXT

  row_lines : (rows : List RowGiven) → EachOf IsRowGiven rows → AreLines (map row_text rows)
  row_lines [] all = tt
  row_lines (row ∷ rows) all = (half_is_line row.left row.right all.0.left all.0.right, row_lines rows all.1)

  openings_same : openings_texts plan seed ≡ completion_line ∷ completion_texts (office_rows plan seed)
  openings_same =
      ap (λ (l : List (List ℕ)). completion_line ∷ l)
      (sym (made_texts row_text (opened_text plan) (both_given plan seed) (both_sides plan seed) (λ race instance number. refl) (numbers_below (length plan.races)) (numbers_below plan.instances) (λ race. numbers_below (entries_of plan race))))

  openings_lines : lines_of (openings_text plan seed) ≡ completion_line ∷ completion_texts (office_rows plan seed)
  unfolding openings_text
  openings_lines =
      ap (λ (l : List (List ℕ)). lines_of (concat l)) openings_same
      ∙ lines_of-concat (completion_line ∷ completion_texts (office_rows plan seed)) (completion_is_line, row_lines (joined (joined (office_rows plan seed))) office_rows_given)

  flat_texts : (version : ℕ) (lines : List SheetLine) → lines_text version lines ≡ concat (map (line_text version) lines)
  flat_texts version [] = refl
  flat_texts version (line ∷ lines) = ap (λ (l : List ℕ). line_text version line ++ l) (flat_texts version lines)

  -- the lines of the sheet
  abbrev pub sheet : List (List ℕ)
  sheet = map (line_text plan.version) (sheet_lines plan (codes_of_row plan seed))

  sheet_same : sheet_texts plan (office_codes plan seed) ≡ sheet
  sheet_same = ap (map (line_text plan.version)) (same_sheet plan (printed_of (office_codes plan seed)) (codes_of_row plan seed) fine printed_same)

  -- what is handed over behind the record
  abbrev pub behind_text : List ℕ
  behind_text = printing_line ++ (lines_text plan.version (sheet_lines plan (codes_of_row plan seed)) ++ openings_text plan seed)

  behind_lines : lines_of behind_text ≡ printing_line ∷ (sheet ++ completion_line ∷ completion_texts (office_rows plan seed))
  behind_lines =
      lines_of-line printing_line (lines_text plan.version (sheet_lines plan (codes_of_row plan seed)) ++ openings_text plan seed) printing_is_line
      ∙ ap (λ (l : List (List ℕ)). printing_line ∷ l)
      (ap (λ (l : List ℕ). lines_of (l ++ openings_text plan seed)) (flat_texts plan.version (sheet_lines plan (codes_of_row plan seed)))
      ∙ (lines_of-lines sheet (openings_text plan seed) (sheet_are_lines plan (codes_of_row plan seed) fine tables_of_version) ∙ ap (λ (l : List (List ℕ)). sheet ++ l) openings_lines))

  -- all lines that are handed over with a record of the plan
  abbrev pub handed_lines : Record → List (List ℕ)
  handed_lines posted = texts_in posted ++ printing_line ∷ (sheet ++ completion_line ∷ completion_texts (office_rows plan seed))

  pub lines_handed : (posted : Record) → HasWords posted → lines_of (text_of posted ++ behind_text) ≡ handed_lines posted
  unfolding text_of
  lines_handed posted words =
      lines_of-lines (texts_in posted) behind_text (spelled_lines posted.plan.version (lines_in posted) (AreIn-from_All posted.plan.version (lines_in posted) words))
      ∙ ap (λ (l : List (List ℕ)). texts_in posted ++ l) behind_lines

  -- they are those of the parts
  pub office_is : (fates : List Told) (draw : Draw) (claims : List Claimed) → HasWords (posted_record plan seed fates draw claims) → is_formed (posted_record plan seed fates draw claims) ≡ true
      → IsGiven (handed_lines (posted_record plan seed fates draw claims)) (office_given plan seed fates draw claims)
  office_is fates draw claims words formed = record {
    words = words;
    formed = formed;
    printed = office_printed;
    rows = rows_are plan (both_given plan seed);
    openings = office_openings;
    text = ap (λ (l : List (List ℕ)). texts_in (posted_record plan seed fates draw claims) ++ printing_line ∷ (l ++ completion_line ∷ completion_texts (office_rows plan seed))) (sym sheet_same);
  }
