-- What is read of the lines that an office hands to a court: they tell the office's parts and no others, and have no fault.
use Rattle.std.proofs.Common.{◌≡◌, ◌≢◌, ℕ, zero, suc, ◌/◌, ◌%◌, ◌<◌, true, List, [], ◌∷◌, ◌++◌, All, length, map, Option, Some, None, refl, sym, subst, ap, ◌∙◌}
use Rattle.std.specs.List.{concat, list_all}
use Rattle.std.specs.Option.{option_and_then, option_map_or}
use Rattle.std.specs.Prelude.{slice_get}
use Rattle.std.proofs.lemmas.List.{length-map}
use Rattle.std.proofs.lemmas.List.Elements.{All-nil}
use Rattle.sg_lists.proofs.Each.{EachOf}
use Rattle.sg_lists.proofs.Lists.{cons_parts}
use Rattle.sg_plan.specs.Ballots.{candidates_of, entry_at, r_rows}
use Rattle.sg_plan.specs.Codes.{codes_of}
use Rattle.sg_plan.specs.Limits.{fault_of}
use Rattle.sg_plan.specs.declared.plan.Draw.{Draw}
use Rattle.sg_plan.specs.declared.plan.Plan.{Plan}
use Rattle.sg_plan.specs.declared.plan.Side.{Side}
use Rattle.sg_plan.specs.declared.plan.Side.TheVariants as side
use Rattle.sg_commit.specs.declared.Opening.{Opening}
use Rattle.sg_sheet.proofs.Listing.{sheet_printed}
use Rattle.sg_sheet.specs.Sheet.{SheetLine, line_text, sheet_lines}
use Rattle.sg_sheet.specs.declared.due.Due.{Due}
use Rattle.sg_sheet.specs.declared.due.Due.TheVariants as line
use Rattle.sg_sheet.specs.inside.Listed.{line_due, sheet_due}
use Rattle.sg_tables.proofs.TableLaws.{code_laws}
use Rattle.sg_tables.specs.Tables.{code_of_entry, codes_of_row, left_opening_of, right_opening_of}
use Rattle.sg_forms.specs.declared.line.RowOpening.TheVariants as opened
use Rattle.sg_grammar.specs.Lines.{IsAmong}
use Rattle.sg_grammar.specs.Placed.{Placed}
use Rattle.sg_grammar.specs.Placed.Placed.{CodeAt, RowAt}
use Rattle.sg_record.proofs.BytesWalk.{AreIn-from_All}
use Rattle.sg_record.proofs.TextLaw.{texts_differ}
use Rattle.sg_record.specs.Formed.{has_rows, is_formed}
use Rattle.sg_record.specs.Laws.{HasWords}
use Rattle.sg_record.specs.Lines.{lines_in, text_of, texts_in}
use Rattle.sg_record.specs.Places.{places_in}
use Rattle.sg_record.specs.declared.record.Record.{Record}
use Rattle.sg_check.proofs.Verdicts.{one_verdict}
use Rattle.sg_check.specs.Completions.{Completion, IsHalfOf}
use Rattle.sg_check.specs.Kinds.{opens_digest, half_kind}
use Rattle.sg_check.specs.Facts.{half_commitment}
use Rattle.sg_check.specs.Printings.{StandsWith}
use Rattle.sg_check.specs.Verdict.{IsVerdict}
use Rattle.sg_check.specs.declared.judged.Judged.{Judged}
use Rattle.sg_check.specs.declared.judged.Judged.TheVariants as judged
use Rattle.sg_check.specs.declared.judged.Kind.{Kind}
use Rattle.sg_check.specs.declared.judged.Total.{Total}
use Rattle.sg_post.specs.Fits.{claim_fits, fates_fit}
use Rattle.sg_post.specs.Posted.{posted_record}
use Rattle.sg_post.specs.declared.story.Claimed.{Claimed}
use Rattle.sg_post.specs.declared.story.Told.{Told}
use Rattle.sg_facts.specs.Items.{item_in, row_in}
use Rattle.sg_fronts.proofs.ByRecords.{verdicts_say}
use Rattle.sg_fronts.specs.ByRecords.{Says}
use Rattle.sg_parts.specs.Faults.{AreRowsOff, HasFault, IsCompletionOff, IsPrintingOff, IsRecordOf, IsRowFault, IsRowRight, IsSheetOf, IsSheetOff, blank, lines_behind, record_lines}
use Rattle.sg_parts.specs.Given.{AreOpenings, ArePrinted, Given, IsGiven, IsHalf, IsRowGiven, completion_line, completion_of, completion_texts, half_given, joined, printed_of, printing_line, printing_of, row_text, sheet_texts}
use Rattle.sg_parts.specs.declared.parts.RecountFault.{RecountFault}
use Rattle.sg_parts.specs.declared.parts.RecountFault.TheVariants as fault
use Rattle.sg_parts.specs.declared.parts.RowGiven.{RowGiven}
use Rattle.sg_cleared.proofs.Rows.{rows_few}
use Rattle.sg_cleared.proofs.Handed.{IsOffice, both_given, codes_are, handed_lines, office_has, office_rows, office_rows_given, opening_in, rows_are, rows_office, sheet, tables_of_version}
use Rattle.sg_cleared.proofs.Posted.{both_are, code_is, half_opens, half_posted}
use Rattle.sg_cleared.proofs.Shapes.{each_at, each_joined, images_same, rows_same}
use Rattle.sg_cleared.proofs.SheetTexts.{Agree, AreOfVersion, IsPlaced, SameSheets, sheet_placed, sheets_told}
use Rattle.sg_cleared.proofs.Splitting.{behind_split, both_told, record_split}
use Rattle.sg_cleared.proofs.Unaltered.{HasTables, PrintsTables, printed_is}

-- a code by its ballot row and its candidate
row_printed : (lists : List (List (List ℕ))) (race row candidate : ℕ) → row_in lists race row candidate ≡ slice_get (printed_of lists race row) candidate
row_printed lists race row candidate = by_race (slice_get lists race)
  where
    by_row : (o : Option (List ℕ)) → option_and_then (λ (items : List ℕ). slice_get items candidate) o ≡ slice_get (option_map_or (λ (list : List ℕ). list) o []) candidate
    by_row None = refl
    by_row (Some list) = refl

    by_race : (o : Option (List (List ℕ)))
        → option_and_then (λ (lists : List (List ℕ)). item_in lists row candidate) o ≡ slice_get (option_map_or (λ (list : List ℕ). list) (option_and_then (λ (items : List (List ℕ)). slice_get items row) o) []) candidate
    by_race None = refl
    by_race (Some rows) = by_row (slice_get rows row)

-- codes that agree with table P are printed as there
pub prints_tables : (plan : Plan) (seed : List ℕ) (lists : List (List (List ℕ))) → fault_of plan ≡ None → Agree plan (printed_of lists) (codes_of_row plan seed) → PrintsTables plan seed (printing_of lists)
prints_tables plan seed lists fine agree race row candidate in_race in_rows low =
    ap (λ (o : Option ℕ). option_map_or (λ code. code) o 0)
    (row_printed lists race row candidate
    ∙ (ap (λ (l : List ℕ). slice_get l candidate) (agree race row in_race in_rows) ∙ (code_laws.differ plan seed race row fine in_race).listed candidate low))

lists_of_version : (plan : Plan) (lists : List (List (List ℕ))) → ArePrinted plan lists → AreOfVersion plan (printed_of lists)
lists_of_version plan lists printed race row a b = by_item (item_in lists race row) refl
  where
    Below : Option (List ℕ) → Type 0
    Below o = All (λ code. code < codes_of plan.version) (option_map_or (λ (list : List ℕ). list) o [])

    by_item : (o : Option (List ℕ)) → item_in lists race row ≡ o → Below (item_in lists race row)
    by_item None e = subst Below (sym e) (All-nil (λ (code : ℕ). code < codes_of plan.version))
    by_item (Some list) e = subst Below (sym e) (printed.codes_are race row list e).below

-- the openings of rows, one after another
each_opened : (rows : List (List (List RowGiven))) → AreOpenings rows → EachOf IsRowGiven (joined (joined rows))
each_opened rows openings =
    each_joined IsRowGiven (joined rows)
    (each_joined (EachOf IsRowGiven) rows
    (each_at (EachOf (EachOf IsRowGiven)) rows
    (λ race instances e. each_at (EachOf IsRowGiven) instances
    (λ instance items d. each_at IsRowGiven items
    (λ number one f. row_fine race instance number one
    (ap (option_and_then (λ (l : List (List RowGiven)). item_in l instance number)) e ∙ (ap (option_and_then (λ (l : List RowGiven). slice_get l number)) d ∙ f)))))))
  where
    row_fine : (race instance number : ℕ) (one : RowGiven) → row_in rows race instance number ≡ Some one → IsRowGiven one
    row_fine race instance number one is = record {
      left = half_fine side.Left one.left (ap (option_and_then (half_given side.Left)) is);
      right = half_fine side.Right one.right (ap (option_and_then (half_given side.Right)) is);
    }
      where
        half_fine : (on : Side) (o : Option Opening) → completion_of rows on race instance number ≡ o → IsHalf o
        half_fine on None e = tt
        half_fine on (Some opening) e = openings on race instance number opening e

-- NO LINE IS OFF

sheet_on : (plan : Plan) (seed : List ℕ) → fault_of plan ≡ None → (due : List Due) → EachOf (IsPlaced plan) due → (more : List (List ℕ)) (at : ℕ)
    → IsSheetOff plan (map (line_due blank) due) (map (line_text plan.version) (map (line_due (codes_of_row plan seed)) due) ++ more) at → ⊥
sheet_on plan seed fine [] placed more at off = off
sheet_on plan seed fine (line.Ballot ballot style ∷ due) placed more zero off = off refl
sheet_on plan seed fine (line.Codes race row ∷ due) placed more zero off = off (codes_of_row plan seed race row, codes_are plan seed fine race row placed.0.0, refl)
sheet_on plan seed fine (line.Ballot ballot style ∷ due) placed more (suc at) off = sheet_on plan seed fine due placed.1 more at off.1
sheet_on plan seed fine (line.Codes race row ∷ due) placed more (suc at) off = sheet_on plan seed fine due placed.1 more at off.1

rows_on : (rows : List RowGiven) → EachOf IsRowGiven rows → (at : ℕ) → AreRowsOff (length rows) (map row_text rows) at → ⊥
rows_on [] given at off = off
rows_on (row ∷ rows) given zero off = off (row, given.0, refl)
rows_on (row ∷ rows) given (suc at) off = rows_on rows given.1 at off.1

-- what is read is the office's: its record, its codes and its openings
pub record IsOfOffice (plan : Plan) (seed : List ℕ) (fates : List Told) (draw : Draw) (claims : List Claimed) (given : Given) : Type 0 where
  pub posted : given.posted ≡ posted_record plan seed fates draw claims
  pub codes : Agree plan (printed_of given.codes) (codes_of_row plan seed)
  pub rows : given.rows ≡ office_rows plan seed

module _ (plan : Plan) (seed : List ℕ) (fates : List Told) (draw : Draw) (claims : List Claimed) (fine : fault_of plan ≡ None) (fit : fates_fit plan 0 fates ≡ true) (claimed : list_all (claim_fits plan) claims ≡ true)
    (words : HasWords (posted_record plan seed fates draw claims)) (formed : is_formed (posted_record plan seed fates draw claims) ≡ true) (totals : List Total)
    (yes : IsVerdict (texts_in (posted_record plan seed fates draw claims)) (judged.Yes totals)) where
  abbrev ours : Record
  ours = posted_record plan seed fates draw claims

  abbrev lines : List Placed
  lines = places_in ours

  -- the lines from `completion` on
  abbrev last : List (List ℕ)
  last = completion_line ∷ completion_texts (office_rows plan seed)

  abbrev all : List (List ℕ)
  all = handed_lines plan seed fine ours

  front_is : record_lines all ≡ texts_in ours
  front_is = record_split plan.version (lines_in ours) (sheet plan seed fine ++ last) (AreIn-from_All plan.version (lines_in ours) words)

  behind_is : lines_behind all ≡ printing_line ∷ (sheet plan seed fine ++ last)
  behind_is = behind_split plan.version (lines_in ours) (sheet plan seed fine ++ last) (AreIn-from_All plan.version (lines_in ours) words)

  -- WHAT IS TOLD

  record_told : (posted : Record) → HasWords posted → is_formed posted ≡ true → record_lines all ≡ texts_in posted → posted ≡ ours
  unfolding text_of
  record_told posted some form same = texts_differ posted ours some words form formed (ap concat (sym same ∙ front_is))

  sheet_told : (posted : Record) (lists : List (List (List ℕ))) (after : List (List ℕ)) → posted ≡ ours → ArePrinted posted.plan lists → lines_behind all ≡ printing_line ∷ (sheet_texts posted.plan lists ++ after)
      → SameSheets plan (printed_of lists) (codes_of_row plan seed) after last
  sheet_told posted lists after is printed same =
      let here : lines_behind all ≡ printing_line ∷ (sheet_texts plan lists ++ after) = subst (λ (p : Record). lines_behind all ≡ printing_line ∷ (sheet_texts p.plan lists ++ after)) is same in
      sheets_told plan (printed_of lists) (codes_of_row plan seed) after last fine (lists_of_version plan lists (subst (λ (p : Record). ArePrinted p.plan lists) is printed)) (tables_of_version plan seed fine)
      (cons_parts (sym here ∙ behind_is)).1

  row_told : (x y : RowGiven) → IsRowGiven x → IsOffice plan seed fine y → row_text x ≡ row_text y → x ≡ y
  row_told x y given (race, instance, number, within, is) same =
      let told =
      both_told x.left x.right (left_opening_of plan seed race instance number) (right_opening_of plan seed race instance number) given.left given.right (opening_in plan seed fine side.Left race instance number within)
      (opening_in plan seed fine side.Right race instance number within) (same ∙ ap row_text is) in
      ap (λ (o : Option Opening). let one : RowGiven = record { left = o; right = x.right } in one) told.0
      ∙ (ap (λ (o : Option Opening). let one : RowGiven = record { left = Some (left_opening_of plan seed race instance number); right = o } in one) told.1 ∙ sym is)

  rows_told : (rows : List (List (List RowGiven))) → has_rows plan rows ≡ true → AreOpenings rows → completion_texts rows ≡ completion_texts (office_rows plan seed) → rows ≡ office_rows plan seed
  rows_told rows has openings same =
      rows_same plan rows (office_rows plan seed) has (rows_are plan (both_given plan seed))
      (images_same row_text IsRowGiven (IsOffice plan seed fine) row_told (joined (joined rows)) (joined (joined (office_rows plan seed))) (each_opened rows openings) (rows_office plan seed fine) same)

  -- the lines spell the office's parts, and no others
  pub given_told : (given : Given) → IsGiven all given → IsOfOffice plan seed fates draw claims given
  given_told given is =
      let version = given.posted.plan.version in
      let in_range = AreIn-from_All version (lines_in given.posted) is.words in
      let after : List (List ℕ) = completion_line ∷ completion_texts given.rows in
      let behind : List (List ℕ) = sheet_texts given.posted.plan given.codes ++ after in
      let posted : given.posted ≡ ours = record_told given.posted is.words is.formed (ap record_lines is.text ∙ record_split version (lines_in given.posted) behind in_range) in
      let told = sheet_told given.posted given.codes after posted is.printed (ap lines_behind is.text ∙ behind_split version (lines_in given.posted) behind in_range) in
      record {
        posted = posted;
        codes = told.agree;
        rows = rows_told given.rows (subst (λ (p : Record). has_rows p.plan given.rows ≡ true) posted is.rows) is.openings (cons_parts told.rest).1;
      }

  -- NO FAULT

  pub stands : (lists : List (List (List ℕ))) → Agree plan (printed_of lists) (codes_of_row plan seed) → StandsWith plan lines (printing_of lists)
  stands lists agree race instance number left right kind ballot column code row_among code_among same =
      let both = both_are plan seed fates draw claims fine fit claimed race instance number left right row_among in
      let count = candidates_of plan race in
      ap (λ (o : Opening). printing_of lists race (o.value / count) (right.value % count)) both.1
      ∙ (ap (λ (o : Opening). printing_of lists race ((left_opening_of plan seed race instance number).value / count) (o.value % count)) both.2
      ∙ (printed_is plan seed fates draw claims fine fit claimed (completion_of (office_rows plan seed)) (office_has plan seed fine) (printing_of lists) (prints_tables plan seed lists fine agree) race instance number both.0
      ∙ (ap (code_of_entry plan seed race) (ap (λ (o : Opening). o.value) (sym both.1) ∙ sym same) ∙ sym (code_is plan seed fates draw claims fine fit claimed kind ballot race column code code_among))))

  pub right_row : (completion : Completion) → HasTables plan seed completion → (race instance number : ℕ) → IsHalfOf plan race instance number → IsRowRight lines completion race instance number
  right_row completion has race instance number within = record {
    opens = λ on opening is.
        subst (λ (o : Opening). opens_digest (half_commitment lines on race instance number) (half_kind on) race instance number o ≡ true) (some_same (sym (has on race instance number within) ∙ is))
        (half_opens plan seed fates draw claims fine fit claimed on race instance number within);
    keeps = λ on posted is. has on race instance number within ∙ ap (λ (o : Opening). Some o) (half_posted plan seed fates draw claims fine fit claimed on race instance number posted within is);
  }
    where
      some_same : {x y : Opening} → Some x ≡ Some y → x ≡ y
      some_same e = cc

  no_verdict : (number : ℕ) (broken : Kind) → Says (judged.No number broken) (record_lines all) → ⊥
  no_verdict number broken says =
      no
      (one_verdict (texts_in ours) (judged.No number broken) (judged.Yes totals)
      ((verdicts_say (texts_in ours) (judged.No number broken)).1 (subst (Says (judged.No number broken)) front_is says)) yes)
    where
      no : ◌≡◌ {A = Judged} (judged.No number broken) (judged.Yes totals) → ⊥
      no e = cc

  no_printing_off : (at : ℕ) → IsPrintingOff plan (printing_line ∷ (sheet plan seed fine ++ last)) at → ⊥
  no_printing_off zero off = off
  no_printing_off (suc at) off =
      sheet_on plan seed fine (sheet_due plan) (sheet_placed plan fine) last at
      (subst (λ (l : List SheetLine). IsSheetOff plan l (map (line_text plan.version) (map (line_due (codes_of_row plan seed)) (sheet_due plan)) ++ last) at) (sym (sheet_printed plan blank))
      (subst (λ (l : List SheetLine). IsSheetOff plan (sheet_lines plan blank) (map (line_text plan.version) l ++ last) at) (sym (sheet_printed plan (codes_of_row plan seed))) off))

  no_completion_off : (at : ℕ) → IsCompletionOff plan last at → ⊥
  no_completion_off zero off = off refl
  no_completion_off (suc at) off =
      let rows : List RowGiven = joined (joined (office_rows plan seed)) in
      let count : r_rows plan ≡ length rows = sym (rows_few plan (office_rows plan seed) (rows_are plan (both_given plan seed))) ∙ length-map rows row_text in
      rows_on rows (office_rows_given plan seed fine) at (subst (λ n. AreRowsOff n (map row_text rows) at) count off.1)

  posted_told : (posted : Record) → IsRecordOf all posted → posted ≡ ours
  posted_told posted of = record_told posted of.accepted.words of.accepted.formed of.text

  sheet_is : (posted : Record) (lists : List (List (List ℕ))) (after : List (List ℕ)) → IsSheetOf all posted lists after → SameSheets plan (printed_of lists) (codes_of_row plan seed) after last
  sheet_is posted lists after of = sheet_told posted lists after (posted_told posted of.of_record) of.printed of.text

  no_row_fault : (given : Given) (race instance number : ℕ) → IsRowFault all given race instance number → ⊥
  no_row_fault given race instance number wrong =
      let told = given_told given wrong.is_given in
      let has : HasTables plan seed (completion_of given.rows)
      = subst (λ (rows : List (List (List RowGiven))). HasTables plan seed (completion_of rows)) (sym told.rows) (office_has plan seed fine) in
      let within : IsHalfOf plan race instance number = subst (λ (p : Record). IsHalfOf p.plan race instance number) told.posted wrong.first.within in
      wrong.first.wrong (subst (λ (p : Record). IsRowRight (places_in p) (completion_of given.rows) race instance number) (sym told.posted) (right_row (completion_of given.rows) has race instance number within))

  -- the lines have no fault
  pub no_fault : (wrong : RecountFault) → wrong ≢ fault.NoMemory → HasFault all wrong → ⊥
  no_fault (fault.Record number broken) known says = no_verdict number broken says
  no_fault (fault.Printing number) known (posted, at, of, off, is) =
      no_printing_off at
      (subst (λ (l : List (List ℕ)). IsPrintingOff plan l at) behind_is (subst (λ (p : Record). IsPrintingOff p.plan (lines_behind all) at) (posted_told posted of) off))
  no_fault (fault.Stand race instance row) known (posted, lists, rest, of, first) =
      let is = posted_told posted of.of_record in
      let told = sheet_is posted lists rest of in
      first.wrong
      (λ left right kind ballot column code a b same.
      subst (λ (p : Record). printing_of lists race (left.value / candidates_of p.plan race) (right.value % candidates_of p.plan race) ≡ code.code) (sym is)
      (stands lists told.agree race instance row left right kind ballot column code (subst (λ (p : Record). IsAmong (places_in p) (RowAt race instance row (opened.Both left right))) is a)
      (subst (λ (p : Record). IsAmong (places_in p) (CodeAt kind ballot race column code)) is b) (subst (λ (p : Record). entry_at p.plan race ballot column ≡ left.value) is same)))
  no_fault (fault.Completion number) known (posted, lists, rest, at, of, agrees, off, is) =
      no_completion_off at
      (subst (λ (l : List (List ℕ)). IsCompletionOff plan l at) (sheet_is posted lists rest of).rest (subst (λ (p : Record). IsCompletionOff p.plan rest at) (posted_told posted of.of_record) off))
  no_fault (fault.Opening race instance row) known (given, wrong, opens) = no_row_fault given race instance row wrong
  no_fault (fault.Posted race instance row) known (given, wrong, opens) = no_row_fault given race instance row wrong
  no_fault fault.NoMemory known unit = known refl
