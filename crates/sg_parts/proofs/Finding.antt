-- What a reader of parts has taken with one more line, and what it finds at the end.
use Rattle.std.proofs.Common.{◌≡◌, ℕ, suc, ◌+◌, ◌<◌, ◌≤◌, Bool, true, false, inl, inr, List, [], ◌∷◌, ◌++◌, bytes_eq, drop, length, map, take, Some, None, refl, sym, subst, ap, ◌∙◌, append_assoc, append-nil, arith}
use Rattle.std.specs.Prelude.{slice_get}
use Rattle.std.proofs.lemmas.Bool.{true≢false}
use Rattle.std.proofs.lemmas.List.{drop_all, length-append, length-map, length-replicate}
use Rattle.std.proofs.lemmas.Slice.Eq.{bytes_eq-Decides}
use Rattle.sg_plan.proofs.PlanLaws.{bounds}
use Rattle.sg_plan.specs.Ballots.{r_rows}
use Rattle.sg_plan.specs.Limits.{fault_of}
use Rattle.sg_plan.specs.declared.plan.Plan.{Plan}
use Rattle.sg_sheet.proofs.Listing.{sheet_printed}
use Rattle.sg_sheet.specs.Sheet.{SheetLine}
use Rattle.sg_sheet.specs.inside.Listed.{line_due}
use Rattle.sg_sheet.specs.declared.due.Due.{Due}
use Rattle.sg_record.specs.Places.{places_in}
use Rattle.sg_check.specs.Printings.{StandsWith}
use Rattle.sg_parts.specs.Faults.{AreRowsOff, HasFault, IsCompletionOff, IsPrintingOff, IsSheetLine, IsSheetOf, IsSheetOff, blank, lines_behind, record_lines}
use Rattle.sg_parts.specs.Given.{completion_line, printing_line, printing_of, row_text, sheet_texts}
use Rattle.sg_parts.specs.Laws.{ReadingsHold}
use Rattle.sg_parts.specs.Reads.{HasRead}
use Rattle.sg_parts.specs.declared.parts.RecountFault.{RecountFault}
use Rattle.sg_parts.specs.declared.parts.RecountFault.TheVariants as fault
use Rattle.sg_parts.specs.declared.parts.RowGiven.{RowGiven}
use Rattle.sg_parts.specs.declared.reading.PartsReading.{PartsReading}
use Rattle.sg_parts.specs.inside.Cutting.{AreCut}
use Rattle.sg_parts.specs.inside.Filling.{AreGiven, Fills, Lists, TakesLine, TakesRow, is_race_due}
use Rattle.sg_parts.specs.inside.Reading.{Fits, HasCompletion, IsStandFault}
use Rattle.sg_parts.specs.inside.Taking.{IsNextOff, Stands, bare}
use Rattle.sg_parts.proofs.Accepting.{good_plan}
use Rattle.sg_parts.proofs.Printed.{sheet_filled, sheet_within}
use Rattle.sg_parts.proofs.RowLines.{rows_next, rows_short}
use Rattle.sg_parts.proofs.Sheets.{due_next, fills_long, line_not, line_same}
use Rattle.sg_parts.proofs.Takes.{row_fits, sheet_all, sheet_fits, sheet_off, word_fits}
use Rattle.sg_parts.proofs.Wholes.{both_parts, due_few, due_long, openings_are, record_few, stand_off, word_stays}

-- all lines were taken: the sheet, the word and each row
pub record HasAll (reading : PartsReading) (lines : List (List ℕ)) : Type 0 where
  pub rest : List (List ℕ)
  pub sheet : IsSheetOf lines reading.posted reading.codes rest
  pub long : length reading.rows ≡ r_rows reading.posted.plan
  pub given : AreGiven reading.rows
  pub text : rest ≡ completion_line ∷ map row_text reading.rows

-- before the first line behind `printing`
pub stands_start : (plan : Plan) (due : List Due) (codes : Lists) (rows : List RowGiven) → codes ≡ bare plan → rows ≡ [] → Stands plan due 0 codes rows []
stands_start plan due codes rows are none = inl (
  record { within = omega arith; count = refl; races = ap length are ∙ length-replicate (length plan.races) []; fills = (refl, sym are) },
  none,
)

module _ (old : PartsReading) (lines : List (List ℕ)) (has : HasRead old lines) where
  abbrev plan : Plan
  plan = old.posted.plan

  fine : fault_of plan ≡ None
  fine = good_plan old.posted has.of_record.accepted

  -- FEW LINES

  few_due : length old.due ≤ 660000
  few_due = omega (arith, ap length has.due_are, due_few plan fine)

  pub taken_asked : old.taken ≤ length old.due + old.count + 1
  taken_asked = by_stands has.stands
    where
      by_stands : Stands plan old.due old.taken old.codes old.rows has.behind → old.taken ≤ length old.due + old.count + 1
      by_stands (inl (on, none)) = omega (arith, on.within)
      by_stands (inr on) = omega (arith, on.count, on.few, has.count)

  pub asked_few : length old.due + old.count ≤ 860000
  asked_few = omega (arith, few_due, has.count, (bounds plan fine).few_r_rows)

  pub before_few : old.before ≤ 1200000
  before_few = omega (arith, has.before, ap length has.of_record.text, record_few old.posted has.of_record.accepted)

  behind_long : length has.behind ≡ old.taken
  behind_long = by_stands has.stands
    where
      by_stands : Stands plan old.due old.taken old.codes old.rows has.behind → length has.behind ≡ old.taken
      by_stands (inl (on, none)) = on.count
      by_stands (inr on) =
          omega (
            arith,
            on.count,
            ap length on.text,
            fills_long plan old.due on.sheet (bare plan) old.codes on.fills,
            length-map old.rows row_text,
            length-append on.sheet (completion_line ∷ map row_text old.rows),
          )

  -- the line of the sheet that is due is of a race of the plan
  pub race_due : (one : Due) → old.taken < length old.due → slice_get old.due old.taken ≡ Some one → is_race_due (length old.codes) one ≡ true
  race_due one less is = by_stands has.stands
    where
      by_stands : Stands plan old.due old.taken old.codes old.rows has.behind → is_race_due (length old.codes) one ≡ true
      by_stands (inl (sheet, none)) =
          subst (λ n. is_race_due n one ≡ true) (sym sheet.races) (sheet_within plan fine old.taken one (subst (λ (d : List Due). slice_get d old.taken ≡ Some one) has.due_are is))
      by_stands (inr rows) = absurd (omega (arith, less, rows.count))

  -- ONE MORE LINE

  module _ (text : List ℕ) where
    read_more : (codes : Lists) (rows : List RowGiven) → Stands plan old.due (old.taken + 1) codes rows (has.behind ++ text ∷ [])
        → HasRead (record old { taken = old.taken + 1; codes = codes; rows = rows }) (lines ++ text ∷ [])
    read_more codes rows stands =
        let more = word_stays lines (text ∷ []) has.behind has.begins in
        record {
          of_record = record { accepted = has.of_record.accepted; text = more.0 ∙ has.of_record.text };
          index = has.index;
          before = has.before ∙ ap length (sym more.0);
          due_are = has.due_are;
          count = has.count;
          behind = has.behind ++ text ∷ [];
          begins = more.1;
          stands = stands;
        }

    pub fits_sheet : (one : Due) (codes : Lists) (fits : Bool) → old.taken < length old.due → take (old.taken + 1) old.due ≡ take old.taken old.due ++ one ∷ []
        → drop old.taken old.due ≡ one ∷ drop (old.taken + 1) old.due → TakesLine plan one text old.codes codes fits → Fits old (record old { codes = codes }) lines text fits
    fits_sheet one codes true less front next takes =
        (refl, read_more codes old.rows (sheet_fits plan old.due old.taken old.codes has.behind old.rows text one codes less front takes has.stands))
    fits_sheet one codes false less front next takes = (
      ap (λ (l : Lists). let r : PartsReading = record old { codes = l } in r) (line_same plan one text old.codes codes takes),
      record {
        sheet = λ other left is line. line_not plan one text old.codes codes takes (subst (λ (d : Due). IsSheetLine plan (line_due blank d) text) (head_is other left is) line);
        word = λ all. absurd (omega (arith, less, all));
        row = λ more. absurd (omega (arith, less, more));
      },
    )
      where
        head_is : (other : Due) (left : List Due) → drop old.taken old.due ≡ other ∷ left → other ≡ one
        head_is other left is = cc

    -- no line of the sheet is due
    past_sheet : length old.due ≤ old.taken → (one : Due) (left : List Due) → drop old.taken old.due ≡ one ∷ left → ⊥
    past_sheet past one left is = let none = drop_all old.taken old.due past in cc

    pub fits_word : (fits : Bool) → old.taken ≡ length old.due → fits ≡ bytes_eq text completion_line → Fits old old lines text fits
    fits_word true all is = (
      refl,
      read_more old.codes old.rows (word_fits plan old.due old.taken old.codes has.behind old.rows text all ((bytes_eq-Decides text completion_line).0 (sym is)) has.stands),
    )
    fits_word false all is = (
      refl,
      record {
        sheet = λ one left next. absurd (past_sheet (omega (arith, all)) one left next);
        word = λ _ same. true≢false (sym ((bytes_eq-Decides text completion_line).1 same) ∙ sym is);
        row = λ more. absurd (omega (arith, all, more));
      },
    )

    pub fits_row : (rows : List RowGiven) (fits : Bool) → length old.due < old.taken → TakesRow old.count text old.rows rows fits → Fits old (record old { rows = rows }) lines text fits
    fits_row rows true more takes = (
      refl,
      read_more old.codes rows (row_fits plan old.due old.taken old.codes has.behind old.rows text rows more (subst (λ n. TakesRow n text old.rows rows true) has.count takes) has.stands),
    )
    fits_row rows false more takes = (
      ap (λ (l : List RowGiven). let r : PartsReading = record old { rows = l } in r) takes.0,
      record {
        sheet = λ one left next. absurd (past_sheet (omega (arith, more)) one left next);
        word = λ all. absurd (omega (arith, all, more));
        row = λ _. takes.1;
      },
    )

  -- THE SHEET IS WHOLE

  sheet_of : (all behind sheet rest : List (List ℕ)) → record_lines all ≡ record_lines lines → lines_behind all ≡ printing_line ∷ behind → Fills plan old.due sheet (bare plan) [] old.codes → behind ≡ sheet ++ rest
      → IsSheetOf all old.posted old.codes rest
  sheet_of all behind sheet rest same begins fills is =
      let filled = sheet_filled plan sheet [] old.codes fine (subst (λ (d : List Due). Fills plan d sheet (bare plan) [] old.codes) has.due_are fills) in
      record {
        of_record = record { accepted = has.of_record.accepted; text = same ∙ has.of_record.text };
        printed = filled.0;
        text = begins ∙ ap (λ (l : List (List ℕ)). printing_line ∷ l) (is ∙ ap (λ (l : List (List ℕ)). l ++ rest) (filled.1 ∙ append-nil (sheet_texts plan old.codes)));
      }

  -- ALL LINES WERE TAKEN

  pub all_taken : length old.due + old.count + 1 ≤ old.taken → HasAll old lines
  all_taken whole = by_stands has.stands
    where
      by_stands : Stands plan old.due old.taken old.codes old.rows has.behind → HasAll old lines
      by_stands (inl (on, none)) = absurd (omega (arith, whole, on.within))
      by_stands (inr on) = record {
        rest = completion_line ∷ map row_text old.rows;
        sheet = sheet_of lines has.behind on.sheet (completion_line ∷ map row_text old.rows) refl has.begins on.fills on.text;
        long = omega (arith, whole, on.count, on.few, has.count);
        given = on.given;
        text = refl;
      }

  pub all_complete : (all : HasAll old lines) (cut : List (List (List RowGiven))) → AreCut plan old.rows cut → HasCompletion plan all.rest cut
  all_complete all cut are = record {
    rows_are = are.rows_fit;
    openings = openings_are cut (subst AreGiven (sym are.rows_are) all.given);
    text = all.text ∙ ap (λ (l : List RowGiven). completion_line ∷ map row_text l) (sym are.rows_are);
  }

  -- THE NEXT LINE IS OFF, OR MISSING

  module _ (rest : List (List ℕ)) (off : IsNextOff old rest) where
    same_record : record_lines (lines ++ rest) ≡ record_lines lines
    same_record = (word_stays lines rest has.behind has.begins).0

    begins_on : lines_behind (lines ++ rest) ≡ printing_line ∷ (has.behind ++ rest)
    begins_on = (word_stays lines rest has.behind has.begins).1

    -- a line of the sheet
    line_off : (next : List (List ℕ)) → IsNextOff old next → old.taken < length old.due → IsSheetOff plan (map (line_due blank) (drop old.taken old.due)) next 0
    line_off next is less = let due = due_next old.due old.taken less in subst (λ (d : List Due). IsSheetOff plan (map (line_due blank) d) next 0) (sym due.1) (by_next next is due.0 due.1)
      where
        by_next : (l : List (List ℕ)) → IsNextOff old l → (one : Due) → drop old.taken old.due ≡ one ∷ drop (old.taken + 1) old.due → IsSheetOff plan (map (line_due blank) (one ∷ drop (old.taken + 1) old.due)) l 0
        by_next [] missing one stands = refl
        by_next (text ∷ more) other one stands = other.sheet one (drop (old.taken + 1) old.due) stands

    pub sheet_fault : old.taken < length old.due → HasFault (lines ++ rest) (fault.Printing (old.before + old.taken + 2))
    sheet_fault less = (
      old.posted,
      suc old.taken,
      record { accepted = has.of_record.accepted; text = same_record ∙ has.of_record.text },
      subst (λ (l : List (List ℕ)). IsPrintingOff plan l (suc old.taken)) (sym begins_on)
          (subst (λ (s : List SheetLine). IsSheetOff plan s (has.behind ++ rest) old.taken) (ap (map (line_due blank)) has.due_are ∙ sheet_printed plan blank) (by_stands has.stands)),
      omega (arith, has.before, ap length same_record),
    )
      where
        by_stands : Stands plan old.due old.taken old.codes old.rows has.behind → IsSheetOff plan (map (line_due blank) old.due) (has.behind ++ rest) old.taken
        by_stands (inl (on, none)) = sheet_off plan old.due old.taken old.codes has.behind rest on (line_off rest off less)
        by_stands (inr on) = absurd (omega (arith, less, on.count))

    -- or what stands behind the sheet
    record IsBehind : Type 0 where
      left : List (List ℕ)
      at : ℕ
      sheet : IsSheetOf (lines ++ rest) old.posted old.codes left
      count : old.taken ≡ length old.due + at
      is : IsCompletionOff plan left at

    word_off : (next : List (List ℕ)) → IsNextOff old next → old.taken ≡ length old.due → IsCompletionOff plan next 0
    word_off [] missing all = refl
    word_off (text ∷ more) other all = other.word all

    rows_off_next : (next : List (List ℕ)) → IsNextOff old next → old.taken ≡ length old.due + length old.rows + 1 → length old.rows ≤ r_rows plan → AreGiven old.rows
        → AreRowsOff (r_rows plan) (map row_text old.rows ++ next) (length old.rows)
    rows_off_next [] missing count few given = rows_short (r_rows plan) old.rows given (omega (arith, missing, count, has.count))
    rows_off_next (text ∷ more) other count few given = rows_next (r_rows plan) old.rows text more given few (λ less. other.row (omega (arith, count)) (omega (arith, less, has.count)))

    behind_off : length old.due ≤ old.taken → IsBehind
    behind_off past = by_stands has.stands
      where
        by_stands : Stands plan old.due old.taken old.codes old.rows has.behind → IsBehind
        by_stands (inl (on, none)) =
            let all : old.taken ≡ length old.due = omega (arith, past, on.within) in
            record {
              left = rest;
              at = 0;
              sheet = sheet_of (lines ++ rest) (has.behind ++ rest) has.behind rest same_record begins_on (sheet_all plan old.due old.taken old.codes has.behind all on) refl;
              count = omega (arith, all);
              is = word_off rest off all;
            }
        by_stands (inr on) = record {
          left = completion_line ∷ (map row_text old.rows ++ rest);
          at = suc (length old.rows);
          sheet =
              sheet_of (lines ++ rest) (has.behind ++ rest) on.sheet (completion_line ∷ (map row_text old.rows ++ rest)) same_record begins_on on.fills
              (ap (λ (l : List (List ℕ)). l ++ rest) on.text ∙ append_assoc on.sheet (completion_line ∷ map row_text old.rows) rest);
          count = omega (arith, on.count);
          is = (refl, rows_off_next rest off on.count on.few on.given);
        }

    pub stand_fault : length old.due ≤ old.taken → (wrong : RecountFault) → IsStandFault old.posted old.codes wrong → HasFault (lines ++ rest) wrong
    stand_fault past wrong is = let found = behind_off past in stand_off (lines ++ rest) old.posted old.codes found.left found.sheet wrong is

    pub completion_fault : length old.due ≤ old.taken → StandsWith plan (places_in old.posted) (printing_of old.codes) → HasFault (lines ++ rest) (fault.Completion (old.before + old.taken + 2))
    completion_fault past stands =
        let found = behind_off past in
        (old.posted, old.codes, found.left, found.at, found.sheet, stands, found.is, omega (arith, has.before, found.count, ap length has.due_are, due_long plan, ap length same_record))

-- WHAT FOLLOWS

pub readings_hold : ReadingsHold
readings_hold reading lines has = record {
  accepting = (reading.posted, has.of_record.accepted, has.of_record.text);
  tail = has.behind;
  begins = has.begins;
  few =
      omega (
        arith,
        before_few reading lines has,
        has.before,
        behind_long reading lines has,
        taken_asked reading lines has,
        asked_few reading lines has,
        ap length (both_parts lines),
        length-append (record_lines lines) (lines_behind lines),
        ap length has.begins,
      );
}
