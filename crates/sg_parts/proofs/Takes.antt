-- What one more line makes of the lines behind `printing`.
use Rattle.std.proofs.Common.{◌≡◌, ℕ, ◌+◌, ◌<◌, true, inl, inr, List, [], ◌∷◌, ◌++◌, drop, length, map, take, sym, subst, ap, ◌∙◌, append_assoc, length-take-le, take-append-drop, take_all, arith}
use Rattle.std.proofs.lemmas.List.{length_push, map-append}
use Rattle.sg_plan.specs.Ballots.{r_rows}
use Rattle.sg_plan.specs.declared.plan.Plan.{Plan}
use Rattle.sg_sheet.specs.inside.Listed.{line_due}
use Rattle.sg_sheet.specs.declared.due.Due.{Due}
use Rattle.sg_parts.specs.Faults.{IsSheetOff, blank}
use Rattle.sg_parts.specs.Given.{completion_line, row_text}
use Rattle.sg_parts.specs.declared.parts.RowGiven.{RowGiven}
use Rattle.sg_parts.specs.inside.Filling.{Fills, Lists, TakesLine, TakesRow}
use Rattle.sg_parts.specs.inside.Taking.{OnRows, OnSheet, Stands, bare}
use Rattle.sg_parts.proofs.RowLines.{given_append}
use Rattle.sg_parts.proofs.Sheets.{fills_push, line_long, off_behind}

module _ (plan : Plan) (due : List Due) (taken : ℕ) (codes : Lists) (lines : List (List ℕ)) where
  -- what is off behind the first lines of the sheet
  pub sheet_off : (rest : List (List ℕ)) → OnSheet plan due taken codes lines → IsSheetOff plan (map (line_due blank) (drop taken due)) rest 0 → IsSheetOff plan (map (line_due blank) due) (lines ++ rest) taken
  sheet_off rest on off =
      subst (λ n. IsSheetOff plan (map (line_due blank) due) (lines ++ rest) n) (length-take-le taken due on.within)
      (subst (λ (d : List Due). IsSheetOff plan (map (line_due blank) d) (lines ++ rest) (length (take taken due))) (take-append-drop taken due)
      (off_behind plan (take taken due) (drop taken due) lines rest (bare plan) codes on.fills off))

  -- the sheet is whole
  pub sheet_all : taken ≡ length due → OnSheet plan due taken codes lines → Fills plan due lines (bare plan) [] codes
  sheet_all all on = subst (λ (d : List Due). Fills plan d lines (bare plan) [] codes) (take_all taken due (omega (arith, all))) on.fills

  module _ (rows : List RowGiven) (text : List ℕ) where
    -- a line of the sheet is taken
    pub sheet_fits : (one : Due) (codes' : Lists) → taken < length due → take (taken + 1) due ≡ take taken due ++ one ∷ [] → TakesLine plan one text codes codes' true
        → Stands plan due taken codes rows lines → Stands plan due (taken + 1) codes' rows (lines ++ text ∷ [])
    sheet_fits one codes' less front takes (inl (on, none)) = inl (
      record {
        within = omega (arith, less);
        count = length_push lines text ∙ ap (λ n. n + 1) on.count;
        races = line_long plan one text codes codes' takes ∙ on.races;
        fills = subst (λ (d : List Due). Fills plan d (lines ++ text ∷ []) (bare plan) [] codes') (sym front) (fills_push plan (take taken due) one text lines (bare plan) codes codes' on.fills takes);
      },
      none,
    )
    sheet_fits one codes' less front takes (inr on) = absurd (omega (arith, less, on.count))

    -- the line `completion`
    pub word_fits : taken ≡ length due → text ≡ completion_line → Stands plan due taken codes rows lines → Stands plan due (taken + 1) codes rows (lines ++ text ∷ [])
    word_fits all is (inl (on, none)) = inr (subst (λ (r : List RowGiven). OnRows plan due (taken + 1) codes r (lines ++ text ∷ [])) (sym none) (record {
      sheet = lines;
      fills = sheet_all all on;
      given = tt;
      text = ap (λ (t : List ℕ). lines ++ t ∷ []) is;
      count = omega (arith, all);
      few = omega arith;
    }))
    word_fits all is (inr on) = absurd (omega (arith, all, on.count))

    -- a row's line
    pub row_fits : (rows' : List RowGiven) → length due < taken → TakesRow (r_rows plan) text rows rows' true → Stands plan due taken codes rows lines → Stands plan due (taken + 1) codes rows' (lines ++ text ∷ [])
    row_fits rows' more takes (inl (on, none)) = absurd (omega (arith, more, on.within))
    row_fits rows' more takes (inr on) = inr (subst (λ (r : List RowGiven). OnRows plan due (taken + 1) codes r (lines ++ text ∷ [])) (sym takes.3) (record {
      sheet = on.sheet;
      fills = on.fills;
      given = given_append rows (takes.0 ∷ []) on.given (takes.1, tt);
      text =
          ap (λ (l : List (List ℕ)). l ++ text ∷ []) on.text
          ∙ (append_assoc on.sheet (completion_line ∷ map row_text rows) (text ∷ [])
          ∙ ap (λ (l : List (List ℕ)). on.sheet ++ completion_line ∷ l) (ap (λ (t : List ℕ). map row_text rows ++ t ∷ []) takes.2 ∙ sym (map-append row_text rows (takes.0 ∷ []))));
      count = omega (arith, on.count, length_push rows takes.0);
      few = omega (arith, takes.4, length_push rows takes.0);
    }))
