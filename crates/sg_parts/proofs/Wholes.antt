-- The record, the printing and the completion, one behind the other.
use Rattle.std.proofs.Common.{◌≡◌, ℕ, zero, suc, ◌+◌, ◌*◌, ◌≤◌, Bool, true, false, cond, List, [], ◌∷◌, ◌++◌, bytes_eq, length, Option, Some, None, refl, sym, subst, ap, ◌∙◌, arith}
use Rattle.std.specs.Option.{option_and_then}
use Rattle.std.specs.Prelude.{slice_get}
use Rattle.std.proofs.Math.Nat.{mul-le-mul_left}
use Rattle.std.proofs.lemmas.Option.{none-some, same_Some}
use Rattle.std.proofs.lemmas.List.{length-map}
use Rattle.sg_forms.specs.Spelling.{IsOpening}
use Rattle.sg_grammar.proofs.Counting.{most_lines_stand}
use Rattle.sg_plan.proofs.PlanLaws.{bounds}
use Rattle.sg_plan.specs.Ballots.{ballot_styles}
use Rattle.sg_plan.specs.Limits.{fault_of}
use Rattle.sg_plan.specs.declared.plan.Plan.{Plan}
use Rattle.sg_plan.specs.declared.plan.Side.{Side}
use Rattle.sg_plan.specs.declared.plan.Side.TheVariants as side
use Rattle.sg_record.specs.Laws.{AreLinesOf}
use Rattle.sg_record.specs.Lines.{texts_in}
use Rattle.sg_record.specs.Places.{places_in, walk_of}
use Rattle.sg_record.specs.declared.record.Record.{Record}
use Rattle.sg_check.specs.Printings.{StandsWith}
use Rattle.sg_fronts.proofs.OfRecord.{one_record, walks}
use Rattle.sg_facts.specs.Items.{item_in, row_in}
use Rattle.sg_sheet.proofs.Listing.{sheet_printed}
use Rattle.sg_sheet.specs.inside.Listed.{line_due, sheet_due}
use Rattle.sg_sheet.specs.Sheet.{sheet_lines}
use Rattle.sg_parts.proofs.Cuts.{joined_both}
use Rattle.sg_parts.proofs.Printed.{sheet_few}
use Rattle.sg_parts.specs.Faults.{HasFault, IsAccepting, IsPrintingOff, IsSheetOf, blank, lines_behind, record_lines}
use Rattle.sg_parts.specs.Given.{AreOpenings, Given, IsAccepted, IsGiven, IsHalf, IsRowGiven, half_given, joined, printing_line, printing_of, sheet_texts}
use Rattle.sg_parts.specs.declared.parts.RecountFault.{RecountFault}
use Rattle.sg_parts.specs.declared.parts.RecountFault.TheVariants as fault
use Rattle.sg_parts.specs.declared.parts.RowGiven.{RowGiven}
use Rattle.sg_parts.specs.inside.Filling.{AreGiven}
use Rattle.sg_parts.specs.inside.Reading.{HasCompletion, IsRecordRead, IsRowsFault, IsStandFault}

-- THE RECORD

-- lines whose verdict is yes are a record's
record_of : (lines : List (List ℕ)) (good : IsAccepting lines) → AreLinesOf lines good.0
record_of lines (posted, accepted, text) = record { words = accepted.words; formed = accepted.formed; text = text }

pub record_read : (lines : List (List ℕ)) (posted : Record) → AreLinesOf lines posted → IsAccepting lines → IsRecordRead lines posted
record_read lines posted are good = record { accepted = subst IsAccepted (one_record lines good.0 posted (record_of lines good) are) good.1; text = are.text }

pub record_there : (lines : List (List ℕ)) → IsAccepting lines → ((posted : Record) → AreLinesOf lines posted → None ≡ Some posted) → ⊥
record_there lines good only = absurd (none-some good.0 (only good.0 (record_of lines good)))

-- where no line `printing` stands behind it, this is missing
pub printing_missing : (lines : List (List ℕ)) (before : ℕ) → IsAccepting lines → record_lines lines ≡ lines → lines_behind lines ≡ [] → before ≡ length lines → HasFault lines (fault.Printing (before + 1))
printing_missing lines before (posted, accepted, text) same none is = (
  posted,
  0,
  record { accepted = accepted; text = same ∙ text },
  subst (λ (l : List (List ℕ)). IsPrintingOff posted.plan l 0) (sym none) refl,
  omega (arith, is, ap length same),
)

-- an accepted record has few lines
pub record_few : (posted : Record) → IsAccepted posted → length (texts_in posted) ≤ 1200000
record_few posted accepted = most_lines_stand (texts_in posted) (walk_of posted) (walks posted accepted.words accepted.formed)

-- THE LINES OF ALL PARTS

pub both_parts : (lines : List (List ℕ)) → record_lines lines ++ lines_behind lines ≡ lines
both_parts [] = refl
both_parts (line ∷ lines) = at_test (bytes_eq line printing_line) refl (both_parts lines)
  where
    at_test : (b : Bool) → bytes_eq line printing_line ≡ b → record_lines lines ++ lines_behind lines ≡ lines
        → cond (bytes_eq line printing_line) [] (line ∷ record_lines lines) ++ cond (bytes_eq line printing_line) (line ∷ lines) (lines_behind lines) ≡ line ∷ lines
    at_test true e ih = ap (λ (b : Bool). cond b [] (line ∷ record_lines lines) ++ cond b (line ∷ lines) (lines_behind lines)) e
    at_test false e ih = ap (λ (b : Bool). cond b [] (line ∷ record_lines lines) ++ cond b (line ∷ lines) (lines_behind lines)) e ∙ ap (λ (l : List (List ℕ)). line ∷ l) ih

-- more lines behind `printing` leave the record as it is
pub word_stays : (lines more tail : List (List ℕ)) → lines_behind lines ≡ printing_line ∷ tail → (record_lines (lines ++ more) ≡ record_lines lines) × (lines_behind (lines ++ more) ≡ printing_line ∷ (tail ++ more))
word_stays [] more tail is = cc
word_stays (line ∷ lines) more tail is = at_test (bytes_eq line printing_line) refl (word_stays lines more tail)
  where
    at_test : (b : Bool) → bytes_eq line printing_line ≡ b
        → (lines_behind lines ≡ printing_line ∷ tail → (record_lines (lines ++ more) ≡ record_lines lines) × (lines_behind (lines ++ more) ≡ printing_line ∷ (tail ++ more)))
        → (record_lines (line ∷ (lines ++ more)) ≡ record_lines (line ∷ lines)) × (lines_behind (line ∷ (lines ++ more)) ≡ printing_line ∷ (tail ++ more))
    at_test true e ih =
        let here : line ∷ lines ≡ printing_line ∷ tail = sym (ap (λ (b : Bool). cond b (line ∷ lines) (lines_behind lines)) e) ∙ is in (
          ap (λ (b : Bool). cond b [] (line ∷ record_lines (lines ++ more))) e ∙ sym (ap (λ (b : Bool). cond b [] (line ∷ record_lines lines)) e),
          ap (λ (b : Bool). cond b (line ∷ (lines ++ more)) (lines_behind (lines ++ more))) e ∙ ap (λ (l : List (List ℕ)). l ++ more) here,
        )
    at_test false e ih =
        let both = ih (sym (ap (λ (b : Bool). cond b (line ∷ lines) (lines_behind lines)) e) ∙ is) in (
          ap (λ (b : Bool). cond b [] (line ∷ record_lines (lines ++ more))) e
              ∙ (ap (λ (l : List (List ℕ)). line ∷ l) both.0 ∙ sym (ap (λ (b : Bool). cond b [] (line ∷ record_lines lines)) e)),
          ap (λ (b : Bool). cond b (line ∷ (lines ++ more)) (lines_behind (lines ++ more))) e ∙ both.1,
        )

-- THE COMPLETION

-- the openings of rows are such
given_at : (rows : List RowGiven) (at : ℕ) (row : RowGiven) → AreGiven rows → slice_get rows at ≡ Some row → IsRowGiven row
given_at [] at row given is = absurd (none-some row is)
given_at (one ∷ rows) zero row given is = subst IsRowGiven (same_Some one row is) given.0
given_at (one ∷ rows) (suc at) row given is = given_at rows at row given.1 is

given_front : (xs ys : List RowGiven) → AreGiven (xs ++ ys) → AreGiven xs × AreGiven ys
given_front [] ys given = (tt, given)
given_front (x ∷ xs) ys given = let parts = given_front xs ys given.1 in ((given.0, parts.0), parts.1)

given_in : (lists : List (List RowGiven)) (outer inner : ℕ) (row : RowGiven) → AreGiven (joined lists) → item_in lists outer inner ≡ Some row → IsRowGiven row
given_in [] outer inner row given is = absurd (none-some row is)
given_in (list ∷ lists) zero inner row given is = given_at list inner row (given_front list (joined lists) given).0 is
given_in (list ∷ lists) (suc outer) inner row given is = given_in lists outer inner row (given_front list (joined lists) given).1 is

given_row : (lists : List (List (List RowGiven))) (race instance at : ℕ) (row : RowGiven) → AreGiven (joined (joined lists)) → row_in lists race instance at ≡ Some row → IsRowGiven row
given_row [] race instance at row given is = absurd (none-some row is)
given_row (list ∷ lists) zero instance at row given is = given_in list instance at row (given_front (joined list) (joined (joined lists)) (subst AreGiven (joined_both list (joined lists)) given)).0 is
given_row (list ∷ lists) (suc race) instance at row given is = given_row lists race instance at row (given_front (joined list) (joined (joined lists)) (subst AreGiven (joined_both list (joined lists)) given)).1 is

pub openings_are : (rows : List (List (List RowGiven))) → AreGiven (joined (joined rows)) → AreOpenings rows
openings_are rows given on race instance at opening is = by_row (row_in rows race instance at) refl
  where
    of_half : (half : Side) (row : RowGiven) → IsRowGiven row → half_given half row ≡ Some opening → IsOpening opening
    of_half side.Left row one e = subst IsHalf e one.left
    of_half side.Right row one e = subst IsHalf e one.right

    by_row : (o : Option RowGiven) → row_in rows race instance at ≡ o → IsOpening opening
    by_row None e = let no : None ≡ Some opening = sym (ap (option_and_then (half_given on)) e) ∙ is in absurd (none-some opening no)
    by_row (Some row) e = of_half on row (given_row rows race instance at row given e) (sym (ap (option_and_then (half_given on)) e) ∙ is)

-- THE FAULTS

pub stand_known : (posted : Record) (lists : List (List (List ℕ))) (off : RecountFault) → IsStandFault posted lists off → off ≡ fault.NoMemory → ⊥
stand_known posted lists off is same = subst (IsStandFault posted lists) same is

module _ (lines : List (List ℕ)) (posted : Record) (lists : List (List (List ℕ))) (rest : List (List ℕ)) (sheet : IsSheetOf lines posted lists rest) where
  pub stand_off : (off : RecountFault) → IsStandFault posted lists off → HasFault lines off
  stand_off (fault.Stand race instance row) is = (posted, lists, rest, sheet, is)
  stand_off fault.NoMemory is = absurd is
  stand_off (fault.Printing number) is = absurd is
  stand_off (fault.Record number broken) is = absurd is
  stand_off (fault.Completion number) is = absurd is
  stand_off (fault.Opening race instance row) is = absurd is
  stand_off (fault.Posted race instance row) is = absurd is

  abbrev given_by : (rows : List (List (List RowGiven))) → Given
  given_by rows = record { posted = posted; codes = lists; rows = rows }

  is_given : (rows : List (List (List RowGiven))) → HasCompletion posted.plan rest rows → IsGiven lines (given_by rows)
  is_given rows completes = record {
    words = sheet.of_record.accepted.words;
    formed = sheet.of_record.accepted.formed;
    printed = sheet.printed;
    rows = completes.rows_are;
    openings = completes.openings;
    text =
        sym (both_parts lines)
        ∙ (ap (λ (l : List (List ℕ)). l ++ lines_behind lines) sheet.of_record.text
        ∙ ap (λ (l : List (List ℕ)). texts_in posted ++ l) (sheet.text ∙ ap (λ (l : List (List ℕ)). printing_line ∷ (sheet_texts posted.plan lists ++ l)) completes.text));
  }

  pub rest_given : (rows : List (List (List RowGiven))) (parts : Given) → HasCompletion posted.plan rest rows → (parts.posted ≡ posted) × (parts.codes ≡ lists) × (parts.rows ≡ rows) → IsGiven lines parts
  rest_given rows parts completes are = subst (IsGiven lines) same (is_given rows completes)
    where
      same : given_by rows ≡ parts
      same =
          ap (λ (p : Record). let g : Given = record { posted = p; codes = lists; rows = rows } in g) (sym are.0)
          ∙ (ap (λ (l : List (List (List ℕ))). let g : Given = record { posted = parts.posted; codes = l; rows = rows } in g) (sym are.1)
          ∙ ap (λ (r : List (List (List RowGiven))). let g : Given = record { posted = parts.posted; codes = parts.codes; rows = r } in g) (sym are.2))

  pub rows_off : StandsWith posted.plan (places_in posted) (printing_of lists) → (rows : List (List (List RowGiven))) (off : RecountFault) → HasCompletion posted.plan rest rows → IsRowsFault posted rows off → HasFault lines off
  rows_off stands rows (fault.Opening race instance row) completes is = (given_by rows, record { of_record = sheet.of_record; is_given = is_given rows completes; stands = stands; first = is.0 }, is.1)
  rows_off stands rows (fault.Posted race instance row) completes is = (given_by rows, record { of_record = sheet.of_record; is_given = is_given rows completes; stands = stands; first = is.0 }, is.1)
  rows_off stands rows fault.NoMemory completes is = tt
  rows_off stands rows (fault.Printing number) completes is = absurd is
  rows_off stands rows (fault.Record number broken) completes is = absurd is
  rows_off stands rows (fault.Stand race instance row) completes is = absurd is
  rows_off stands rows (fault.Completion number) completes is = absurd is

-- THE SHEET

pub due_few : (plan : Plan) → fault_of plan ≡ None → length (sheet_due plan) ≤ 660000
due_few plan fine =
    let most = bounds plan fine in
    let races : length plan.races + 1 ≤ 33 = omega (arith, most.few_races) in
    let few : length (ballot_styles plan.runs) ≤ 20000 = most.few_ballots in
    let up : length (ballot_styles plan.runs) * (length plan.races + 1) ≤ length (ballot_styles plan.runs) * 33 = mul-le-mul_left (length (ballot_styles plan.runs)) races in
    omega (arith, sheet_few plan fine, up, few)

pub due_long : (plan : Plan) → length (sheet_due plan) ≡ length (sheet_lines plan blank)
due_long plan = sym (length-map (sheet_due plan) (line_due blank)) ∙ ap length (sheet_printed plan blank)
