-- What holds of all parts, where each was found right.
use Rattle.std.proofs.Common.{◌≡◌, ◌≢◌, ℕ, zero, suc, ◌<◌, ◌==◌, Bool, true, false, cond, List, [], ◌∷◌, Option, Some, None, refl, sym, subst, ap, ◌∙◌, arith}
use Rattle.std.specs.List.{list_any}
use Rattle.std.specs.Option.{option_and_then, option_map_or}
use Rattle.std.specs.Prelude.{is_some, slice_get}
use Rattle.std.proofs.lemmas.Bool.{or_parts, true≢false}
use Rattle.std.proofs.lemmas.Option.{none-some, same_Some}
use Rattle.sg_lists.proofs.Lists.{slice_get_there}
use Rattle.sg_lists.proofs.Tests.{All-slice_get, list_any-slice_get}
use Rattle.sg_commit.specs.declared.Opening.{Opening}
use Rattle.sg_forms.specs.declared.line.RowOpening.{RowOpening}
use Rattle.sg_forms.specs.declared.line.RowOpening.TheVariants as opened
use Rattle.sg_plan.specs.Ballots.{candidates_of}
use Rattle.sg_plan.specs.Codes.{codes_of}
use Rattle.sg_plan.specs.declared.plan.Plan.{Plan}
use Rattle.sg_plan.specs.declared.plan.Side.{Side}
use Rattle.sg_grammar.specs.Lines.{IsAmong}
use Rattle.sg_grammar.specs.Placed.Placed.{RowAt}
use Rattle.sg_record.specs.Formed.{has_rows}
use Rattle.sg_record.specs.Places.{places_in}
use Rattle.sg_record.specs.declared.record.Record.{Record}
use Rattle.sg_check.specs.Completions.{IsCompletion, IsHalfOf, OpensNoneTwice, posted_half}
use Rattle.sg_check.specs.Kinds.{has_repeat}
use Rattle.sg_check.specs.Printings.{IsPrinting, IsRowOf, StandsWith}
use Rattle.sg_check.proofs.Rows.{posted_row}
use Rattle.sg_facts.specs.Items.{item_in, row_in}
use Rattle.sg_fronts.proofs.OfRecord.{in_plan}
use Rattle.sg_parts.proofs.Halves.{opens_true, right_true, true_opens, true_right, wrong_is}
use Rattle.sg_parts.specs.Faults.{IsFirstWrong, IsRowRight, StandsAt}
use Rattle.sg_parts.specs.Given.{AreCodes, AreOpenings, AreParts, ArePrinted, IsAccepted, completion_of, printing_of}
use Rattle.sg_parts.specs.declared.checks.At.{At}
use Rattle.sg_parts.specs.declared.parts.RecountFault.TheVariants as fault
use Rattle.sg_parts.specs.declared.parts.RowGiven.{RowGiven}
use Rattle.sg_parts.specs.inside.Checks.{row_opens, row_right}
use Rattle.sg_parts.specs.inside.Reading.{AreRight, IsRowsFault, row_fault}

-- THE PRINTING

any_at : (list : List ℕ) (code at found : ℕ) → list_any (λ other. other == code) list ≡ false → slice_get list at ≡ Some found → found ≢ code
any_at list code at found none is same = true≢false (sym (list_any-slice_get list at code (is ∙ ap Some same)) ∙ none)

differ_at : (list : List ℕ) (at other one two : ℕ) → has_repeat list ≡ false → slice_get list at ≡ Some one → slice_get list other ≡ Some two → at ≢ other → one ≢ two
differ_at [] at other one two none is there apart same = none-some one is
differ_at (x ∷ list) at other one two none is there apart same = by_places at other is there apart
  where
    first : list_any (λ other. other == x) list ≡ false
    first = (or_parts (list_any (λ other. other == x) list) (has_repeat list) none).0

    further : (i j : ℕ) → slice_get list i ≡ Some one → slice_get list j ≡ Some two → i ≢ j → ⊥
    further i j a b c = again list i j (or_parts (list_any (λ other. other == x) list) (has_repeat list) none).1 a b c
      where
        again : (l : List ℕ) (i j : ℕ) → has_repeat l ≡ false → slice_get l i ≡ Some one → slice_get l j ≡ Some two → i ≢ j → ⊥
        again [] i j n a b c = none-some one a
        again (y ∷ l) zero zero n a b c = c refl
        again (y ∷ l) zero (suc j) n a b c = any_at l y j two (or_parts (list_any (λ other. other == y) l) (has_repeat l) n).0 b (sym same ∙ sym (same_Some y one a))
        again (y ∷ l) (suc i) zero n a b c = any_at l y i one (or_parts (list_any (λ other. other == y) l) (has_repeat l) n).0 a (same ∙ sym (same_Some y two b))
        again (y ∷ l) (suc i) (suc j) n a b c = again l i j (or_parts (list_any (λ other. other == y) l) (has_repeat l) n).1 a b (λ e. c (ap suc e))

    by_places : (i j : ℕ) → slice_get (x ∷ list) i ≡ Some one → slice_get (x ∷ list) j ≡ Some two → i ≢ j → ⊥
    by_places zero zero a b c = c refl
    by_places zero (suc j) a b c = any_at list x j two first b (sym same ∙ sym (same_Some x one a))
    by_places (suc i) zero a b c = any_at list x i one first a (same ∙ sym (same_Some x two b))
    by_places (suc i) (suc j) a b c = further i j a b (λ e. c (ap suc e))

module _ (plan : Plan) (lists : List (List (List ℕ))) (printed : ArePrinted plan lists) where
  pub record HasRow (race row : ℕ) : Type 0 where
    pub list : List ℕ
    pub is : item_in lists race row ≡ Some list
    pub are : AreCodes plan race list

  row_there : (race row : ℕ) → IsRowOf plan race row → HasRow race row
  row_there race row within =
      let rows = slice_get_there lists race (omega (arith, within.0, printed.races)) in
      let list = slice_get_there rows.0 row (omega (arith, within.1, printed.rows race rows.0 rows.1)) in
      let is : item_in lists race row ≡ Some list.0 = ap (option_and_then (λ (items : List (List ℕ)). slice_get items row)) rows.1 ∙ list.1 in
      record { list = list.0; is = is; are = printed.codes_are race row list.0 is }

  pub record HasCode (race row candidate : ℕ) (list : List ℕ) : Type 0 where
    pub code : ℕ
    pub at : slice_get list candidate ≡ Some code
    pub is : printing_of lists race row candidate ≡ code

  -- the row's list, looked up as a row of rows
  code_there : (race row candidate : ℕ) (has : HasRow race row) → candidate < candidates_of plan race → HasCode race row candidate has.list
  code_there race row candidate has less =
      let code = slice_get_there has.list candidate (omega (arith, less, has.are.long)) in
      record {
        code = code.0;
        at = code.1;
        is = ap (λ (o : Option ℕ). option_map_or (λ c. c) o 0) (by_race (slice_get lists race) refl ∙ code.1);
      }
    where
      by_race : (o : Option (List (List ℕ))) → slice_get lists race ≡ o → row_in lists race row candidate ≡ slice_get has.list candidate
      by_race None e = let no : None ≡ Some has.list = sym (ap (option_and_then (λ (items : List (List ℕ)). slice_get items row)) e) ∙ has.is in absurd (none_not no)
        where
          none_not : None ≡ Some has.list → ⊥
          none_not d = cc
      by_race (Some rows) e =
          ap (option_and_then (λ (instances : List (List ℕ)). item_in instances row candidate)) e
          ∙ ap (option_and_then (λ (items : List ℕ). slice_get items candidate)) (sym (ap (option_and_then (λ (items : List (List ℕ)). slice_get items row)) e) ∙ has.is)

  pub is_printing : IsPrinting plan (printing_of lists)
  is_printing = record {
    below = λ race row candidate within less.
        let has = row_there race row within in
        let code = code_there race row candidate has less in
        subst (λ c. c < codes_of plan.version) (sym code.is) (All-slice_get (λ c. c < codes_of plan.version) has.list candidate code.code has.are.below code.at);
    differ = λ race row candidate other within less also apart same.
        let has = row_there race row within in
        let one = code_there race row candidate has less in
        let two = code_there race row other has also in
        differ_at has.list candidate other one.code two.code has.are.differ one.at two.at apart (sym one.is ∙ (same ∙ two.is));
  }

-- THE RECORD

module _ (posted : Record) (accepted : IsAccepted posted) where
  -- the printing stands with the record where it does at each row
  pub stands_all : (lists : List (List (List ℕ))) → ((race instance row : ℕ) → IsHalfOf posted.plan race instance row → StandsAt posted.plan (places_in posted) (printing_of lists) race instance row)
      → StandsWith posted.plan (places_in posted) (printing_of lists)
  stands_all lists at race instance row left right block ballot column code among shown entry_is =
      at race instance row (row_within race instance row (opened.Both left right) among) left right block ballot column code among shown entry_is
    where
      row_within : (race instance row : ℕ) (opening : RowOpening) → IsAmong (places_in posted) (RowAt race instance row opening) → IsHalfOf posted.plan race instance row
      row_within race instance row opening is = (in_plan posted accepted.words accepted.formed (RowAt race instance row opening) is).placed

  row_of : (on : Side) (race instance row : ℕ) (o : Opening) → posted_half (places_in posted) on race instance row ≡ Some o → IsHalfOf posted.plan race instance row
  row_of on race instance row o is =
      let found = posted_row (places_in posted) on race instance row o is in
      (in_plan posted accepted.words accepted.formed (RowAt race instance row found.0) found.1).placed

  none_twice : (rows : List (List (List RowGiven))) → AreRight posted rows → OpensNoneTwice (places_in posted) (completion_of rows)
  none_twice rows right on race instance row o is = (right race instance row (row_of on race instance row o is)).keeps on o is

  completes : (rows : List (List (List RowGiven))) → AreOpenings rows → AreRight posted rows → IsCompletion posted.plan (places_in posted) (completion_of rows)
  completes rows openings right = record {
    is_opening = λ on race instance row opening within is. openings on race instance row opening is;
    opens = λ on race instance row opening within is. (right race instance row within).opens on opening is;
    has = λ on race instance row is. by_half on race instance row (posted_half (places_in posted) on race instance row) refl is;
  }
    where
      by_half : (on : Side) (race instance row : ℕ) (o : Option Opening) → posted_half (places_in posted) on race instance row ≡ o → is_some o ≡ true → is_some (completion_of rows on race instance row) ≡ true
      by_half on race instance row None e d = cc
      by_half on race instance row (Some opening) e d = ap is_some (none_twice rows right on race instance row opening e)

  pub are_parts : (lists : List (List (List ℕ))) (rows : List (List (List RowGiven))) → ArePrinted posted.plan lists → StandsWith posted.plan (places_in posted) (printing_of lists) → has_rows posted.plan rows ≡ true → AreOpenings rows
      → AreRight posted rows → AreParts (record { posted = posted; codes = lists; rows = rows })
  are_parts lists rows printed stands long openings right = record {
    accepted = accepted;
    printed = printed;
    rows = long;
    is_printing = is_printing posted.plan lists printed;
    stands = stands;
    completes = completes rows openings right;
    none_twice = none_twice rows right;
  }

-- THE FIRST ROW THAT ISN'T RIGHT

pub rows_fault : (posted : Record) (rows : List (List (List RowGiven))) (at : At) → IsFirstWrong posted.plan (λ r i x. row_right posted rows r i x ≡ true) at.race at.instance at.row → IsRowsFault posted rows (row_fault posted rows at)
rows_fault posted rows at first = by_opens (row_opens posted rows at.race at.instance at.row) refl
  where
    wrong_row : IsFirstWrong posted.plan (IsRowRight (places_in posted) (completion_of rows)) at.race at.instance at.row
    wrong_row =
        wrong_is posted.plan (row_right posted rows) (IsRowRight (places_in posted) (completion_of rows)) at.race at.instance at.row (λ r i x less passes. right_true posted rows r i x passes)
        (λ r i x less fails right. true≢false (sym (true_right posted rows r i x right) ∙ fails)) first

    by_opens : (b : Bool) → row_opens posted rows at.race at.instance at.row ≡ b → IsRowsFault posted rows (row_fault posted rows at)
    by_opens true e =
        subst (λ (b : Bool). IsRowsFault posted rows (cond b (fault.Posted at.race at.instance at.row) (fault.Opening at.race at.instance at.row))) (sym e)
        (wrong_row, opens_true posted rows at.race at.instance at.row e)
    by_opens false e =
        subst (λ (b : Bool). IsRowsFault posted rows (cond b (fault.Posted at.race at.instance at.row) (fault.Opening at.race at.instance at.row))) (sym e)
        (wrong_row, λ opens. true≢false (sym (true_opens posted rows at.race at.instance at.row opens) ∙ e))
