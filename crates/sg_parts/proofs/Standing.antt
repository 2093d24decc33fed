-- The printing stands with the record where each row that is opened on both sides does.
use Rattle.std.proofs.Common.{◌≡◌, ℕ, ◌/◌, ◌%◌, ◌<◌, ◌==◌, ◌⊎◌, Bool, true, false, ◌&&◌, cond, inl, inr, List, length, Option, Some, None, refl, sym, subst, ap, ◌∙◌}
use Rattle.std.specs.Option.{is_none, option_and_then, option_map_or}
use Rattle.std.proofs.lemmas.Bool.{and_parts, eq-eqb, eqb-true, true≢false}
use Rattle.std.proofs.lemmas.Option.{none-some, same_Some}
use Rattle.sg_commit.specs.declared.Opening.{Opening}
use Rattle.sg_plan.proofs.PlanLaws.{ballot_one, entry_tells}
use Rattle.sg_plan.specs.Ballots.{IsBallotOf, candidates_of, entries_of, entry_at}
use Rattle.sg_plan.specs.declared.plan.Plan.{Plan}
use Rattle.sg_plan.specs.declared.plan.Side.{Side}
use Rattle.sg_plan.specs.declared.plan.Side.TheVariants as side
use Rattle.sg_forms.specs.declared.line.CodeLine.{CodeLine}
use Rattle.sg_forms.specs.declared.line.RowOpening.{RowOpening}
use Rattle.sg_forms.specs.declared.line.RowOpening.TheVariants as opened
use Rattle.sg_grammar.specs.Lines.{IsAmong}
use Rattle.sg_grammar.specs.Placed.{Placed}
use Rattle.sg_grammar.specs.Placed.Placed.{CodeAt, RowAt}
use Rattle.sg_grammar.specs.declared.state.Block.{Block}
use Rattle.sg_record.specs.Places.{places_in}
use Rattle.sg_record.specs.declared.record.Record.{Record}
use Rattle.sg_check.proofs.BoundLaws.{given_there}
use Rattle.sg_check.proofs.Rows.{among_cases, first_given-some, one_row, posted_row}
use Rattle.sg_check.specs.Completions.{posted_half, posts_half}
use Rattle.sg_check.specs.Facts.{first_given, known_code, shows_code, opened_on}
use Rattle.sg_check.specs.Laws.{IsBefore}
use Rattle.sg_facts.proofs.Facts.{are_listed}
use Rattle.sg_facts.specs.Items.{item_in, row_in}
use Rattle.sg_facts.specs.Tables.{HasTable}
use Rattle.sg_parts.specs.Faults.{StandsAt}
use Rattle.sg_parts.specs.Given.{IsAccepted, printing_of}
use Rattle.sg_parts.specs.inside.Checks.{both_in, both_stand, code_stands, row_stands}
use Rattle.sg_fronts.proofs.OfRecord.{apart, in_plan}
use Rattle.sg_parts.proofs.Accepting.{known_once, pointers_once}

-- a value that one of the lines gives
given_some : {B : Type 0} (given : Placed → Option B) (lines : List Placed) (x : Placed) → IsAmong lines x → is_none (given x) ≡ false → (v : B) × (first_given given lines ≡ Some v)
given_some {B} given lines x (front, rest, is) there = at_found (first_given given lines) refl (subst (λ (l : List Placed). is_none (first_given given l) ≡ false) (sym is) (given_there given front rest x there))
  where
    at_found : (o : Option B) → first_given given lines ≡ o → is_none (first_given given lines) ≡ false → (v : B) × (first_given given lines ≡ Some v)
    at_found (Some v) e d = (v, e)
    at_found None e d = let both : true ≡ false = sym (ap is_none e) ∙ d in cc

module _ (posted : Record) (accepted : IsAccepted posted) where
  abbrev plan : Plan
  plan = posted.plan

  abbrev lines : List Placed
  lines = places_in posted

  -- THE LINE OF A ROW

  posts_there : (on : Side) (race instance row : ℕ) (opening : RowOpening) (o : Opening) → opened_on on opening ≡ Some o → posts_half on race instance row (RowAt race instance row opening) ≡ Some o
  posts_there on race instance row opening o is = rw (eq-eqb race race refl, eq-eqb instance instance refl, eq-eqb row row refl) is

  -- a half that a row's line opens is posted
  pub posted_is : (on : Side) (race instance row : ℕ) (opening : RowOpening) (o : Opening) → IsAmong lines (RowAt race instance row opening) → opened_on on opening ≡ Some o → posted_half lines on race instance row ≡ Some o
  posted_is on race instance row opening o among is =
      let found = given_some (posts_half on race instance row) lines (RowAt race instance row opening) among (ap is_none (posts_there on race instance row opening o is)) in
      let at = posted_row lines on race instance row found.0 found.1 in
      let same = one_row lines race instance row at.0 opening (apart posted accepted.words accepted.formed) at.1 among in
      found.1 ∙ (sym at.2 ∙ (ap (opened_on on) same ∙ is))

  both_of : (opening : RowOpening) (left right : Opening) → opened_on side.Left opening ≡ Some left → opened_on side.Right opening ≡ Some right → opening ≡ opened.Both left right
  both_of (opened.Left o) left right e d = cc
  both_of (opened.Right o) left right e d = cc
  both_of (opened.Both l r) left right e d = rw (same_Some l left e, same_Some r right d) refl

  -- the list's row is that of the line
  listed_both : (race instance row : ℕ) (left right : Opening) → IsAmong lines (RowAt race instance row (opened.Both left right)) → row_in posted.rows race instance row ≡ Some (opened.Both left right)
  listed_both race instance row left right among =
      by_row (row_in posted.rows race instance row) refl
      (sym ((are_listed posted).half side.Left race instance row) ∙ posted_is side.Left race instance row (opened.Both left right) left among refl)
      (sym ((are_listed posted).half side.Right race instance row) ∙ posted_is side.Right race instance row (opened.Both left right) right among refl)
    where
      by_row : (o : Option RowOpening) → row_in posted.rows race instance row ≡ o → option_and_then (opened_on side.Left) (row_in posted.rows race instance row) ≡ Some left
          → option_and_then (opened_on side.Right) (row_in posted.rows race instance row) ≡ Some right → row_in posted.rows race instance row ≡ Some (opened.Both left right)
      by_row None e a b = let no : None ≡ Some left = sym (ap (option_and_then (opened_on side.Left)) e) ∙ a in cc
      by_row (Some opening) e a b =
          e ∙ ap (λ (o : RowOpening). Some o)
          (both_of opening left right (sym (ap (option_and_then (opened_on side.Left)) e) ∙ a) (sym (ap (option_and_then (opened_on side.Right)) e) ∙ b))

  -- and a line is that of the list's row
  line_both : (race instance row : ℕ) (left right : Opening) → row_in posted.rows race instance row ≡ Some (opened.Both left right) → IsAmong lines (RowAt race instance row (opened.Both left right))
  line_both race instance row left right is =
      let on_left = posted_row lines side.Left race instance row left ((are_listed posted).half side.Left race instance row ∙ ap (option_and_then (opened_on side.Left)) is) in
      let on_right = posted_row lines side.Right race instance row right ((are_listed posted).half side.Right race instance row ∙ ap (option_and_then (opened_on side.Right)) is) in
      let same = one_row lines race instance row on_left.0 on_right.0 (apart posted accepted.words accepted.formed) on_left.1 on_right.1 in
      let both = both_of on_left.0 left right on_left.2 (ap (opened_on side.Right) same ∙ on_right.2) in
      subst (λ (o : RowOpening). IsAmong lines (RowAt race instance row o)) both on_left.1

  -- THE CODE OF AN ENTRY

  shows_there : (race entry : ℕ) (block : Block) (ballot column : ℕ) (code : CodeLine) → entry_at plan race ballot column ≡ entry → shows_code plan race entry (CodeAt block ballot race column code) ≡ Some code.code
  shows_there race entry block ballot column code is = rw (eq-eqb race race refl, eq-eqb (entry_at plan race ballot column) entry is) refl

  pub record ShowsCode (race entry shown : ℕ) : Type 0 where
    pub block : Block
    pub ballot : ℕ
    pub column : ℕ
    pub code : CodeLine
    pub among : IsAmong lines (CodeAt block ballot race column code)
    pub entry_is : entry_at plan race ballot column ≡ entry
    pub code_is : code.code ≡ shown

  shown_by : (race entry shown : ℕ) → known_code plan race entry lines ≡ Some shown → ShowsCode race entry shown
  shown_by race entry shown e =
      let found = first_given-some (shows_code plan race entry) lines shown e in
      at_line found.0 found.1 found.2
    where
      at_line : (line : Placed) → IsAmong lines line → shows_code plan race entry line ≡ Some shown → ShowsCode race entry shown
      at_line (CodeAt block ballot of column code) among gives = by_test (of == race && entry_at plan of ballot column == entry) refl
        where
          by_test : (b : Bool) → (of == race && entry_at plan of ballot column == entry) ≡ b → ShowsCode race entry shown
          by_test false fails = absurd (none-some shown (sym (ap (λ (b : Bool). cond b (Some code.code) None) fails) ∙ gives))
          by_test true passes =
              let parts = and_parts (of == race) (entry_at plan of ballot column == entry) passes in
              let race_is = eqb-true of race parts.0 in
              record {
                block = block;
                ballot = ballot;
                column = column;
                code = code;
                among = subst (λ r. IsAmong lines (CodeAt block ballot r column code)) race_is among;
                entry_is = subst (λ r. entry_at plan r ballot column ≡ entry) race_is (eqb-true (entry_at plan of ballot column) entry parts.1);
                code_is = same_Some code.code shown (sym (ap (λ (b : Bool). cond b (Some code.code) None) passes) ∙ gives);
              }
      at_line line among gives = cc

  -- two lines that show the code of one entry show one code
  same_code : (race : ℕ) (block other_block : Block) (ballot other_ballot column other_column : ℕ) (code other : CodeLine) → IsAmong lines (CodeAt block ballot race column code)
      → IsAmong lines (CodeAt other_block other_ballot race other_column other) → entry_at plan race ballot column ≡ entry_at plan race other_ballot other_column → code.code ≡ other.code
  same_code race block other_block ballot other_ballot column other_column code other among there same =
      let one = (in_plan posted accepted.words accepted.formed (CodeAt block ballot race column code) among).placed in
      let two = (in_plan posted accepted.words accepted.formed (CodeAt other_block other_ballot race other_column other) there).placed in
      let tells = entry_tells plan race ballot column one.3 one.4 in
      let tells' = entry_tells plan race other_ballot other_column two.3 two.4 in
      let ballots : ballot ≡ other_ballot
      = ballot_one plan race (entry_at plan race ballot column) ballot other_ballot tells.ballot_is (subst (λ e. IsBallotOf plan race e other_ballot) (sym same) tells'.ballot_is) in
      let columns : column ≡ other_column = sym tells.column_is ∙ (ap (λ e. e % candidates_of plan race) same ∙ tells'.column_is) in
      at_order ballots columns there (among_cases lines (CodeAt block ballot race column code) (CodeAt other_block other_ballot race other_column other) among there)
    where
      at_order : ballot ≡ other_ballot → column ≡ other_column → IsAmong lines (CodeAt other_block other_ballot race other_column other)
          → (CodeAt block ballot race column code ≡ CodeAt other_block other_ballot race other_column other)
          ⊎ (IsBefore lines (CodeAt block ballot race column code) (CodeAt other_block other_ballot race other_column other)
          ⊎ IsBefore lines (CodeAt other_block other_ballot race other_column other) (CodeAt block ballot race column code)) → code.code ≡ other.code
      at_order b c t (inl one) = of_line one
        where
          of_line : CodeAt block ballot race column code ≡ CodeAt other_block other_ballot race other_column other → code.code ≡ other.code
          of_line e = cc
      at_order b c t (inr (inl before)) =
          (known_once posted accepted).same block other_block ballot race column code other
          (subst (λ k. IsBefore lines (CodeAt block ballot race column code) (CodeAt other_block ballot race k other)) (sym c)
          (subst (λ k. IsBefore lines (CodeAt block ballot race column code) (CodeAt other_block k race other_column other)) (sym b) before))
      at_order b c t (inr (inr before)) =
          sym ((known_once posted accepted).same other_block block ballot race column other code
          (subst (λ k. IsBefore lines (CodeAt other_block ballot race k other) (CodeAt block ballot race column code)) (sym c)
          (subst (λ k. IsBefore lines (CodeAt other_block k race other_column other) (CodeAt block ballot race column code)) (sym b) before)))

  -- ROWS

  module _ (known : List (List (Option ℕ))) (lists : List (List (List ℕ))) (table : HasTable plan known (λ race entry. known_code plan race entry lines)) (race instance row : ℕ) where
    -- where the test passes, the row stands
    pub stands_there : row_stands plan posted known lists race instance row ≡ true → StandsAt plan lines (printing_of lists) race instance row
    stands_there passes = λ left right block ballot column code among shown entry_is.
        let where_it = (in_plan posted accepted.words accepted.formed (CodeAt block ballot race column code) shown).placed in
        let tells = entry_tells plan race ballot column where_it.3 where_it.4 in
        let below : left.value < entries_of plan race = subst (λ e. e < entries_of plan race) entry_is tells.below in
        let found = given_some (shows_code plan race left.value) lines (CodeAt block ballot race column code) shown (ap is_none (shows_there race left.value block ballot column code entry_is)) in
        let other = shown_by race left.value found.0 found.1 in
        let same : other.code.code ≡ code.code = same_code race other.block block other.ballot ballot other.column column other.code code other.among shown (other.entry_is ∙ sym entry_is) in
        let kept : item_in known race left.value ≡ Some (Some code.code)
        = table race left.value where_it.0 below ∙ ap (λ (o : Option ℕ). Some o) (found.1 ∙ ap (λ (k : ℕ). Some k) (sym other.code_is ∙ same)) in
        let here : row_stands plan posted known lists race instance row ≡ code_stands plan lists race (left, right) code.code
        = ap (λ (o : Option RowOpening). option_map_or (both_stand plan known lists race) (option_and_then both_in o) true) (listed_both race instance row left right among)
        ∙ ap (λ (o : Option (Option ℕ)). option_map_or (code_stands plan lists race (left, right)) (option_map_or (λ k. k) o None) true) kept in
        eqb-true (printing_of lists race (left.value / candidates_of plan race) (right.value % candidates_of plan race)) code.code (sym here ∙ passes)

    -- and where it fails, it doesn't
    pub stands_not : race < length plan.races → row_stands plan posted known lists race instance row ≡ false
        → StandsAt plan lines (printing_of lists) race instance row → ⊥
    stands_not within fails stands = by_row (option_and_then both_in (row_in posted.rows race instance row)) refl
      where
        printed : Opening × Opening → ℕ
        printed both = printing_of lists race (both.0.value / candidates_of plan race) (both.1.value % candidates_of plan race)

        is_both : (o : Option RowOpening) (both : Opening × Opening) → option_and_then both_in o ≡ Some both → o ≡ Some (opened.Both both.0 both.1)
        is_both None both e = cc
        is_both (Some (opened.Left x)) both e = cc
        is_both (Some (opened.Right x)) both e = cc
        is_both (Some (opened.Both l r)) both e = ap (λ (p : Opening × Opening). Some (opened.Both p.0 p.1)) (same_Some (l, r) both e)

        by_code : (both : Opening × Opening) → option_and_then both_in (row_in posted.rows race instance row) ≡ Some both → (o : Option (Option ℕ)) → item_in known race both.0.value ≡ o → ⊥
        by_code both e None d = let no : true ≡ false = sym (ap (λ (x : Option (Opening × Opening)). option_map_or (both_stand plan known lists race) x true) e ∙ ap (λ (x : Option (Option ℕ)). option_map_or (code_stands plan lists race both) (option_map_or (λ k. k) x None) true) d) ∙ fails in cc
        by_code both e (Some None) d = let no : true ≡ false = sym (ap (λ (x : Option (Opening × Opening)). option_map_or (both_stand plan known lists race) x true) e ∙ ap (λ (x : Option (Option ℕ)). option_map_or (code_stands plan lists race both) (option_map_or (λ k. k) x None) true) d) ∙ fails in cc
        by_code both e (Some (Some code)) d =
            let among = line_both race instance row both.0 both.1 (is_both (row_in posted.rows race instance row) both e) in
            let below = (pointers_once posted accepted).left_below race instance row (opened.Both both.0 both.1) both.0 among refl in
            let kept : known_code plan race both.0.value lines ≡ Some code = same_Some (known_code plan race both.0.value lines) (Some code) (sym (table race both.0.value within below) ∙ d) in
            let shows = shown_by race both.0.value code kept in
            let printed_is = stands both.0 both.1 shows.block shows.ballot shows.column shows.code among shows.among shows.entry_is in
            let here : (printed both == code) ≡ false
            = sym (ap (λ (x : Option (Opening × Opening)). option_map_or (both_stand plan known lists race) x true) e ∙ ap (λ (x : Option (Option ℕ)). option_map_or (code_stands plan lists race both) (option_map_or (λ k. k) x None) true) d) ∙ fails in
            true≢false (sym (eq-eqb (printed both) code (printed_is ∙ shows.code_is)) ∙ here)

        by_row : (o : Option (Opening × Opening)) → option_and_then both_in (row_in posted.rows race instance row) ≡ o → ⊥
        by_row None e = let no : true ≡ false = sym (ap (λ (x : Option (Opening × Opening)). option_map_or (both_stand plan known lists race) x true) e) ∙ fails in cc
        by_row (Some both) e = by_code both e (item_in known race both.0.value) refl
