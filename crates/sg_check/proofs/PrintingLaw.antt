-- An accepted record has a printing: the codes that are known and led somewhere stand where they are led to, and unused
-- codes stand beside the other candidates.
use Rattle.std.proofs.Common.{◌≡◌, ◌≢◌, ℕ, ◌+◌, ◌/◌, ◌%◌, ◌<◌, ◌≤◌, ◌==◌, ◌⊎◌, Bool, true, false, ◌&&◌, cond, inl, inr, List, Option, Some, None, refl, sym, subst, ap, ◌∙◌, arith}
use Rattle.std.specs.Option.{is_none}
use Rattle.std.proofs.lemmas.Bool.{and_parts, cases_eq, eq-eqb, eqb-true, ne_eqb, or_cases}
use Rattle.std.proofs.lemmas.Option.{none-some, same_Some}
use Rattle.sg_commit.specs.declared.Opening.{Opening}
use Rattle.sg_forms.specs.declared.line.CodeLine.{CodeLine}
use Rattle.sg_forms.specs.declared.line.RowOpening.{RowOpening}
use Rattle.sg_forms.specs.declared.line.RowOpening.TheVariants as opened
use Rattle.sg_plan.proofs.PlanLaws.{entry_tells, rows_are_one}
use Rattle.sg_plan.specs.Ballots.{candidates_of, entry_at}
use Rattle.sg_plan.specs.Codes.{codes_of}
use Rattle.sg_plan.specs.Limits.{is_version}
use Rattle.sg_plan.specs.declared.plan.Plan.{Plan}
use Rattle.sg_grammar.specs.Lines.{IsAmong}
use Rattle.sg_grammar.specs.Parting.{IsLineIn}
use Rattle.sg_grammar.specs.Placed.{Placed}
use Rattle.sg_grammar.specs.Placed.Placed.{CodeAt, RowAt}
use Rattle.sg_grammar.specs.declared.state.Block.{Block}
use Rattle.sg_check.specs.Facts.{first_given, known_code, shows_code}
use Rattle.sg_check.specs.Laws.{AreCodesKnown, DoPathsAgree, IsBefore}
use Rattle.sg_check.proofs.BoundLaws.{given_there}
use Rattle.sg_check.proofs.Choosing.{chosen, chosen_below, chosen_differ, chosen_is}
use Rattle.sg_check.proofs.Rows.{among_cases, first_given-some}
use Rattle.sg_check.specs.Bounds.{HasPrinting}
use Rattle.sg_check.specs.Printings.{Printing, StandsWith}

-- THE CODES THAT A RECORD PLACES

-- the opened row leads an entry of the ballot row to the candidate: the code that is known of the entry
abbrev code_led : Plan → List Placed → ℕ → ℕ → ℕ → RowOpening → Option ℕ
code_led plan lines race row candidate (opened.Both left right) =
    cond (left.value / candidates_of plan race == row && right.value % candidates_of plan race == candidate) (known_code plan race left.value lines) None
code_led plan lines race row candidate (opened.Left left) = None
code_led plan lines race row candidate (opened.Right right) = None

abbrev leads_code : Plan → List Placed → ℕ → ℕ → ℕ → Placed → Option ℕ
leads_code plan lines race row candidate (RowAt of instance at opening) = cond (of == race) (code_led plan lines race row candidate opening) None
leads_code plan lines race row candidate line = None

-- the code that the record places beside the candidate in the ballot row
abbrev placed_code : Plan → List Placed → ℕ → ℕ → ℕ → Option ℕ
placed_code plan lines race row candidate = first_given (leads_code plan lines race row candidate) lines

-- a row and a code line that place the code so
record Places (plan : Plan) (lines : List Placed) (race row candidate shown : ℕ) : Type 0 where
  instance : ℕ
  at : ℕ
  left : Opening
  right : Opening
  block : Block
  ballot : ℕ
  column : ℕ
  code : CodeLine
  among : IsAmong lines (RowAt race instance at (opened.Both left right))
  row_is : left.value / candidates_of plan race ≡ row
  candidate_is : right.value % candidates_of plan race ≡ candidate
  code_there : IsAmong lines (CodeAt block ballot race column code)
  entry_is : entry_at plan race ballot column ≡ left.value
  code_is : code.code ≡ shown

-- the line of a known code
record Shows (plan : Plan) (lines : List Placed) (race entry shown : ℕ) : Type 0 where
  block : Block
  ballot : ℕ
  column : ℕ
  code : CodeLine
  among : IsAmong lines (CodeAt block ballot race column code)
  entry_is : entry_at plan race ballot column ≡ entry
  code_is : code.code ≡ shown

shows : (plan : Plan) (lines : List Placed) (race entry shown : ℕ) → known_code plan race entry lines ≡ Some shown → Shows plan lines race entry shown
shows plan lines race entry shown e =
    let found = first_given-some (shows_code plan race entry) lines shown e in
    at_line found.0 found.1 found.2
  where
    at_line : (line : Placed) → IsAmong lines line → shows_code plan race entry line ≡ Some shown → Shows plan lines race entry shown
    at_line (CodeAt block ballot of column code) among gives = by_test (of == race && entry_at plan of ballot column == entry) refl
      where
        by_test : (b : Bool) → (of == race && entry_at plan of ballot column == entry) ≡ b → Shows plan lines race entry shown
        by_test false fails = absurd (none-some shown (sym (ap (λ (b : Bool). cond b (Some code.code) None) fails) ∙ gives))
        by_test true passes =
            let inner = and_parts (of == race) (entry_at plan of ballot column == entry) passes in
            let race_is = eqb-true of race inner.0 in
            record {
              block = block;
              ballot = ballot;
              column = column;
              code = code;
              among = subst (λ r. IsAmong lines (CodeAt block ballot r column code)) race_is among;
              entry_is = subst (λ r. entry_at plan r ballot column ≡ entry) race_is (eqb-true (entry_at plan of ballot column) entry inner.1);
              code_is = same_Some code.code shown (sym (ap (λ (b : Bool). cond b (Some code.code) None) passes) ∙ gives);
            }
    at_line line among gives = cc

places : (plan : Plan) (lines : List Placed) (race row candidate shown : ℕ) → placed_code plan lines race row candidate ≡ Some shown → Places plan lines race row candidate shown
places plan lines race row candidate shown e =
    let found = first_given-some (leads_code plan lines race row candidate) lines shown e in
    at_line found.0 found.1 found.2
  where
    at_both : (instance at : ℕ) (left right : Opening) → IsAmong lines (RowAt race instance at (opened.Both left right)) → code_led plan lines race row candidate (opened.Both left right) ≡ Some shown
        → Places plan lines race row candidate shown
    at_both instance at left right among gives = by_test (left.value / candidates_of plan race == row && right.value % candidates_of plan race == candidate) refl
      where
        by_test : (b : Bool) → (left.value / candidates_of plan race == row && right.value % candidates_of plan race == candidate) ≡ b → Places plan lines race row candidate shown
        by_test false fails = absurd (none-some shown (sym (ap (λ (b : Bool). cond b (known_code plan race left.value lines) None) fails) ∙ gives))
        by_test true passes =
            let parts = and_parts (left.value / candidates_of plan race == row) (right.value % candidates_of plan race == candidate) passes in
            let code = shows plan lines race left.value shown (sym (ap (λ (b : Bool). cond b (known_code plan race left.value lines) None) passes) ∙ gives) in
            record {
              instance = instance;
              at = at;
              left = left;
              right = right;
              block = code.block;
              ballot = code.ballot;
              column = code.column;
              code = code.code;
              among = among;
              row_is = eqb-true (left.value / candidates_of plan race) row parts.0;
              candidate_is = eqb-true (right.value % candidates_of plan race) candidate parts.1;
              code_there = code.among;
              entry_is = code.entry_is;
              code_is = code.code_is;
            }

    at_opening : (instance at : ℕ) (opening : RowOpening) → IsAmong lines (RowAt race instance at opening) → code_led plan lines race row candidate opening ≡ Some shown → Places plan lines race row candidate shown
    at_opening instance at (opened.Both left right) among gives = at_both instance at left right among gives
    at_opening instance at (opened.Left left) among gives = cc
    at_opening instance at (opened.Right right) among gives = cc

    at_line : (line : Placed) → IsAmong lines line → leads_code plan lines race row candidate line ≡ Some shown → Places plan lines race row candidate shown
    at_line (RowAt of instance at opening) among gives = elim (cases_eq of race) [
      | inl same ↦
          at_opening instance at opening (subst (λ r. IsAmong lines (RowAt r instance at opening)) same among)
          (sym (ap (λ (b : Bool). cond b (code_led plan lines race row candidate opening) None) (eq-eqb of race same)) ∙ gives)
      | inr other ↦ absurd (none-some shown (sym (ap (λ (b : Bool). cond b (code_led plan lines race row candidate opening) None) (ne_eqb of race other)) ∙ gives))
    ]
    at_line line among gives = cc

-- such a row and such a code line are found
is_placed : (plan : Plan) (lines : List Placed) (race instance at : ℕ) (left right : Opening) (block : Block) (ballot column : ℕ) (code : CodeLine)
    → IsAmong lines (RowAt race instance at (opened.Both left right)) → IsAmong lines (CodeAt block ballot race column code) → entry_at plan race ballot column ≡ left.value
    → is_none (placed_code plan lines race (left.value / candidates_of plan race) (right.value % candidates_of plan race)) ≡ false
is_placed plan lines race instance at left right block ballot column code (front, rest, is) (others, more, there) entry =
    subst (λ (l : List Placed). is_none (first_given (leads_code plan lines race row candidate) l) ≡ false) (sym is)
    (given_there (leads_code plan lines race row candidate) front rest (RowAt race instance at (opened.Both left right))
    (rw (eq-eqb race race refl, eq-eqb row row refl, eq-eqb candidate candidate refl) known))
  where
    row : ℕ
    row = left.value / candidates_of plan race

    candidate : ℕ
    candidate = right.value % candidates_of plan race

    known : is_none (known_code plan race left.value lines) ≡ false
    known =
        subst (λ (l : List Placed). is_none (first_given (shows_code plan race left.value) l) ≡ false) (sym there)
        (given_there (shows_code plan race left.value) others more (CodeAt block ballot race column code) (rw (eq-eqb race race refl, eq-eqb (entry_at plan race ballot column) left.value entry) refl))

-- WHAT THEY SAY OF ONE ANOTHER

module _ (plan : Plan) (lines : List Placed) (codes : AreCodesKnown plan lines) (paths : DoPathsAgree plan lines) (within : (line : Placed) → IsAmong lines line → IsLineIn plan line) where
  code_same : (a b : Block) (ballot race column : ℕ) (c d : CodeLine) → IsAmong lines (CodeAt a ballot race column c) → IsAmong lines (CodeAt b ballot race column d) → c.code ≡ d.code
  code_same a b ballot race column c d one two = at_case (among_cases lines (CodeAt a ballot race column c) (CodeAt b ballot race column d) one two)
    where
      code_of : {x y : Block} {p q : CodeLine} → CodeAt x ballot race column p ≡ CodeAt y ballot race column q → p ≡ q
      code_of e = cc

      at_case : (CodeAt a ballot race column c ≡ CodeAt b ballot race column d)
          ⊎ (IsBefore lines (CodeAt a ballot race column c) (CodeAt b ballot race column d) ⊎ IsBefore lines (CodeAt b ballot race column d) (CodeAt a ballot race column c)) → c.code ≡ d.code
      at_case (inl line) = ap (λ (x : CodeLine). x.code) (code_of line)
      at_case (inr (inl before)) = codes.same a b ballot race column c d before
      at_case (inr (inr before)) = sym (codes.same b a ballot race column d c before)

  code_differ : (a b : Block) (ballot race column other : ℕ) (c d : CodeLine) → IsAmong lines (CodeAt a ballot race column c) → IsAmong lines (CodeAt b ballot race other d) → column ≢ other → c.code ≢ d.code
  code_differ a b ballot race column other c d one two apart same = at_case (among_cases lines (CodeAt a ballot race column c) (CodeAt b ballot race other d) one two)
    where
      column_of : {x y : Block} {i j : ℕ} {p q : CodeLine} → CodeAt x ballot race i p ≡ CodeAt y ballot race j q → i ≡ j
      column_of e = cc

      at_case : (CodeAt a ballot race column c ≡ CodeAt b ballot race other d)
          ⊎ (IsBefore lines (CodeAt a ballot race column c) (CodeAt b ballot race other d) ⊎ IsBefore lines (CodeAt b ballot race other d) (CodeAt a ballot race column c)) → ⊥
      at_case (inl line) = apart (column_of line)
      at_case (inr (inl before)) = codes.differ a b ballot race column other c d before apart same
      at_case (inr (inr before)) = codes.differ b a ballot race other column d c before (λ e. apart (sym e)) (sym same)

  module _ (race : ℕ) where
    abbrev many : ℕ
    many = candidates_of plan race

    lefts_of : {i j x y : ℕ} {l r p q : Opening} → RowAt race i x (opened.Both l r) ≡ RowAt race j y (opened.Both p q) → l ≡ p
    lefts_of e = cc

    rights_of : {i j x y : ℕ} {l r p q : Opening} → RowAt race i x (opened.Both l r) ≡ RowAt race j y (opened.Both p q) → r ≡ q
    rights_of e = cc

    path_same : (i x j y : ℕ) (l r p q : Opening) → IsAmong lines (RowAt race i x (opened.Both l r)) → IsAmong lines (RowAt race j y (opened.Both p q)) → l.value ≡ p.value → r.value ≡ q.value
    path_same i x j y l r p q one two same = at_case (among_cases lines (RowAt race i x (opened.Both l r)) (RowAt race j y (opened.Both p q)) one two)
      where
        at_case : (RowAt race i x (opened.Both l r) ≡ RowAt race j y (opened.Both p q))
            ⊎ (IsBefore lines (RowAt race i x (opened.Both l r)) (RowAt race j y (opened.Both p q)) ⊎ IsBefore lines (RowAt race j y (opened.Both p q)) (RowAt race i x (opened.Both l r))) → r.value ≡ q.value
        at_case (inl line) = ap (λ (o : Opening). o.value) (rights_of line)
        at_case (inr (inl before)) = paths.same race i x j y l r p q before same
        at_case (inr (inr before)) = sym (paths.same race j y i x p q l r before (sym same))

    path_differ : (i x j y : ℕ) (l r p q : Opening) → IsAmong lines (RowAt race i x (opened.Both l r)) → IsAmong lines (RowAt race j y (opened.Both p q)) → l.value ≢ p.value
        → l.value / many ≡ p.value / many → r.value % many ≢ q.value % many
    path_differ i x j y l r p q one two apart row same = at_case (among_cases lines (RowAt race i x (opened.Both l r)) (RowAt race j y (opened.Both p q)) one two)
      where
        at_case : (RowAt race i x (opened.Both l r) ≡ RowAt race j y (opened.Both p q))
            ⊎ (IsBefore lines (RowAt race i x (opened.Both l r)) (RowAt race j y (opened.Both p q)) ⊎ IsBefore lines (RowAt race j y (opened.Both p q)) (RowAt race i x (opened.Both l r))) → ⊥
        at_case (inl line) = apart (ap (λ (o : Opening). o.value) (lefts_of line))
        at_case (inr (inl before)) = paths.differ race i x j y l r p q before apart row same
        at_case (inr (inr before)) = paths.differ race j y i x p q l r before (λ e. apart (sym e)) (sym row) (sym same)

    -- two code lines of one ballot row are of one ballot
    one_ballot : (a b : Block) (ballot other column at : ℕ) (c d : CodeLine) → IsAmong lines (CodeAt a ballot race column c) → IsAmong lines (CodeAt b other race at d)
        → entry_at plan race ballot column / many ≡ entry_at plan race other at / many → ballot ≡ other
    one_ballot a b ballot other column at c d one two same =
        let x = (within (CodeAt a ballot race column c) one).placed in
        let y = (within (CodeAt b other race at d) two).placed in
        (rows_are_one plan race).one ballot other x.3 y.3 (sym (entry_tells plan race ballot column x.3 x.4).row ∙ (same ∙ (entry_tells plan race other at y.3 y.4).row))

    one_column : (a b : Block) (ballot other column at : ℕ) (c d : CodeLine) → IsAmong lines (CodeAt a ballot race column c) → IsAmong lines (CodeAt b other race at d)
        → entry_at plan race ballot column ≡ entry_at plan race other at → column ≡ at
    one_column a b ballot other column at c d one two same =
        let x = (within (CodeAt a ballot race column c) one).placed in
        let y = (within (CodeAt b other race at d) two).placed in
        sym (entry_tells plan race ballot column x.3 x.4).column_is ∙ (ap (λ (k : ℕ). k % many) same ∙ (entry_tells plan race other at y.3 y.4).column_is)

    -- one code is placed beside a candidate
    one_code : (row candidate c d : ℕ) → Places plan lines race row candidate c → Places plan lines race row candidate d → c ≡ d
    one_code row candidate c d one two = elim (cases_eq one.left.value two.left.value) [
      | inl same ↦
          let entries : entry_at plan race one.ballot one.column ≡ entry_at plan race two.ballot two.column = one.entry_is ∙ (same ∙ sym two.entry_is) in
          let ballots = one_ballot one.block two.block one.ballot two.ballot one.column two.column one.code two.code one.code_there two.code_there (ap (λ (k : ℕ). k / many) entries) in
          let columns = one_column one.block two.block one.ballot two.ballot one.column two.column one.code two.code one.code_there two.code_there entries in
          sym one.code_is
          ∙ (code_same one.block two.block two.ballot race two.column one.code two.code
          (subst (λ b. IsAmong lines (CodeAt one.block b race two.column one.code)) ballots (subst (λ k. IsAmong lines (CodeAt one.block one.ballot race k one.code)) columns one.code_there)) two.code_there
          ∙ two.code_is)
      | inr other ↦
          absurd (path_differ one.instance one.at two.instance two.at one.left one.right two.left two.right one.among two.among other (one.row_is ∙ sym two.row_is) (one.candidate_is ∙ sym two.candidate_is))
    ]

    -- and different codes beside different candidates
    codes_apart : (row candidate other c d : ℕ) → Places plan lines race row candidate c → Places plan lines race row other d → candidate ≢ other → c ≢ d
    codes_apart row candidate other c d one two apart same = elim (cases_eq one.left.value two.left.value) [
      | inl is ↦
          let rights = path_same one.instance one.at two.instance two.at one.left one.right two.left two.right one.among two.among is in
          apart (sym one.candidate_is ∙ (ap (λ (k : ℕ). k % many) rights ∙ two.candidate_is))
      | inr entries ↦
          let rows : entry_at plan race one.ballot one.column / many ≡ entry_at plan race two.ballot two.column / many
          = ap (λ (k : ℕ). k / many) one.entry_is ∙ (one.row_is ∙ (sym two.row_is ∙ sym (ap (λ (k : ℕ). k / many) two.entry_is))) in
          let ballots = one_ballot one.block two.block one.ballot two.ballot one.column two.column one.code two.code one.code_there two.code_there rows in
          let columns : one.column ≢ two.column
          = λ e. entries (sym one.entry_is ∙ (ap (λ (b : ℕ). entry_at plan race b one.column) ballots ∙ (ap (λ (k : ℕ). entry_at plan race two.ballot k) e ∙ two.entry_is))) in
          code_differ one.block two.block two.ballot race one.column two.column one.code two.code (subst (λ b. IsAmong lines (CodeAt one.block b race one.column one.code)) ballots one.code_there) two.code_there columns
          (one.code_is ∙ (same ∙ sym two.code_is))
    ]

  -- THE PRINTING

  abbrev made_printing : Printing
  made_printing race row candidate = chosen (placed_code plan lines race row) (candidates_of plan race) candidate

  pub has_printing : ((race : ℕ) → candidates_of plan race + candidates_of plan race ≤ codes_of plan.version) → HasPrinting plan lines
  has_printing room = (
    made_printing,
    record {
      below = λ race row candidate in_row less. chosen_below (placed_code plan lines race row) (candidates_of plan race) (codes_of plan.version) candidate (placed_below race row candidate) less (room race);
      differ = λ race row candidate other in_row less other_less apart.
          chosen_differ (placed_code plan lines race row) (candidates_of plan race) candidate other less other_less apart
          (λ a b c d low high differ e f. codes_apart race row a b c d (places plan lines race row a c e) (places plan lines race row b d f) differ);
    },
    stands,
  )
    where
      placed_below : (race row candidate c : ℕ) → placed_code plan lines race row candidate ≡ Some c → c < codes_of plan.version
      placed_below race row candidate c e =
          let from = places plan lines race row candidate c e in
          subst (λ (k : ℕ). k < codes_of plan.version) from.code_is (within (CodeAt from.block from.ballot race from.column from.code) from.code_there).shown

      stands : StandsWith plan lines made_printing
      stands race instance row left right block ballot column code among there entry = by_code (placed_code plan lines race (left.value / candidates_of plan race) (right.value % candidates_of plan race)) refl
        where
          own : Places plan lines race (left.value / candidates_of plan race) (right.value % candidates_of plan race) code.code
          own = record {
            instance = instance;
            at = row;
            left = left;
            right = right;
            block = block;
            ballot = ballot;
            column = column;
            code = code;
            among = among;
            row_is = refl;
            candidate_is = refl;
            code_there = there;
            entry_is = entry;
            code_is = refl;
          }

          by_code : (o : Option ℕ) → placed_code plan lines race (left.value / candidates_of plan race) (right.value % candidates_of plan race) ≡ o
              → made_printing race (left.value / candidates_of plan race) (right.value % candidates_of plan race) ≡ code.code
          by_code None e =
              let both : true ≡ false = sym (ap is_none e) ∙ is_placed plan lines race instance row left right block ballot column code among there entry in cc
          by_code (Some c) e =
              chosen_is (placed_code plan lines race (left.value / candidates_of plan race)) (candidates_of plan race) (right.value % candidates_of plan race) c e
              ∙ one_code race (left.value / candidates_of plan race) (right.value % candidates_of plan race) c code.code
              (places plan lines race (left.value / candidates_of plan race) (right.value % candidates_of plan race) c e) own

-- so many codes has each version
pub version_room : (version many : ℕ) → is_version version ≡ true → many ≤ 16 → many + many ≤ codes_of version
version_room version many is few = elim (or_cases (version == 1) (version == 2) is) [
  | inl one ↦ rw one (omega arith)
  | inr two ↦ elim (cases_eq version 1) [
    | inl one ↦ rw (eq-eqb version 1 one) (omega arith)
    | inr other ↦ rw (ne_eqb version 1 other, two) (omega arith)
  ]
]
