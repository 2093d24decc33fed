-- Kind print: rows are opened on both sides just for audited entries, as many as there are, and lead to what the paper has.
use Rattle.std.proofs.Common.{◌≡◌, ℕ, ◌+◌, ◌/◌, ◌%◌, ◌<◌, ◌≤◌, ◌==◌, nat_lt, Bool, true, false, ◌&&◌, not, cond, inl, inr, List, [], ◌∷◌, ◌++◌, length, map, slice_get, Option, Some, None, refl, sym, ap, ◌∙◌, arith}
use Rattle.std.proofs.Math.Bool.{and-false, and-true}
use Rattle.std.proofs.lemmas.Bool.{and_from, and_left, and_parts, and_right, cases_eq, eq-eqb, eqb-true, ne_eqb, or_cases, or_from, or_left, or_right}
use Rattle.std.proofs.lemmas.List.Concat.{flat_map-append}
use Rattle.std.proofs.lemmas.List.Folds.{list_any-append}
use Rattle.std.proofs.lemmas.List.Sums.{sum_by-append, sum_by_push}
use Rattle.std.specs.List.{flat_map, list_any}
use Rattle.std.specs.Option.{is_some, option_map, option_map_or}
use Rattle.std.specs.Prelude.{count_by, sum_by}
use Rattle.sg_lists.proofs.Any.{any-map, any-same}
use Rattle.sg_lists.proofs.Bools.{one_if, same_tests}
use Rattle.sg_lists.proofs.Each.{EachOf, of-all, of-into, of-none}
use Rattle.sg_lists.proofs.Options.{is_some-cond}
use Rattle.sg_lists.proofs.Sums.{sum-flat, sum-map, sum-nothing, sum-of, sum-ones, sum-same, sum-zero}
use Rattle.sg_plan.proofs.PlanLaws.{bounds, rows_are_one}
use Rattle.sg_plan.specs.Ballots.{ballot_has, ballot_row, candidates_of, entries_of, entry_at, races_of_ballot, rows_of}
use Rattle.sg_plan.specs.Limits.{fault_of}
use Rattle.sg_plan.specs.declared.plan.Draw.{Draw}
use Rattle.sg_plan.specs.declared.plan.Draw.TheVariants as drawn
use Rattle.sg_plan.specs.declared.plan.Fate.{Fate}
use Rattle.sg_plan.specs.declared.plan.Fate.TheVariants as fate
use Rattle.sg_plan.specs.declared.plan.Plan.{Plan}
use Rattle.sg_plan.specs.declared.plan.Side.{Side}
use Rattle.sg_plan.specs.declared.plan.Side.TheVariants as side
use Rattle.sg_streams.proofs.NumberLists.{numbers_below-push}
use Rattle.sg_streams.specs.CoinSides.{coin_of, coin_seed}
use Rattle.sg_streams.specs.Numbers.{numbers_below}
use Rattle.sg_tables.proofs.TableLaws.{code_laws, entry_laws, opening_laws, pointer_laws}
use Rattle.sg_tables.specs.Posts.{marked_columns}
use Rattle.sg_tables.specs.Tables.{code_beside, code_of_entry, codes_of_row, left_of as row_left, left_opening_of, paper_of, right_opening_of, shown_by}
use Rattle.sg_forms.specs.Reading.{bytes_of_digits}
use Rattle.sg_forms.specs.declared.line.CodeLine.{CodeLine}
use Rattle.sg_forms.specs.declared.line.RowOpening.{RowOpening}
use Rattle.sg_grammar.specs.Lines.{is_audit as block_audit}
use Rattle.sg_grammar.specs.Placed.{Placed}
use Rattle.sg_grammar.specs.Placed.Placed.{CodeAt, PaperAt, RowAt}
use Rattle.sg_grammar.specs.declared.state.Block.TheVariants as block
use Rattle.sg_plan.proofs.FateLists.{has_among}
use Rattle.sg_record.specs.Places.{places_in}
use Rattle.sg_record.specs.Tree.{as_place, block_tree, code_leaf, commit_tree, draw_leaf, paper_tree}
use Rattle.sg_record.specs.declared.record.BallotBlock.{BallotBlock}
use Rattle.sg_record.specs.declared.record.BlockFate.{BlockFate}
use Rattle.sg_record.specs.declared.record.Record.{Record}
use Rattle.sg_check.specs.Completions.{IsHalfOf}
use Rattle.sg_check.specs.Facts.{audited_code, audited_entries, audits_entry, audits_race, both_rows, draws_digits, first_given, is_audited as posted_audited, is_both, opens_both, paper_code, public_bytes, shows_paper}
use Rattle.sg_check.specs.Kinds.{bad_placed, is_there, wrong_audit, wrong_number, wrong_paper}
use Rattle.sg_check.specs.declared.judged.Kind.TheVariants as kind
use Rattle.sg_post.specs.Marks.{is_audit_fate, is_entry_audited, is_entry_of, told_audits}
use Rattle.sg_post.specs.Posted.{audited_codes, both_sides, code_in_row, code_line_of, fate_blocks, one_side, opened_row, posted_record, told_blocks}
use Rattle.sg_post.specs.declared.story.Claimed.{Claimed}
use Rattle.sg_post.specs.declared.story.Told.{Told}
use Rattle.sg_facts.proofs.Facts.{digits_are}
use Rattle.sg_facts.proofs.Rising.{IsFront, behind_ballots, behind_commits, blocks, digits-kept, given-kept, head, part_of, record-good}
use Rattle.sg_accepted.proofs.Codes.{any-codes, audited_code_at, cast_code, row-columns, shows_in, sum-codes, told_codes}
use Rattle.sg_accepted.proofs.Counted.{count-lefts, count-row, count-told}
use Rattle.sg_accepted.proofs.Given.{Gives, given-value}
use Rattle.sg_accepted.proofs.Late.{Good}
use Rattle.sg_accepted.proofs.Posted.{SaysRight, all-right}
use Rattle.sg_accepted.proofs.Rows.{in_instance, sum-earlier}
use Rattle.sg_accepted.proofs.Rule.{BlockRight, blocks-right}
use Rattle.sg_accepted.proofs.Unaltered.{IsTold}
use Rattle.sg_accepted.specs.Unaltered.{IsTrueFate}

-- the code on a line is that of its entry
code-of-line : (plan : Plan) (seed : List ℕ) (ballot race column : ℕ) → (code_line_of plan seed ballot race column).code ≡ code_of_entry plan seed race (entry_at plan race ballot column)
unfolding code_in_row
code-of-line plan seed ballot race column = opening_laws.code plan seed race (entry_at plan race ballot column)

-- WHAT A LINE GIVES

-- the line is a code of the entry in an audited ballot's block
abbrev audit_test : Plan → ℕ → ℕ → Placed → Bool
audit_test plan race entry (CodeAt kind ballot of column code) = block_audit kind && (of == race && entry_at plan of ballot column == entry)
audit_test plan race entry line = false

audit-gives : (plan : Plan) (seed : List ℕ) (fates : List Told) (draw : Draw) (race entry : ℕ) (line : Placed) → SaysRight plan seed fates draw line → Gives (audits_entry plan race entry) (audit_test plan race entry) (code_of_entry plan seed race entry) line
audit-gives plan seed fates draw race entry (CodeAt kind ballot of column code) is = at_test (block_audit kind && (of == race && entry_at plan of ballot column == entry)) refl
  where
    at_test : (b : Bool) → (block_audit kind && (of == race && entry_at plan of ballot column == entry)) ≡ b → cond b (Some code.code) None ≡ cond b (Some (code_of_entry plan seed race entry)) None
    at_test true passes =
        let names = and_parts (of == race) (entry_at plan of ballot column == entry) (and_parts (block_audit kind) _ passes).1 in
        let in_race : of ≡ race = eqb-true of race names.0 in
        let at_entry : entry_at plan of ballot column ≡ entry = eqb-true (entry_at plan of ballot column) entry names.1 in
        let value : code.code ≡ code_of_entry plan seed race entry =
        ap (λ (c : CodeLine). c.code) is.3 ∙ (code-of-line plan seed ballot of column ∙ (ap (code_of_entry plan seed of) at_entry ∙ ap (λ (r : ℕ). code_of_entry plan seed r entry) in_race)) in
        ap (λ v. Some v) value
    at_test false fails = refl
audit-gives plan seed fates draw race entry line is = refl

-- the line has the paper of the ballot row
abbrev paper_test : Plan → ℕ → ℕ → Placed → Bool
paper_test plan race row (PaperAt ballot of list) = of == race && ballot_row plan of ballot == row
paper_test plan race row line = false

paper-gives : (plan : Plan) (seed : List ℕ) (fates : List Told) (race row candidate : ℕ) (line : Placed) → fault_of plan ≡ None → race < length plan.races → candidate < candidates_of plan race → BlockRight plan seed fates line
    → Gives (shows_paper plan race row candidate) (paper_test plan race row) (code_beside plan seed race row candidate) line
paper-gives plan seed fates race row candidate (PaperAt ballot of list) fine within below is = at_test (of == race && ballot_row plan of ballot == row) refl
  where
    at_test : (b : Bool) → (of == race && ballot_row plan of ballot == row) ≡ b → cond b (slice_get list candidate) None ≡ cond b (Some (code_beside plan seed race row candidate)) None
    at_test true passes =
        let names = and_parts (of == race) (ballot_row plan of ballot == row) passes in
        let in_race : of ≡ race = eqb-true of race names.0 in
        let in_row : ballot_row plan of ballot ≡ row = eqb-true (ballot_row plan of ballot) row names.1 in
        ap (λ (l : List ℕ). slice_get l candidate) (is.1 ∙ (ap (codes_of_row plan seed of) in_row ∙ ap (λ (r : ℕ). codes_of_row plan seed r row) in_race))
        ∙ (code_laws.differ plan seed race row fine within).listed candidate below
    at_test false fails = refl
paper-gives plan seed fates race row candidate line fine within below is = refl

-- WHICH ENTRIES A BALLOT'S BLOCK SHOWS

module _ (plan : Plan) (seed : List ℕ) (race : ℕ) (some : 0 < candidates_of plan race) where
  -- the entry, where the ballot was audited and it is one of its own
  told-audits : (entry ballot : ℕ) (what : Fate) → list_any (audit_test plan race entry) (told_codes plan seed race ballot what) ≡ (is_entry_of plan race entry ballot && is_audit_fate what)
  told-audits entry ballot (fate.Audited paper) = at_has (ballot_has plan ballot race)
    where
      at_has : (b : Bool) → list_any (audit_test plan race entry) (cond b (map (audited_code_at plan seed race ballot) (numbers_below (candidates_of plan race))) []) ≡ ((b && ballot_row plan race ballot == entry / candidates_of plan race) && true)
      at_has true =
          any-map (audit_test plan race entry) (audited_code_at plan seed race ballot) (numbers_below (candidates_of plan race))
          ∙ (ap (λ (b : Bool). list_any (λ c. b && entry_at plan race ballot c == entry) (numbers_below (candidates_of plan race))) (eq-eqb race race refl) ∙ row-columns plan ballot race entry (λ e. true) some)
      at_has false = refl
  told-audits entry ballot (fate.Cast marks) =
      of-none (audit_test plan race entry) (told_codes plan seed race ballot (fate.Cast marks))
      (of-all (λ (line : Placed). audit_test plan race entry line ≡ false) (cast_code plan seed race ballot) (marked_columns plan seed race (ballot_row plan race ballot) (fate.Cast marks)) (λ c. refl)) ∙ sym (and-false (is_entry_of plan race entry ballot))
  told-audits entry ballot other = sym (and-false (is_entry_of plan race entry ballot))

  eq-sides : (a b : ℕ) → (a == b) ≡ (b == a)
  eq-sides a b = same_tests (a == b) (b == a) (λ e. eq-eqb b a (sym (eqb-true a b e))) (λ e. eq-eqb a b (sym (eqb-true b a e)))

  none-audited : (ballot : ℕ) → count_by (λ entry. is_entry_of plan race entry ballot && false) (numbers_below (entries_of plan race)) ≡ 0
  none-audited ballot = sum-zero (λ entry. one_if (is_entry_of plan race entry ballot && false)) (numbers_below (entries_of plan race)) (λ entry. ap one_if (and-false (is_entry_of plan race entry ballot)))

  -- and as many as it has
  told-count : (ballot : ℕ) (what : Fate) → count_by (audits_race race) (told_codes plan seed race ballot what) ≡ count_by (λ entry. is_entry_of plan race entry ballot && is_audit_fate what) (numbers_below (entries_of plan race))
  unfolding numbers_below
  told-count ballot (fate.Audited paper) = at_has (ballot_has plan ballot race) refl
    where
      k : ℕ
      k = candidates_of plan race

      entries : List ℕ
      entries = numbers_below (entries_of plan race)

      at_has : (b : Bool) → ballot_has plan ballot race ≡ b → count_by (audits_race race) (cond b (map (audited_code_at plan seed race ballot) (numbers_below k)) []) ≡ count_by (λ entry. (b && ballot_row plan race ballot == entry / k) && true) entries
      at_has true has =
          sum-map (λ line. one_if (audits_race race line)) (audited_code_at plan seed race ballot) (numbers_below k)
          ∙ (sum-same (λ (c : ℕ). one_if (race == race)) (λ (c : ℕ). 1) (numbers_below k) (λ c. ap one_if (eq-eqb race race refl)) ∙ sum-ones 0 k)
          ∙ sym (sum-same (λ entry. one_if ((ballot_row plan race ballot == entry / k) && true)) (λ entry. one_if (entry / k == ballot_row plan race ballot)) entries
          (λ entry. ap one_if (and-true (ballot_row plan race ballot == entry / k) ∙ eq-sides (ballot_row plan race ballot) (entry / k)))
          ∙ count-row k (rows_of plan race) (ballot_row plan race ballot) some ((rows_are_one plan race).below ballot has))
      at_has false has = sym (sum-nothing entries)
  told-count ballot (fate.Cast marks) =
      sum-of (λ line. one_if (audits_race race line)) (told_codes plan seed race ballot (fate.Cast marks))
      (of-all (λ (line : Placed). one_if (audits_race race line) ≡ 0) (cast_code plan seed race ballot) (marked_columns plan seed race (ballot_row plan race ballot) (fate.Cast marks)) (λ c. refl)) ∙ sym (none-audited ballot)
  told-count ballot other = sym (none-audited ballot)

  -- the paper of an audited entry's ballot row
  papers-any : (ballot row : ℕ) (f : ℕ → List ℕ) (races : List ℕ) → ballot_row plan race ballot ≡ row → list_any (λ r. r == race) races ≡ true → list_any (paper_test plan race row) (paper_tree as_place ballot races (map f races)) ≡ true
  papers-any ballot row f [] is e = cc
  papers-any ballot row f (r ∷ races) is e =
      elim (or_cases (r == race) (list_any (λ o. o == race) races) e) [
        | inl here ↦
            or_left (r == race && ballot_row plan r ballot == row) _
            (and_from (r == race) (ballot_row plan r ballot == row) here (eq-eqb (ballot_row plan r ballot) row (ap (λ (o : ℕ). ballot_row plan o ballot) (eqb-true r race here) ∙ is)))
        | inr behind ↦ or_right (r == race && ballot_row plan r ballot == row) _ (papers-any ballot row f races is behind)
      ]

  told-paper : (entry ballot : ℕ) (what : Fate) → IsTrueFate plan seed ballot what → is_entry_of plan race entry ballot ≡ true → is_audit_fate what ≡ true
      → list_any (paper_test plan race (entry / candidates_of plan race)) (flat_map (block_tree as_place plan) (map (λ (w : BlockFate). let one : BallotBlock = record { ballot = ballot; fate = w } in one) (fate_blocks plan seed ballot what))) ≡ true
  unfolding paper_of
  told-paper entry ballot (fate.Audited paper) is own audit =
      let test : Placed → Bool = paper_test plan race (entry / candidates_of plan race) in
      let races : List ℕ = races_of_ballot plan ballot in
      let codes : List Placed = map (code_leaf as_place block.Audited ballot) (audited_codes plan seed ballot) in
      let parts = and_parts (ballot_has plan ballot race) (ballot_row plan race ballot == entry / candidates_of plan race) own in
      let found : list_any test (paper_tree as_place ballot races paper) ≡ true = ap (λ (p : List (List ℕ)). list_any test (paper_tree as_place ballot races p)) is
      ∙ papers-any ballot (entry / candidates_of plan race) (λ r. codes_of_row plan seed r (ballot_row plan r ballot)) races (eqb-true (ballot_row plan race ballot) (entry / candidates_of plan race) parts.1) (sym (has_among plan ballot race) ∙ parts.0) in
      list_any-append test (paper_tree as_place ballot races paper ++ codes) [] ∙ or_left (list_any test (paper_tree as_place ballot races paper ++ codes)) false (list_any-append test (paper_tree as_place ballot races paper) codes ∙ or_left (list_any test (paper_tree as_place ballot races paper)) (list_any test codes) found)
  told-paper entry ballot other is own audit = cc

  papers-there : (entry : ℕ) (fates : List Told) → EachOf (λ told. IsTrueFate plan seed told.ballot told.fate) fates → list_any (told_audits plan race entry) fates ≡ true
      → list_any (paper_test plan race (entry / candidates_of plan race)) (flat_map (block_tree as_place plan) (flat_map (told_blocks plan seed) fates)) ≡ true
  papers-there entry [] all e = cc
  papers-there entry (told ∷ fates) all e =
      let test : Placed → Bool = paper_test plan race (entry / candidates_of plan race) in
      let here : List Placed = flat_map (block_tree as_place plan) (told_blocks plan seed told) in
      let behind : List Placed = flat_map (block_tree as_place plan) (flat_map (told_blocks plan seed) fates) in
      ap (list_any test) (flat_map-append (block_tree as_place plan) (told_blocks plan seed told) (flat_map (told_blocks plan seed) fates))
      ∙ (list_any-append test here behind
      ∙ elim (or_cases (told_audits plan race entry told) (list_any (told_audits plan race entry) fates) e) [
        | inl own ↦
            let parts = and_parts (is_entry_of plan race entry told.ballot) (is_audit_fate told.fate) own in
            or_left (list_any test here) (list_any test behind) (told-paper entry told.ballot told.fate all.0 parts.0 parts.1)
        | inr later ↦ or_right (list_any test here) (list_any test behind) (papers-there entry fates all.1 later)
      ])

-- WHAT NO ROW SAYS, AND NO LINE BEHIND IT

no-entry : (plan : Plan) (race entry : ℕ) (line : Placed) → 6 ≤ part_of line → audits_entry plan race entry line ≡ None
no-entry plan race entry (CodeAt block.Cast ballot of column code) late = refl
no-entry plan race entry (CodeAt block.Audited ballot of column code) late = absurd (omega (arith, late))
no-entry plan race entry (CodeAt block.Dispute ballot of column code) late = refl
no-entry plan race entry line late = refl

no-paper : (plan : Plan) (race row candidate : ℕ) (line : Placed) → 6 ≤ part_of line → shows_paper plan race row candidate line ≡ None
no-paper plan race row candidate (PaperAt ballot of list) late = absurd (omega (arith, late))
no-paper plan race row candidate line late = refl

no-audit : (race : ℕ) (line : Placed) → 6 ≤ part_of line → one_if (audits_race race line) ≡ 0
no-audit race (CodeAt block.Cast ballot of column code) late = refl
no-audit race (CodeAt block.Audited ballot of column code) late = absurd (omega (arith, late))
no-audit race (CodeAt block.Dispute ballot of column code) late = refl
no-audit race line late = refl

-- with public bytes, a row is opened on both sides exactly where its entry is audited
both-audited : (plan : Plan) (seed : List ℕ) (fates : List Told) (bytes : List ℕ) (race instance n : ℕ)
    → is_both (opened_row plan seed fates (drawn.Public bytes) race instance n) ≡ is_entry_audited plan fates race (row_left plan seed race instance n)
unfolding opened_row
both-audited plan seed fates bytes race instance n = at_audit (is_entry_audited plan fates race (row_left plan seed race instance n)) (coin_of (coin_seed bytes) race instance n)
  where
    at_audit : (b : Bool) (s : Side) → is_both (cond b (both_sides plan seed race instance n) (one_side plan seed race instance n s)) ≡ b
    at_audit true s = refl
    at_audit false side.Left = refl
    at_audit false side.Right = refl

module _ (plan : Plan) (seed : List ℕ) (fates : List Told) (draw : Draw) (claims : List Claimed) (told : IsTold plan seed fates claims) where
  abbrev posted : Record
  posted = posted_record plan seed fates draw claims

  abbrev lines : List Placed
  lines = places_in posted

  right : EachOf (SaysRight plan seed fates draw) lines
  right = all-right plan seed fates draw claims told.fine told.fit told.claimed

  some_candidate : (race : ℕ) → race < length plan.races → 0 < candidates_of plan race
  some_candidate race within = omega (arith, (bounds plan told.fine).two_candidates race within)

  -- THE RECORD

  -- the codes of all audited entries are shown, and of no other
  audited-is : (race entry : ℕ) → race < length plan.races → audited_code plan race entry lines ≡ cond (is_entry_audited plan fates race entry) (Some (code_of_entry plan seed race entry)) None
  unfolding is_entry_audited
  audited-is race entry within =
      let v : ℕ = code_of_entry plan seed race entry in
      given-value (audits_entry plan race entry) (audit_test plan race entry) v lines
      (of-into (SaysRight plan seed fates draw) (Gives (audits_entry plan race entry) (audit_test plan race entry) v) lines (λ line is. audit-gives plan seed fates draw race entry line is) right)
      ∙ ap (λ (b : Bool). cond b (Some v) None)
      (any-codes plan seed fates draw claims race (audit_test plan race entry) within only
      ∙ any-same (λ (one : Told). list_any (audit_test plan race entry) (told_codes plan seed race one.ballot one.fate)) (told_audits plan race entry) fates (λ one. told-audits plan seed race (some_candidate race within) entry one.ballot one.fate))
    where
      only : (line : Placed) → shows_in race line ≡ false → audit_test plan race entry line ≡ false
      only (CodeAt block.Cast ballot of column code) is = refl
      only (CodeAt block.Audited ballot of column code) is = and_left (of == race) (entry_at plan of ballot column == entry) is
      only (CodeAt block.Dispute ballot of column code) is = refl
      only line is = refl

  -- and what their papers have
  paper-is : (race entry candidate : ℕ) → race < length plan.races → candidate < candidates_of plan race → is_entry_audited plan fates race entry ≡ true
      → paper_code plan race (entry / candidates_of plan race) candidate lines ≡ Some (code_beside plan seed race (entry / candidates_of plan race) candidate)
  unfolding is_entry_audited places_in
  paper-is race entry candidate within below audited =
      let row : ℕ = entry / candidates_of plan race in
      let test : Placed → Bool = paper_test plan race row in
      let v : ℕ = code_beside plan seed race row candidate in
      let there : list_any test lines ≡ true = list_any-append test (head posted) (commit_tree as_place posted ++ behind_commits posted)
      ∙ or_right (list_any test (head posted)) _ (list_any-append test (commit_tree as_place posted) (behind_commits posted)
      ∙ or_right (list_any test (commit_tree as_place posted)) _ (list_any-append test (blocks posted) (behind_ballots posted)
      ∙ or_left (list_any test (blocks posted)) _ (papers-there plan seed race (some_candidate race within) entry fates told.papers audited))) in
      given-value (shows_paper plan race row candidate) test v lines
      (of-into (BlockRight plan seed fates) (Gives (shows_paper plan race row candidate) test v) lines (λ line is. paper-gives plan seed fates race row candidate line told.fine within below is) (blocks-right plan seed fates draw claims told))
      ∙ ap (λ (b : Bool). cond b (Some v) None) there

  -- as many are shown as there are
  number-is : (race : ℕ) → race < length plan.races → audited_entries race lines ≡ count_by (is_entry_audited plan fates race) (numbers_below (entries_of plan race))
  unfolding is_entry_audited
  number-is race within =
      let g : Placed → ℕ = λ line. one_if (audits_race race line) in
      let entries : List ℕ = numbers_below (entries_of plan race) in
      sum-codes plan seed race within g only fates draw claims
      ∙ (sum-flat g (λ (one : Told). told_codes plan seed race one.ballot one.fate) fates
      ∙ (sum-same (λ (one : Told). count_by (audits_race race) (told_codes plan seed race one.ballot one.fate)) (λ (one : Told). count_by (λ entry. told_audits plan race entry one) entries) fates
      (λ one. told-count plan seed race (some_candidate race within) one.ballot one.fate)
      ∙ sym (count-told plan race (told_audits plan race) (λ entry one e. (and_parts (is_entry_of plan race entry one.ballot) (is_audit_fate one.fate) e).0) 0 fates told.fit)))
    where
      only : (line : Placed) → shows_in race line ≡ false → one_if (audits_race race line) ≡ 0
      only (CodeAt block.Cast ballot of column code) is = refl
      only (CodeAt block.Audited ballot of column code) is = ap one_if is
      only (CodeAt block.Dispute ballot of column code) is = refl
      only line is = refl

  -- BEFORE A ROW

  module _ (before : List Placed) (race instance number : ℕ) (opening : RowOpening) (front : IsFront lines before (RowAt race instance number opening)) (within : IsHalfOf plan race instance number) where
    abbrev line : Placed
    line = RowAt race instance number opening

    abbrev entry : ℕ
    entry = row_left plan seed race instance number

    audited-before : (e : ℕ) → audited_code plan race e before ≡ cond (is_entry_audited plan fates race e) (Some (code_of_entry plan seed race e)) None
    audited-before e = given-kept lines before line front (audits_entry plan race e) (no-entry plan race e) ∙ audited-is race e within.0

    entry-audited : posted_audited plan race (left_opening_of plan seed race instance number).value before ≡ is_entry_audited plan fates race entry
    entry-audited =
        ap (λ (e : ℕ). posted_audited plan race e before) (opening_laws.left plan seed race instance number)
        ∙ (ap (λ (o : Option ℕ). is_some o) (audited-before entry) ∙ is_some-cond (is_entry_audited plan fates race entry) (code_of_entry plan seed race entry))

    -- a row that is opened on both sides leads to what the paper has
    paper-fine : wrong_paper plan before race (both_sides plan seed race instance number) ≡ false
    paper-fine =
        let left = left_opening_of plan seed race instance number in
        let right = right_opening_of plan seed race instance number in
        let k : ℕ = candidates_of plan race in
        let led = entry_laws.leads plan seed race entry ((pointer_laws.lefts plan seed race instance).below number within.2) in
        let is_left : left.value ≡ entry = opening_laws.left plan seed race instance number in
        let is_shown : right.value % k ≡ shown_by plan seed race entry = ap (λ (v : ℕ). v % k) (opening_laws.right plan seed race instance number ∙ pointer_laws.composed plan seed race instance number) ∙ led.column in
        and_right (nat_lt left.value (entries_of plan race) && nat_lt right.value (entries_of plan race)) _
        (rw (is_left, is_shown) (ap (λ (o : Option ℕ). option_map_or (λ code. not (is_there (paper_code plan race (entry / k) (shown_by plan seed race entry) before) code)) o false) (audited-before entry) ∙ at_audit (is_entry_audited plan fates race entry) refl led.shows))
      where
        at_audit : (b : Bool) → is_entry_audited plan fates race entry ≡ b → shown_by plan seed race entry < candidates_of plan race
            → option_map_or (λ (code : ℕ). not (is_there (paper_code plan race (entry / candidates_of plan race) (shown_by plan seed race entry) before) code)) (cond b (Some (code_of_entry plan seed race entry)) None) false ≡ false
        at_audit false audited below = refl
        at_audit true audited below =
            let code : ℕ = code_of_entry plan seed race entry in
            let there : paper_code plan race (entry / candidates_of plan race) (shown_by plan seed race entry) before ≡ Some code =
            given-kept lines before line front (shows_paper plan race (entry / candidates_of plan race) (shown_by plan seed race entry)) (no-paper plan race (entry / candidates_of plan race) (shown_by plan seed race entry))
            ∙ (paper-is race entry (shown_by plan seed race entry) within.0 below audited ∙ ap (λ v. Some v) (sym (code_laws.beside plan seed race entry))) in
            ap (λ (o : Option ℕ). not (is_there o code)) there ∙ ap not (eq-eqb code code refl)

    -- one side, or both, as the draw says
    sides-fine : (b : Bool) (s : Side) → is_entry_audited plan fates race entry ≡ b → (wrong_audit plan before race (cond b (both_sides plan seed race instance number) (one_side plan seed race instance number s)) ≡ false)
        × (wrong_paper plan before race (cond b (both_sides plan seed race instance number) (one_side plan seed race instance number s)) ≡ false)
    sides-fine true s audited = (and_right (nat_lt (left_opening_of plan seed race instance number).value (entries_of plan race)) _ (ap not (entry-audited ∙ audited)), paper-fine)
    sides-fine false side.Left audited = (and_right (nat_lt (left_opening_of plan seed race instance number).value (entries_of plan race)) _ (entry-audited ∙ audited), refl)
    sides-fine false side.Right audited = (refl, refl)

    -- with the last row of an instance, as many are opened on both sides as there are audited entries
    number-fine : (o : RowOpening) → o ≡ opened_row plan seed fates draw race instance number → ((n : ℕ) → is_both (opened_row plan seed fates draw race instance n) ≡ is_entry_audited plan fates race (row_left plan seed race instance n))
        → wrong_number plan before race instance number o ≡ false
    number-fine o own both =
        let n : ℕ = entries_of plan race in
        let is_opened : ℕ → Bool = λ k. is_both (opened_row plan seed fates draw race instance k) in
        let audits : Placed → ℕ = λ l. one_if (audits_race race l) in
        elim (cases_eq (number + 1) n) [
          | inr other ↦ and_left (number + 1 == n) _ (ne_eqb (number + 1) n other)
          | inl last ↦
              let earlier : both_rows race instance before ≡ count_by is_opened (numbers_below number) = sum-earlier plan seed fates draw claims race instance before number opening front within (λ l. one_if (opens_both race instance l)) only
              ∙ sum-same (λ k. one_if ((race == race && instance == instance) && is_opened k)) (λ k. one_if (is_opened k)) (numbers_below number) (λ k. rw (eq-eqb race race refl, eq-eqb instance instance refl) refl) in
              let all : count_by is_opened (numbers_below (number + 1)) ≡ count_by is_opened (numbers_below number) + one_if (is_both o) = ap (count_by is_opened) (numbers_below-push number)
              ∙ (sum_by_push (λ k. one_if (is_opened k)) (numbers_below number) number ∙ ap (λ (x : RowOpening). count_by is_opened (numbers_below number) + one_if (is_both x)) (sym own)) in
              let audited = sum-same (λ k. one_if (is_opened k)) (λ k. one_if (is_entry_audited plan fates race (row_left plan seed race instance k))) (numbers_below n) (λ k. ap one_if (both k)) in
              and_right (number + 1 == n) _
              (ap not (eq-eqb (both_rows race instance before + one_if (is_both o)) (audited_entries race before)
              (omega (
                arith,
                earlier,
                all,
                ap (λ (m : ℕ). count_by is_opened (numbers_below m)) last,
                audited,
                count-lefts plan seed race instance (is_entry_audited plan fates race),
                number-is race within.0,
                ap (sum_by audits) front.is,
                sum_by-append audits before (line ∷ front.rest),
                sum-of audits (line ∷ front.rest) (of-into (λ later. 6 ≤ part_of later) (λ later. audits later ≡ 0) (line ∷ front.rest) (no-audit race) (omega arith, front.behind)),
              ))))
        ]
      where
        only : (l : Placed) → in_instance race instance l ≡ false → one_if (opens_both race instance l) ≡ 0
        only (RowAt of i k x) none = ap one_if (and_left (of == race && i == instance) (is_both x) none)
        only l none = refl

    row-fine : (d : Draw) → draw ≡ d → bad_placed kind.Print plan before (RowAt race instance number (opened_row plan seed fates d race instance number)) ≡ false
    unfolding opened_row
    row-fine drawn.Full is =
        let none : first_given draws_digits before ≡ None = digits-kept lines before line front (omega arith) ∙ (digits_are posted ∙ ap (λ (d : Draw). draws_digits (draw_leaf as_place d)) is) in
        or_from _ (wrong_paper plan before race (both_sides plan seed race instance number)) (and_left (is_some (public_bytes before)) _ (ap (λ (o : Option (List ℕ)). is_some (option_map bytes_of_digits o)) none)) paper-fine
    row-fine (drawn.Public bytes) is =
        let row : RowOpening = opened_row plan seed fates (drawn.Public bytes) race instance number in
        let fine = sides-fine (is_entry_audited plan fates race entry) (coin_of (coin_seed bytes) race instance number) refl in
        or_from _ (wrong_paper plan before race row)
        (and_right (is_some (public_bytes before)) _ (or_from (wrong_audit plan before race row) _ fine.0
        (number-fine row (ap (λ (d : Draw). opened_row plan seed fates d race instance number) (sym is)) (λ n. ap (λ (d : Draw). is_both (opened_row plan seed fates d race instance n)) is ∙ both-audited plan seed fates bytes race instance n)))) fine.1

  print-good : (before : List Placed) (line : Placed) → IsFront lines before line → SaysRight plan seed fates draw line → bad_placed kind.Print plan before line ≡ false
  print-good before (RowAt race instance number opening) front is =
      ap (λ (o : RowOpening). bad_placed kind.Print plan before (RowAt race instance number o)) is.1 ∙ row-fine before race instance number opening front is.0 draw refl
  print-good before other front is = refl

  pub prints-whole : Good (bad_placed kind.Print plan) [] lines
  prints-whole = record-good (bad_placed kind.Print plan) (SaysRight plan seed fates draw) posted print-good right
