-- Kind dispute: the answer to a claim is right of what the ballot's block posts and of the ballot's codes.
use Rattle.std.proofs.Common.{◌≡◌, ◌≢◌, ℕ, ◌+◌, ◌<◌, ◌==◌, Bool, true, false, ◌&&◌, ◌||◌, not, cond, inl, inr, List, [], ◌∷◌, ◌++◌, length, map, Option, Some, None, refl, sym, subst, ap, ◌∙◌, arith, append_assoc}
use Rattle.std.proofs.Math.Bool.{or-false}
use Rattle.std.proofs.lemmas.Bool.{and_left, and_right, cases_eq, eq-eqb, ne_eqb}
use Rattle.std.proofs.lemmas.List.Folds.{list_any-append}
use Rattle.std.proofs.lemmas.Map.Keys.{any_passes_from_place}
use Rattle.std.specs.List.{flat_map, list_any}
use Rattle.std.specs.Option.{option_map_or}
use Rattle.sg_lists.proofs.Any.{any-before, any-map, any-place, any-same}
use Rattle.sg_lists.proofs.Bools.{same_tests}
use Rattle.sg_lists.proofs.Each.{EachOf, of-all, of-append, of-into, of-none}
use Rattle.sg_lists.proofs.Lists.{map-map}
use Rattle.sg_plan.proofs.PlanLaws.{entry_tells, rows_are_one}
use Rattle.sg_plan.specs.Ballots.{ballot_has, ballot_row, candidates_of, entry_at}
use Rattle.sg_plan.specs.Limits.{fault_of}
use Rattle.sg_plan.specs.declared.plan.ClaimWord.{ClaimWord}
use Rattle.sg_plan.specs.declared.plan.ClaimWord.TheVariants as answer
use Rattle.sg_plan.specs.declared.plan.Draw.{Draw}
use Rattle.sg_plan.specs.declared.plan.Draw.TheVariants as drawn
use Rattle.sg_plan.specs.declared.plan.Fate.{Fate}
use Rattle.sg_plan.specs.declared.plan.Fate.TheVariants as fate
use Rattle.sg_plan.specs.declared.plan.Plan.{Plan}
use Rattle.sg_streams.proofs.NumberLists.{numbers_below-push}
use Rattle.sg_streams.specs.Numbers.{numbers_below}
use Rattle.sg_tables.proofs.TableLaws.{code_laws, entry_laws}
use Rattle.sg_tables.specs.Posts.{marked_columns}
use Rattle.sg_tables.specs.Tables.{code_beside, codes_of_row, column_showing, shown_by}
use Rattle.sg_forms.specs.declared.line.CodeLine.{CodeLine}
use Rattle.sg_grammar.specs.Placed.{Placed}
use Rattle.sg_grammar.specs.Placed.Placed.{CodeAt, Disputed}
use Rattle.sg_grammar.specs.declared.state.Block.TheVariants as block
use Rattle.sg_record.specs.Places.{places_in}
use Rattle.sg_record.specs.Tree.{as_place, code_leaf, commit_tree, dispute_tree, draw_leaf, opening_tree, result_tree}
use Rattle.sg_record.specs.declared.record.Record.{Record}
use Rattle.sg_check.specs.Facts.{DisputedCode, last_claim, marks_code, shows_disputed}
use Rattle.sg_check.specs.Kinds.{bad_placed, is_right, wrong_answer}
use Rattle.sg_check.specs.declared.judged.Kind.TheVariants as kind
use Rattle.sg_post.proofs.Claims.{has-within}
use Rattle.sg_post.proofs.MarkedCodes.{posts_code, right-same}
use Rattle.sg_post.specs.Posted.{code_in_row, code_line_of, dispute_of, posted_record}
use Rattle.sg_post.specs.declared.story.Claimed.{Claimed}
use Rattle.sg_post.specs.declared.story.Told.{Told}
use Rattle.sg_facts.proofs.Rising.{IsPart, blocks, blocks_are, claims as claim_places, commits_are, head, head_is, part_of, results_are, rows_are}
use Rattle.sg_facts.proofs.Sections.{disputes-of}
use Rattle.sg_accepted.proofs.Any.{any-number_found, number-any}
use Rattle.sg_accepted.proofs.Codes.{any-codes, any-told, audited-each, cast_code, codes-each, shows_in, told_codes}
use Rattle.sg_accepted.proofs.Late.{Good, good-append, good-never, good-numbers, good-one}
use Rattle.sg_accepted.proofs.Rule.{code-value}
use Rattle.sg_accepted.proofs.Unaltered.{ClaimRight, IsTold}
use Rattle.sg_accepted.specs.Unaltered.{told_fate}

-- THE CODES OF A BALLOT

-- the ballot's codes in a race, column by column, are those of its row
pub shown-codes : (plan : Plan) (seed : List ℕ) (ballot race code : ℕ) → fault_of plan ≡ None → race < length plan.races → ballot_has plan ballot race ≡ true
    → list_any (λ column. (code_line_of plan seed ballot race column).code == code) (numbers_below (candidates_of plan race)) ≡ list_any (λ other. other == code) (codes_of_row plan seed race (ballot_row plan race ballot))
shown-codes plan seed ballot race code fine within has =
    let row = ballot_row plan race ballot in
    let differ = code_laws.differ plan seed race row fine within in
    same_tests (list_any (λ column. (code_line_of plan seed ballot race column).code == code) (numbers_below (candidates_of plan race))) (list_any (λ other. other == code) (codes_of_row plan seed race row))
    (λ e.
    let found = any-number_found (λ column. (code_line_of plan seed ballot race column).code == code) (candidates_of plan race) e in
    let tells = entry_tells plan race ballot found.number has found.within in
    let candidate = shown_by plan seed race (entry_at plan race ballot found.number) in
    any_passes_from_place (λ other. other == code) (codes_of_row plan seed race row) candidate (code_beside plan seed race row candidate)
    (differ.listed candidate (entry_laws.leads plan seed race (entry_at plan race ballot found.number) tells.below).shows)
    (ap (λ (c : ℕ). c == code) (sym (code-value plan seed ballot race found.number has found.within)) ∙ found.passes))
    (λ e.
    let found = any-place (λ other. other == code) (codes_of_row plan seed race row) e in
    let below : found.at < candidates_of plan race = let many = differ.many in let inside = found.within in omega (arith, many, inside) in
    let once = entry_laws.once plan seed race row found.at ((rows_are_one plan race).below ballot has) below in
    let item : code_beside plan seed race row found.at ≡ found.item = let same : Some (code_beside plan seed race row found.at) ≡ Some found.item = sym (differ.listed found.at below) ∙ found.found in cc in
    let shows : shown_by plan seed race (entry_at plan race ballot (column_showing plan seed race row found.at)) ≡ found.at = ap (shown_by plan seed race) (sym once.is) ∙ once.shows in
    number-any (λ column. (code_line_of plan seed ballot race column).code == code) (candidates_of plan race) (column_showing plan seed race row found.at) once.column
    (ap (λ (c : ℕ). c == code) (code-value plan seed ballot race (column_showing plan seed race row found.at) has once.column ∙ (ap (code_beside plan seed race row) shows ∙ item)) ∙ found.passes))

-- its block has the code of a mark where its fate posts it
told-code : (plan : Plan) (seed : List ℕ) (ballot race code : ℕ) (what : Fate) → list_any (marks_code ballot race code) (told_codes plan seed race ballot what) ≡ posts_code plan seed ballot race code what
told-code plan seed ballot race code (fate.Cast marks) =
    let columns : List ℕ = marked_columns plan seed race (ballot_row plan race ballot) (fate.Cast marks) in
    let shows : CodeLine → Bool = λ line. line.code == code in
    any-map (marks_code ballot race code) (cast_code plan seed race ballot) columns
    ∙ (any-same (λ c. marks_code ballot race code (cast_code plan seed race ballot c)) (λ c. shows (code_line_of plan seed ballot race c)) columns (λ c. rw (eq-eqb ballot ballot refl, eq-eqb race race refl) refl)
    ∙ sym (any-map shows (code_line_of plan seed ballot race) columns))
told-code plan seed ballot race code (fate.Audited paper) =
    of-none (marks_code ballot race code) (told_codes plan seed race ballot (fate.Audited paper)) (audited-each (λ line. marks_code ballot race code line ≡ false) plan seed race ballot (λ column. refl) paper)
told-code plan seed ballot race code other = refl

-- THE KIND

-- the last claim is the one behind which no other stands
last-behind : (xs : List Placed) (ballot race code : ℕ) (word : ClaimWord) (ys : List Placed) → last_claim ys ≡ None
    → last_claim (xs ++ Disputed ballot race code word ∷ ys) ≡ Some (record { code = code; answer = word; behind = ys })
last-behind [] ballot race code word ys none = ap (λ (o : Option DisputedCode). option_map_or Some o (Some (record { code = code; answer = word; behind = ys }))) none
last-behind (Disputed b r c w ∷ xs) ballot race code word ys none =
    ap (λ (o : Option DisputedCode). option_map_or Some o (Some (record { code = c; answer = w; behind = xs ++ Disputed ballot race code word ∷ ys }))) (last-behind xs ballot race code word ys none)
last-behind (line ∷ xs) ballot race code word ys none = last-behind xs ballot race code word ys none

codes-claim_nothing : (ballot : ℕ) (codes : List CodeLine) → last_claim (map (code_leaf as_place block.Dispute ballot) codes) ≡ None
codes-claim_nothing ballot [] = refl
codes-claim_nothing ballot (code ∷ codes) = codes-claim_nothing ballot codes

-- no other line is judged
never-bad : (plan : Plan) (line : Placed) → part_of line ≢ 7 → (front : List Placed) → bad_placed kind.Dispute plan front line ≡ false
never-bad plan (CodeAt block.Cast ballot race column code) other front = refl
never-bad plan (CodeAt block.Audited ballot race column code) other front = refl
never-bad plan (CodeAt block.Dispute ballot race column code) other front = absurd (other refl)
never-bad plan line other front = refl

draw-never : (plan : Plan) (draw : Draw) (front : List Placed) → bad_placed kind.Dispute plan front (draw_leaf as_place draw) ≡ false
draw-never plan drawn.Full front = refl
draw-never plan (drawn.Public bytes) front = refl

no-mark : (ballot race code : ℕ) (line : Placed) → part_of line ≡ 7 → marks_code ballot race code line ≡ false
no-mark ballot race code (CodeAt block.Cast of in_race column shown) is = cc
no-mark ballot race code (CodeAt block.Audited of in_race column shown) is = refl
no-mark ballot race code (CodeAt block.Dispute of in_race column shown) is = refl
no-mark ballot race code line is = refl

-- the answer by the rule is right
answer-right : (posts among : Bool) → is_right (cond posts answer.Posted (cond among answer.Unposted answer.Absent)) posts among ≡ true
answer-right true among = refl
answer-right false true = refl
answer-right false false = refl

module _ (plan : Plan) (seed : List ℕ) (fates : List Told) (draw : Draw) (claims : List Claimed) (told : IsTold plan seed fates claims) where
  abbrev posted : Record
  posted = posted_record plan seed fates draw claims

  -- whether a ballot's block has a code is told by the ballot's fate
  abbrev MarksTold : List Placed → Type 0
  MarksTold lines = (ballot race code : ℕ) → race < length plan.races → list_any (marks_code ballot race code) lines ≡ posts_code plan seed ballot race code (told_fate fates ballot)

  -- lines of disputes change nothing of it
  without : (before more : List Placed) → EachOf (IsPart 7) more → (ballot race code : ℕ) → list_any (marks_code ballot race code) (before ++ more) ≡ list_any (marks_code ballot race code) before
  without before more all ballot race code =
      any-before (marks_code ballot race code) before more (of-none (marks_code ballot race code) more (of-into (IsPart 7) (λ (line : Placed). marks_code ballot race code line ≡ false) more (no-mark ballot race code) all))

  marks-told : MarksTold (places_in posted)
  marks-told ballot race code within =
      any-codes plan seed fates draw claims race (marks_code ballot race code) within only
      ∙ (any-told plan (λ of what. list_any (marks_code ballot race code) (told_codes plan seed race of what)) ballot
      (λ other what differ. of-none (marks_code ballot race code) (told_codes plan seed race other what)
      (codes-each (λ line. marks_code ballot race code line ≡ false) plan seed race other (λ column. refl) (λ column. rw (ne_eqb other ballot differ) refl) what)) refl fates told.fit
      ∙ told-code plan seed ballot race code (told_fate fates ballot))
    where
      only : (line : Placed) → shows_in race line ≡ false → marks_code ballot race code line ≡ false
      only (CodeAt block.Cast of in_race column shown) is = and_left (of == ballot && in_race == race) (shown.code == code) (and_right (of == ballot) (in_race == race) is)
      only (CodeAt block.Audited of in_race column shown) is = refl
      only (CodeAt block.Dispute of in_race column shown) is = refl
      only line is = refl

  module _ (before : List Placed) (facts : MarksTold before) (claimed : Claimed) (right : ClaimRight plan seed fates claimed) where
    abbrev first : Placed
    first = Disputed claimed.ballot claimed.race claimed.code claimed.word

    abbrev code_at : ℕ → Placed
    code_at column = code_leaf as_place block.Dispute claimed.ballot (code_line_of plan seed claimed.ballot claimed.race column)

    code-good : (column : ℕ) → bad_placed kind.Dispute plan ((before ++ first ∷ []) ++ map code_at (numbers_below column)) (code_at column) ≡ false
    unfolding code_in_row
    code-good column =
        let b : ℕ = claimed.ballot in
        let r : ℕ = claimed.race in
        let shows : ℕ → Bool = λ c. (code_line_of plan seed b r c).code == claimed.code in
        let earlier : List Placed = map code_at (numbers_below column) in
        let front : List Placed = (before ++ first ∷ []) ++ earlier in
        elim (cases_eq (column + 1) (candidates_of plan r)) [
          | inr other ↦ and_left (column + 1 == candidates_of plan r) _ (ne_eqb (column + 1) (candidates_of plan r) other)
          | inl whole ↦
              let none : last_claim earlier ≡ None = ap last_claim (sym (map-map (code_leaf as_place block.Dispute b) (code_line_of plan seed b r) (numbers_below column))) ∙ codes-claim_nothing b (map (code_line_of plan seed b r) (numbers_below column)) in
              let claim : last_claim front ≡ Some (record { code = claimed.code; answer = claimed.word; behind = earlier }) =
              ap last_claim (append_assoc before (first ∷ []) earlier) ∙ last-behind before b r claimed.code claimed.word earlier none in
              let marked : list_any (marks_code b r claimed.code) front ≡ posts_code plan seed b r claimed.code (told_fate fates b) =
              without (before ++ first ∷ []) earlier (of-all (IsPart 7) code_at (numbers_below column) (λ c. refl)) b r claimed.code
              ∙ (without before (first ∷ []) (refl, tt) b r claimed.code ∙ facts b r claimed.code (has-within plan b r told.fine right.has)) in
              let shown : (list_any (shows_disputed claimed.code) earlier || shows column) ≡ list_any (λ other. other == claimed.code) (codes_of_row plan seed r (ballot_row plan r b)) =
              ap (λ (d : Bool). d || shows column) (any-map (shows_disputed claimed.code) code_at (numbers_below column))
              ∙ (ap (λ (d : Bool). list_any shows (numbers_below column) || d) (sym (or-false (shows column)))
              ∙ (sym (list_any-append shows (numbers_below column) (column ∷ [])) ∙ (ap (list_any shows) (sym (numbers_below-push column))
              ∙ (ap (λ (n : ℕ). list_any shows (numbers_below n)) whole ∙ shown-codes plan seed b r claimed.code told.fine (has-within plan b r told.fine right.has) right.has)))) in
              let answered : is_right claimed.word (list_any (marks_code b r claimed.code) front) (list_any (shows_disputed claimed.code) earlier || shows column) ≡ true =
              rw (marked, shown, right.word ∙ right-same plan seed b r claimed.code (told_fate fates b))
              (answer-right (posts_code plan seed b r claimed.code (told_fate fates b)) (list_any (λ other. other == claimed.code) (codes_of_row plan seed r (ballot_row plan r b)))) in
              and_right (column + 1 == candidates_of plan r) _ (ap (λ (o : Option DisputedCode). option_map_or (wrong_answer front b r (code_line_of plan seed b r column).code) o false) claim ∙ ap not answered)
        ]

    claim-good : Good (bad_placed kind.Dispute plan) before (dispute_tree as_place (dispute_of plan seed claimed))
    claim-good =
        let columns : List ℕ = numbers_below (candidates_of plan claimed.race) in
        good-append (bad_placed kind.Dispute plan) before (first ∷ []) (map (code_leaf as_place block.Dispute claimed.ballot) (map (code_line_of plan seed claimed.ballot claimed.race) columns)) (good-one (bad_placed kind.Dispute plan) before first refl)
        (subst (λ (l : List Placed). Good (bad_placed kind.Dispute plan) (before ++ first ∷ []) l) (sym (map-map (code_leaf as_place block.Dispute claimed.ballot) (code_line_of plan seed claimed.ballot claimed.race) columns))
        (good-numbers (bad_placed kind.Dispute plan) (before ++ first ∷ []) code_at (candidates_of plan claimed.race) (λ column below. code-good column)))

  -- all claims, behind the blocks
  claims-good : (before : List Placed) (list : List Claimed) → MarksTold before → EachOf (ClaimRight plan seed fates) list → Good (bad_placed kind.Dispute plan) before (flat_map (dispute_tree as_place) (map (dispute_of plan seed) list))
  claims-good before [] facts all = refl
  claims-good before (claimed ∷ list) facts all =
      let lines : List Placed = dispute_tree as_place (dispute_of plan seed claimed) in
      let part : EachOf (IsPart 7) lines = (refl, of-all (IsPart 7) (code_leaf as_place block.Dispute claimed.ballot) (dispute_of plan seed claimed).codes (λ code. refl)) in
      good-append (bad_placed kind.Dispute plan) before lines (flat_map (dispute_tree as_place) (map (dispute_of plan seed) list)) (claim-good before facts claimed all.0)
      (claims-good (before ++ lines) list (λ b r code within. without before lines part b r code ∙ facts b r code within) all.1)

  -- what stands before the disputes
  abbrev others : List Placed
  others = head posted ++ (commit_tree as_place posted ++ (blocks posted ++ (result_tree as_place posted ++ opening_tree as_place posted)))

  whole : places_in posted ≡ others ++ claim_places posted
  unfolding places_in
  whole =
      let h : List Placed = head posted in
      let c : List Placed = commit_tree as_place posted in
      let b : List Placed = blocks posted in
      let r : List Placed = result_tree as_place posted in
      let o : List Placed = opening_tree as_place posted in
      let d : List Placed = claim_places posted in
      sym (append_assoc h (c ++ (b ++ (r ++ o))) d
      ∙ ap (λ l. h ++ l) (append_assoc c (b ++ (r ++ o)) d ∙ ap (λ l. c ++ l) (append_assoc b (r ++ o) d ∙ ap (λ l. b ++ l) (append_assoc r o d))))

  others-never : EachOf (λ (line : Placed). (front : List Placed) → bad_placed kind.Dispute plan front line ≡ false) others
  others-never =
      let P : Placed → Type 0 = λ line. (front : List Placed) → bad_placed kind.Dispute plan front line ≡ false in
      let by : (part : ℕ) (xs : List Placed) → part < 7 → EachOf (IsPart part) xs → EachOf P xs = λ part xs less all. of-into (IsPart part) P xs (λ line is. never-bad plan line (λ e. omega (arith, less, is, e))) all in
      of-append P (head posted) _ (by 0 (head posted) (omega arith) (head_is posted))
      (of-append P (commit_tree as_place posted) _ (by 2 (commit_tree as_place posted) (omega arith) (commits_are posted))
      (of-append P (blocks posted) _ (by 3 (blocks posted) (omega arith) (blocks_are posted))
      (of-append P (result_tree as_place posted) (opening_tree as_place posted) (by 4 (result_tree as_place posted) (omega arith) (results_are posted))
      (draw-never plan draw, by 6 _ (omega arith) (rows_are posted)))))

  pub disputes-whole : Good (bad_placed kind.Dispute plan) [] (places_in posted)
  disputes-whole =
      let part : EachOf (IsPart 7) (claim_places posted) = disputes-of (IsPart 7) posted.disputes (λ b r c w. refl) (λ b r c code. refl) in
      let facts : MarksTold others = λ b r code within. sym (without others (claim_places posted) part b r code) ∙ (ap (list_any (marks_code b r code)) (sym whole) ∙ marks-told b r code within) in
      subst (λ (l : List Placed). Good (bad_placed kind.Dispute plan) [] l) (sym whole)
      (good-append (bad_placed kind.Dispute plan) [] others (claim_places posted) (good-never (bad_placed kind.Dispute plan) [] others others-never) (claims-good others claims facts told.claims_right))
