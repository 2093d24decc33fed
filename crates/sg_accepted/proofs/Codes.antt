-- The codes that the blocks of a posted record show in a race: those of marks, and all of an audited ballot.
use Rattle.std.proofs.Common.{◌≡◌, ◌≢◌, ℕ, ◌+◌, ◌*◌, ◌/◌, ◌%◌, ◌<◌, ◌≤◌, ◌==◌, nat_lt, Bool, true, false, ◌&&◌, ◌||◌, not, cond, inl, inr, List, [], ◌∷◌, ◌++◌, length, map, Some, None, refl, sym, ap, ◌∙◌, arith, append-nil}
use Rattle.std.proofs.Math.Bool.{and-false, and-true}
use Rattle.std.proofs.lemmas.Bool.{and_parts, cases_eq, eq-eqb, ltb-true, ne_eqb}
use Rattle.std.proofs.lemmas.List.Concat.{flat_map-append}
use Rattle.std.proofs.lemmas.List.Sums.{sum_by-append, sum_by-cons}
use Rattle.std.proofs.lemmas.Nat.{div-add-mod', div-mul-add, mod_below}
use Rattle.std.specs.List.{flat_map, list_all, list_any}
use Rattle.std.specs.Prelude.{sum_by}
use Rattle.sg_lists.proofs.Any.{any-count, any-filter, any-flat, any-map}
use Rattle.sg_lists.proofs.Bools.{one_if}
use Rattle.sg_lists.proofs.Each.{EachOf, of-all, of-into, of-none}
use Rattle.sg_lists.proofs.Sums.{sum-flat, sum-map, sum-of, sum-zero}
use Rattle.sg_plan.proofs.PlanLaws.{bounds}
use Rattle.sg_plan.specs.Ballots.{ballot_has, ballot_row, candidates_of, entry_at, is_over, races_of_ballot}
use Rattle.sg_plan.specs.Fates.{fate_fits, has_mark, mark_fits, marks_differ}
use Rattle.sg_plan.specs.Limits.{fault_of}
use Rattle.sg_plan.specs.declared.plan.Draw.{Draw}
use Rattle.sg_plan.specs.declared.plan.Fate.{Fate}
use Rattle.sg_plan.specs.declared.plan.Fate.TheVariants as fate
use Rattle.sg_plan.specs.declared.plan.Mark.{Mark}
use Rattle.sg_plan.specs.declared.plan.Plan.{Plan}
use Rattle.sg_streams.specs.Numbers.{numbers_below}
use Rattle.sg_tables.specs.Posts.{fate_marks, marked_columns}
use Rattle.sg_tables.specs.Tables.{shown_by}
use Rattle.sg_forms.specs.declared.line.CodeLine.{CodeLine}
use Rattle.sg_grammar.specs.Placed.{Placed}
use Rattle.sg_grammar.specs.Placed.Placed.{Begun, CodeAt, PaperAt}
use Rattle.sg_grammar.specs.declared.state.Block.TheVariants as block
use Rattle.sg_record.specs.Places.{places_in}
use Rattle.sg_record.specs.Tree.{as_place, block_tree, cast_leaf, cast_place, code_leaf, commit_tree, paper_tree}
use Rattle.sg_record.specs.declared.record.BallotBlock.{BallotBlock}
use Rattle.sg_record.specs.declared.record.BlockFate.{BlockFate}
use Rattle.sg_record.specs.declared.record.BlockFate.TheVariants as blocked
use Rattle.sg_record.specs.declared.record.CastLine.{CastLine}
use Rattle.sg_record.specs.declared.record.CastLine.TheVariants as cast
use Rattle.sg_record.specs.declared.record.Record.{Record}
use Rattle.sg_check.specs.Facts.{is_marked as posted_marked, marks_entry}
use Rattle.sg_post.proofs.Notes.{note_race, notes-of}
use Rattle.sg_post.proofs.OwnCodes.{marks-have}
use Rattle.sg_post.proofs.StoryFits.{fits-later, fits_ballot}
use Rattle.sg_post.specs.Fits.{fates_fit}
use Rattle.sg_post.specs.Marks.{is_entry_of, is_entry_marked, told_marks}
use Rattle.sg_post.specs.Posted.{audited_codes, audited_race_codes, cast_lines, code_in_row, code_line_of, fate_blocks, posted_record, race_cast_lines, race_codes_of, race_notes, told_blocks}
use Rattle.sg_post.specs.declared.story.Claimed.{Claimed}
use Rattle.sg_post.specs.declared.story.Told.{Told}
use Rattle.sg_facts.proofs.Rising.{IsPart, all-behind, ballots-rise, behind_ballots, behind_commits, blocks, commits_are, head, head_is, part_of}
use Rattle.sg_facts.proofs.Sections.{papers-of}
use Rattle.sg_accepted.proofs.Any.{any-number, none-below, sum-number}
use Rattle.sg_accepted.specs.Unaltered.{told_fate}

-- THE CODES OF A BALLOT

-- a code of the ballot, in a block of this kind
abbrev pub cast_code : Plan → List ℕ → ℕ → ℕ → ℕ → Placed
cast_code plan seed race ballot column = CodeAt block.Cast ballot race column (code_line_of plan seed ballot race column)

abbrev pub audited_code_at : Plan → List ℕ → ℕ → ℕ → ℕ → Placed
audited_code_at plan seed race ballot column = CodeAt block.Audited ballot race column (code_line_of plan seed ballot race column)

-- the codes of a race in the block of a ballot with this fate
abbrev pub told_codes : Plan → List ℕ → ℕ → ℕ → Fate → List Placed
told_codes plan seed race ballot (fate.Cast marks) = map (cast_code plan seed race ballot) (marked_columns plan seed race (ballot_row plan race ballot) (fate.Cast marks))
told_codes plan seed race ballot (fate.Audited paper) = cond (ballot_has plan ballot race) (map (audited_code_at plan seed race ballot) (numbers_below (candidates_of plan race))) []
told_codes plan seed race ballot other = []

abbrev pub fates_codes : Plan → List ℕ → ℕ → List Told → List Placed
fates_codes plan seed race fates = flat_map (λ told. told_codes plan seed race told.ballot told.fate) fates

-- a property of each of them
module _ (P : Placed → Type 0) (plan : Plan) (seed : List ℕ) (race ballot : ℕ) (audited : (column : ℕ) → P (audited_code_at plan seed race ballot column)) where
  pub audited-each : (paper : List (List ℕ)) → EachOf P (told_codes plan seed race ballot (fate.Audited paper))
  audited-each paper = at_has (ballot_has plan ballot race)
    where
      at_has : (b : Bool) → EachOf P (cond b (map (audited_code_at plan seed race ballot) (numbers_below (candidates_of plan race))) [])
      at_has true = of-all P (audited_code_at plan seed race ballot) (numbers_below (candidates_of plan race)) audited
      at_has false = tt

  pub codes-each : ((column : ℕ) → P (cast_code plan seed race ballot column)) → (what : Fate) → EachOf P (told_codes plan seed race ballot what)
  codes-each marked (fate.Cast marks) = of-all P (cast_code plan seed race ballot) (marked_columns plan seed race (ballot_row plan race ballot) (fate.Cast marks)) marked
  codes-each marked (fate.Audited paper) = audited-each paper
  codes-each marked other = tt

-- the line is a code of the race in the block of a cast or of an audited ballot
abbrev pub shows_in : ℕ → Placed → Bool
shows_in race (CodeAt block.Cast ballot of column code) = of == race
shows_in race (CodeAt block.Audited ballot of column code) = of == race
shows_in race (CodeAt block.Dispute ballot of column code) = false
shows_in race line = false

other-part : (race : ℕ) (line : Placed) → part_of line ≢ 3 → shows_in race line ≡ false
other-part race (CodeAt block.Cast ballot of column code) other = absurd (other refl)
other-part race (CodeAt block.Audited ballot of column code) other = absurd (other refl)
other-part race (CodeAt block.Dispute ballot of column code) other = refl
other-part race line other = refl

-- a note is no such line
note-hidden : (race r ballot : ℕ) (line : CastLine) → note_race line ≡ Some r → shows_in race (cast_place ballot line) ≡ false
note-hidden race r ballot (cast.Code code) of = cc
note-hidden race r ballot line of = refl

-- WHAT NO OTHER LINE COUNTS FOR

module _ (plan : Plan) (seed : List ℕ) (race : ℕ) (within : race < length plan.races) (g : Placed → ℕ) (only : (line : Placed) → shows_in race line ≡ false → g line ≡ 0) where
  begun : (ballot : ℕ) (lines : List Placed) → sum_by g (Begun ballot ∷ lines) ≡ sum_by g lines
  begun ballot lines = omega (arith, sum_by-cons g (Begun ballot) lines, only (Begun ballot) refl)

  -- a race of a cast ballot
  race-sum : (ballot : ℕ) (marks : List Mark) (r : ℕ)
      → sum_by (λ line. g (cast_place ballot line)) (race_cast_lines plan seed ballot (fate.Cast marks) r) ≡ sum_by (λ c. g (cast_code plan seed r ballot c)) (marked_columns plan seed r (ballot_row plan r ballot) (fate.Cast marks))
  unfolding code_in_row
  race-sum ballot marks r =
      let columns : List ℕ = marked_columns plan seed r (ballot_row plan r ballot) (fate.Cast marks) in
      let codes : List CodeLine = map (code_line_of plan seed ballot r) columns in
      let shown : sum_by h (map cast.Code codes) ≡ sum_by (λ c. g (cast_code plan seed r ballot c)) columns = sum-map h cast.Code codes ∙ sum-map (λ code. h (cast.Code code)) (code_line_of plan seed ballot r) columns in
      sum_by-append h (map cast.Code codes) (race_notes plan ballot (fate.Cast marks) r) ∙ omega (arith, shown, noted)
    where
      h : CastLine → ℕ
      h line = g (cast_place ballot line)

      noted : sum_by h (race_notes plan ballot (fate.Cast marks) r) ≡ 0
      noted =
          sum-of h (race_notes plan ballot (fate.Cast marks) r)
          (of-into (λ (line : CastLine). note_race line ≡ Some r) (λ (line : CastLine). h line ≡ 0) (race_notes plan ballot (fate.Cast marks) r) (λ line of. only (cast_place ballot line) (note-hidden race r ballot line of))
          (notes-of plan ballot r (fate.Cast marks)))

  cast-sum : (ballot : ℕ) (marks : List Mark) → sum_by g (map (cast_leaf as_place ballot) (cast_lines plan seed ballot (fate.Cast marks))) ≡ sum_by g (told_codes plan seed race ballot (fate.Cast marks))
  unfolding cast_lines
  cast-sum ballot marks =
      let h : CastLine → ℕ = λ line. g (cast_place ballot line) in
      let lines : ℕ → List CastLine = race_cast_lines plan seed ballot (fate.Cast marks) in
      let columns : ℕ → List ℕ = λ r. marked_columns plan seed r (ballot_row plan r ballot) (fate.Cast marks) in
      sum-map g (cast_leaf as_place ballot) (cast_lines plan seed ballot (fate.Cast marks))
      ∙ (sum-flat h lines (numbers_below (length plan.races))
      ∙ (sum-number (λ r. sum_by h (lines r)) (length plan.races) race within
      (λ r below other. race-sum ballot marks r ∙ sum-zero (λ c. g (cast_code plan seed r ballot c)) (columns r) (λ c. only (cast_code plan seed r ballot c) (ne_eqb r race other)))
      ∙ (race-sum ballot marks race ∙ sym (sum-map g (cast_code plan seed race ballot) (columns race)))))

  audit-sum : (ballot : ℕ) (paper : List (List ℕ))
      → sum_by g (paper_tree as_place ballot (races_of_ballot plan ballot) paper ++ map (code_leaf as_place block.Audited ballot) (audited_codes plan seed ballot)) ≡ sum_by g (told_codes plan seed race ballot (fate.Audited paper))
  unfolding audited_codes code_in_row
  audit-sum ballot paper =
      let papers : List Placed = paper_tree as_place ballot (races_of_ballot plan ballot) paper in
      let codes : List CodeLine = audited_codes plan seed ballot in
      omega (
        arith,
        sum_by-append g papers (map (code_leaf as_place block.Audited ballot) codes),
        sum-of g papers (papers-of (λ line. g line ≡ 0) (λ b r l. only (PaperAt b r l) refl) ballot (races_of_ballot plan ballot) paper),
        sum-map g (code_leaf as_place block.Audited ballot) codes
            ∙ (sum-flat h (audited_race_codes plan seed ballot) (numbers_below (length plan.races))
            ∙ (sum-number (λ r. sum_by h (audited_race_codes plan seed ballot r)) (length plan.races) race within (λ r below other. elsewhere r other (ballot_has plan ballot r))
            ∙ here (ballot_has plan ballot race))),
      )
    where
      h : CodeLine → ℕ
      h code = g (code_leaf as_place block.Audited ballot code)

      elsewhere : (r : ℕ) → r ≢ race → (b : Bool) → sum_by h (cond b (race_codes_of plan seed ballot r) []) ≡ 0
      elsewhere r other true =
          sum-map h (code_line_of plan seed ballot r) (numbers_below (candidates_of plan r))
          ∙ sum-zero (λ c. h (code_line_of plan seed ballot r c)) (numbers_below (candidates_of plan r)) (λ c. only (code_leaf as_place block.Audited ballot (code_line_of plan seed ballot r c)) (ne_eqb r race other))
      elsewhere r other false = refl

      here : (b : Bool) → sum_by h (cond b (race_codes_of plan seed ballot race) []) ≡ sum_by g (cond b (map (audited_code_at plan seed race ballot) (numbers_below (candidates_of plan race))) [])
      here true = sum-map h (code_line_of plan seed ballot race) (numbers_below (candidates_of plan race)) ∙ sym (sum-map g (audited_code_at plan seed race ballot) (numbers_below (candidates_of plan race)))
      here false = refl

  block-sum : (ballot : ℕ) (what : Fate)
      → sum_by g (flat_map (block_tree as_place plan) (map (λ (w : BlockFate). let one : BallotBlock = record { ballot = ballot; fate = w } in one) (fate_blocks plan seed ballot what))) ≡ sum_by g (told_codes plan seed race ballot what)
  block-sum ballot fate.Unused = refl
  block-sum ballot (fate.Cast marks) =
      let lines : List Placed = map (cast_leaf as_place ballot) (cast_lines plan seed ballot (fate.Cast marks)) in
      ap (sum_by g) (append-nil (Begun ballot ∷ lines)) ∙ (begun ballot lines ∙ cast-sum ballot marks)
  block-sum ballot fate.Spoiled = begun ballot []
  block-sum ballot (fate.Audited paper) =
      let lines : List Placed = paper_tree as_place ballot (races_of_ballot plan ballot) paper ++ map (code_leaf as_place block.Audited ballot) (audited_codes plan seed ballot) in
      ap (sum_by g) (append-nil (Begun ballot ∷ lines)) ∙ (begun ballot lines ∙ audit-sum ballot paper)
  block-sum ballot fate.Voided = at_version (plan.version == 2)
    where
      at_version : (b : Bool) → sum_by g (flat_map (block_tree as_place plan) (record { ballot = ballot; fate = cond b blocked.Voided blocked.Spoiled } ∷ [])) ≡ 0
      at_version true = begun ballot []
      at_version false = begun ballot []

  blocks-sum : (fates : List Told) → sum_by g (flat_map (block_tree as_place plan) (flat_map (told_blocks plan seed) fates)) ≡ sum_by g (fates_codes plan seed race fates)
  blocks-sum [] = refl
  blocks-sum (told ∷ fates) =
      ap (sum_by g) (flat_map-append (block_tree as_place plan) (told_blocks plan seed told) (flat_map (told_blocks plan seed) fates))
      ∙ omega (
        arith,
        sum_by-append g (flat_map (block_tree as_place plan) (told_blocks plan seed told)) (flat_map (block_tree as_place plan) (flat_map (told_blocks plan seed) fates)),
        sum_by-append g (told_codes plan seed race told.ballot told.fate) (fates_codes plan seed race fates),
        block-sum told.ballot told.fate,
        blocks-sum fates,
      )

  -- all lines of the record
  pub sum-codes : (fates : List Told) (draw : Draw) (claims : List Claimed) → sum_by g (places_in (posted_record plan seed fates draw claims)) ≡ sum_by g (fates_codes plan seed race fates)
  unfolding places_in
  sum-codes fates draw claims =
      let posted : Record = posted_record plan seed fates draw claims in
      let none : (line : Placed) → part_of line ≢ 3 → g line ≡ 0 = λ line other. only line (other-part race line other) in
      omega (
        arith,
        sum_by-append g (head posted) (commit_tree as_place posted ++ behind_commits posted),
        sum_by-append g (commit_tree as_place posted) (behind_commits posted),
        sum_by-append g (blocks posted) (behind_ballots posted),
        sum-of g (head posted) (of-into (IsPart 0) (λ line. g line ≡ 0) (head posted) (λ line is. none line (λ e. omega (arith, is, e))) (head_is posted)),
        sum-of g (commit_tree as_place posted) (of-into (IsPart 2) (λ line. g line ≡ 0) (commit_tree as_place posted) (λ line is. none line (λ e. omega (arith, is, e))) (commits_are posted)),
        sum-of g (behind_ballots posted)
            (of-into (λ line. 4 ≤ part_of line) (λ line. g line ≡ 0) (behind_ballots posted) (λ line less. none line (λ e. omega (arith, less, e))) (all-behind 4 (behind_ballots posted) (ballots-rise posted))),
        blocks-sum fates,
      )

-- a test that no other line passes
pub any-codes : (plan : Plan) (seed : List ℕ) (fates : List Told) (draw : Draw) (claims : List Claimed) (race : ℕ) (test : Placed → Bool) → race < length plan.races → ((line : Placed) → shows_in race line ≡ false → test line ≡ false)
    → list_any test (places_in (posted_record plan seed fates draw claims)) ≡ list_any (λ told. list_any test (told_codes plan seed race told.ballot told.fate)) fates
any-codes plan seed fates draw claims race test within only =
    any-count test (places_in (posted_record plan seed fates draw claims))
    ∙ (ap (nat_lt 0) (sum-codes plan seed race within (λ line. one_if (test line)) (λ line is. ap one_if (only line is)) fates draw claims)
    ∙ (sym (any-count test (fates_codes plan seed race fates)) ∙ any-flat test (λ (told : Told). told_codes plan seed race told.ballot told.fate) fates))

-- WHAT ONLY ONE BALLOT COUNTS FOR

module _ (plan : Plan) (h : ℕ → Fate → ℕ) (ballot : ℕ) (never : (other : ℕ) (what : Fate) → other ≢ ballot → h other what ≡ 0) (unused : h ballot fate.Unused ≡ 0) where
  -- no later ballot does
  sum-later : (last : ℕ) (fates : List Told) → ballot ≤ last → fates_fit plan last fates ≡ true → sum_by (λ told. h told.ballot told.fate) fates ≡ 0
  sum-later last [] past fit = refl
  sum-later last (told ∷ fates) past fit =
      let parts = and_parts (nat_lt last told.ballot && fate_fits plan told.ballot told.fate) (fates_fit plan told.ballot fates) fit in
      let less : last < told.ballot = ltb-true last told.ballot (and_parts (nat_lt last told.ballot) (fate_fits plan told.ballot told.fate) parts.0).0 in
      omega (
        arith,
        sum_by-cons (λ (t : Told). h t.ballot t.fate) told fates,
        never told.ballot told.fate (λ e. omega (arith, e, less, past)),
        sum-later told.ballot fates (omega (arith, less, past)) parts.1,
      )

  pub sum-told : (last : ℕ) (fates : List Told) → fates_fit plan last fates ≡ true → sum_by (λ told. h told.ballot told.fate) fates ≡ h ballot (told_fate fates ballot)
  sum-told last [] fit = sym unused
  sum-told last (told ∷ fates) fit =
      let parts = and_parts (nat_lt last told.ballot && fate_fits plan told.ballot told.fate) (fates_fit plan told.ballot fates) fit in
      let first = sum_by-cons (λ (t : Told). h t.ballot t.fate) told fates in
      elim (cases_eq told.ballot ballot) [
        | inl same ↦
            let here : h told.ballot told.fate ≡ h ballot told.fate = ap (λ (b : ℕ). h b told.fate) same in
            let rest = sum-later told.ballot fates (omega (arith, same)) parts.1 in
            rw (eq-eqb told.ballot ballot same) (omega (arith, first, here, rest))
        | inr differ ↦
            let none = never told.ballot told.fate differ in
            let rest = sum-told told.ballot fates parts.1 in
            rw (ne_eqb told.ballot ballot differ) (omega (arith, first, none, rest))
      ]

-- the same of tests
pub any-told : (plan : Plan) (test : ℕ → Fate → Bool) (ballot : ℕ) → ((other : ℕ) (what : Fate) → other ≢ ballot → test other what ≡ false) → test ballot fate.Unused ≡ false
    → (fates : List Told) → fates_fit plan 0 fates ≡ true → list_any (λ told. test told.ballot told.fate) fates ≡ test ballot (told_fate fates ballot)
any-told plan test ballot never unused fates fit =
    any-count (λ (told : Told). test told.ballot told.fate) fates
    ∙ (ap (nat_lt 0) (sum-told plan (λ b what. one_if (test b what)) ballot (λ other what differ. ap one_if (never other what differ)) (ap one_if unused) 0 fates fit) ∙ some (test ballot (told_fate fates ballot)))
  where
    some : (b : Bool) → nat_lt 0 (one_if b) ≡ b
    some true = refl
    some false = refl

-- MARKED ENTRIES

-- one of the ballot's columns is the entry's, where its row is
pub row-columns : (plan : Plan) (ballot race entry : ℕ) (p : ℕ → Bool) → 0 < candidates_of plan race
    → list_any (λ column. p (entry_at plan race ballot column) && entry_at plan race ballot column == entry) (numbers_below (candidates_of plan race)) ≡ (ballot_row plan race ballot == entry / candidates_of plan race && p entry)
row-columns plan ballot race entry p some =
    let k = candidates_of plan race in
    let test : ℕ → Bool = λ column. p (entry_at plan race ballot column) && entry_at plan race ballot column == entry in
    elim (cases_eq (ballot_row plan race ballot) (entry / k)) [
      | inl same ↦
          let is : entry_at plan race ballot (entry % k) ≡ entry = ap (λ (r : ℕ). r * k + entry % k) same ∙ div-add-mod' entry k in
          any-number test k (entry % k) (mod_below entry k some)
          (λ c below other. rw (ne_eqb (entry_at plan race ballot c) entry (λ e. other (let both : ballot_row plan race ballot * k + c ≡ ballot_row plan race ballot * k + entry % k = e ∙ sym is in omega (arith, both)))) (and-false (p (entry_at plan race ballot c))))
          ∙ (ap (λ (e : ℕ). p e && e == entry) is ∙ rw (eq-eqb entry entry refl, eq-eqb (ballot_row plan race ballot) (entry / k) same) (and-true (p entry)))
      | inr apart ↦
          none-below test k (λ c below. rw (ne_eqb (entry_at plan race ballot c) entry (λ e. apart (sym (div-mul-add (ballot_row plan race ballot) k c below) ∙ ap (λ (n : ℕ). n / k) e))) (and-false (p (entry_at plan race ballot c))))
          ∙ sym (ap (λ (b : Bool). b && p entry) (ne_eqb (ballot_row plan race ballot) (entry / k) apart))
    ]

-- a ballot's block marks the entry exactly where its fate does
told-marked : (plan : Plan) (seed : List ℕ) (race entry ballot : ℕ) (what : Fate) → 0 < candidates_of plan race → fits_ballot plan ballot what
    → list_any (marks_entry plan race entry) (told_codes plan seed race ballot what) ≡ (is_entry_of plan race entry ballot && fate_marks plan race (shown_by plan seed race entry) what)
told-marked plan seed race entry ballot (fate.Cast marks) some fit =
    let fits = (and_parts (list_all (mark_fits plan (races_of_ballot plan ballot)) marks) (marks_differ marks) fit).0 in
    let row = ballot_row plan race ballot in
    let p : ℕ → Bool = λ e. fate_marks plan race (shown_by plan seed race e) (fate.Cast marks) in
    any-map (marks_entry plan race entry) (cast_code plan seed race ballot) (marked_columns plan seed race row (fate.Cast marks))
    ∙ (any-filter (λ c. race == race && entry_at plan race ballot c == entry) (λ c. p (entry_at plan race ballot c)) (numbers_below (candidates_of plan race))
    ∙ (ap (λ (b : Bool). list_any (λ c. p (entry_at plan race ballot c) && (b && entry_at plan race ballot c == entry)) (numbers_below (candidates_of plan race))) (eq-eqb race race refl)
    ∙ (row-columns plan ballot race entry p some
    ∙ with_race (ballot_has plan ballot race) (row == entry / candidates_of plan race) (has_mark marks race (shown_by plan seed race entry)) (not (is_over plan marks race))
    (λ e. marks-have plan ballot race (shown_by plan seed race entry) marks fits e))))
  where
    -- what is marked is of a race that the ballot has
    with_race : (has same marked counts : Bool) → (marked ≡ true → has ≡ true) → (same && (marked && counts)) ≡ ((has && same) && (marked && counts))
    with_race true same marked counts into = refl
    with_race false same true counts into = let no : false ≡ true = into refl in cc
    with_race false same false counts into = and-false same
told-marked plan seed race entry ballot (fate.Audited paper) some fit =
    of-none (marks_entry plan race entry) (told_codes plan seed race ballot (fate.Audited paper)) (audited-each (λ (line : Placed). marks_entry plan race entry line ≡ false) plan seed race ballot (λ column. refl) paper)
    ∙ sym (and-false (is_entry_of plan race entry ballot))
told-marked plan seed race entry ballot other some fit = sym (and-false (is_entry_of plan race entry ballot))

fates-marked : (plan : Plan) (seed : List ℕ) (race entry last : ℕ) (fates : List Told) → 0 < candidates_of plan race → fates_fit plan last fates ≡ true
    → list_any (λ told. list_any (marks_entry plan race entry) (told_codes plan seed race told.ballot told.fate)) fates ≡ list_any (told_marks plan seed race entry) fates
fates-marked plan seed race entry last [] some fit = refl
fates-marked plan seed race entry last (told ∷ fates) some fit =
    let parts = and_parts (nat_lt last told.ballot && fate_fits plan told.ballot told.fate) (fates_fit plan told.ballot fates) fit in
    ap (λ (b : Bool). b || list_any (λ (t : Told). list_any (marks_entry plan race entry) (told_codes plan seed race t.ballot t.fate)) fates)
    (told-marked plan seed race entry told.ballot told.fate some (fits-later plan last told.ballot told.fate parts.0).1)
    ∙ ap (λ (b : Bool). told_marks plan seed race entry told || b) (fates-marked plan seed race entry told.ballot fates some parts.1)

-- the record marks what the fates mark
pub codes-marked : (plan : Plan) (seed : List ℕ) (fates : List Told) (draw : Draw) (claims : List Claimed) → fault_of plan ≡ None → fates_fit plan 0 fates ≡ true → (race entry : ℕ) → race < length plan.races
    → posted_marked plan race entry (places_in (posted_record plan seed fates draw claims)) ≡ is_entry_marked plan seed fates race entry
unfolding is_entry_marked
codes-marked plan seed fates draw claims fine fit race entry within =
    any-codes plan seed fates draw claims race (marks_entry plan race entry) within only ∙ fates-marked plan seed race entry 0 fates (omega (arith, (bounds plan fine).two_candidates race within)) fit
  where
    only : (line : Placed) → shows_in race line ≡ false → marks_entry plan race entry line ≡ false
    only (CodeAt block.Cast ballot of column code) is = ap (λ (b : Bool). b && entry_at plan of ballot column == entry) is
    only (CodeAt block.Audited ballot of column code) is = refl
    only (CodeAt block.Dispute ballot of column code) is = refl
    only line is = refl
