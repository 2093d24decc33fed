-- Kind rule: marks within the votes, different codes on a ballot, one code of an entry, and papers without a repeat.
use Rattle.std.proofs.Common.{◌≡◌, ℕ, zero, suc, ◌+◌, ◌*◌, ◌<◌, ◌≤◌, ◌==◌, nat_le, nat_lt, Bool, true, false, ◌&&◌, ◌||◌, not, cond, inl, inr, List, [], ◌∷◌, length, map, slice_get, Option, Some, None, refl, sym, subst, ap, ◌∙◌, arith}
use Rattle.std.proofs.Math.Bool.{and-false, and-true}
use Rattle.std.proofs.lemmas.Bool.{and_from, and_left, and_parts, and_right, cases_Bool, cases_eq, eq-eqb, eqb-true, lt-leb, ltb-true, ltb-false, ne_eqb, or_from, false_from_ne_true, true≢false}
use Rattle.std.proofs.lemmas.List.Sums.{sum_by-append, sum_by-cons}
use Rattle.std.proofs.lemmas.Option.{same_Some, slice_get_within}
use Rattle.std.specs.List.{flat_map, list_all, list_any, range_with_len}
use Rattle.std.specs.Option.{option_map_or}
use Rattle.std.specs.Prelude.{count_by, sum_by}
use Rattle.sg_lists.proofs.Any.{any-count, any-place}
use Rattle.sg_lists.proofs.Bools.{one_if}
use Rattle.sg_lists.proofs.Each.{EachOf, of-flat, of-into, of-none, of-parts}
use Rattle.sg_lists.proofs.Sums.{count-one, sum-filter, sum-flat, sum-map, sum-of, sum-same, sum-zero}
use Rattle.sg_plan.proofs.LimitLaws.{keeps_limits, passes_tests}
use Rattle.sg_plan.proofs.PlanLaws.{entry_tells}
use Rattle.sg_plan.specs.Ballots.{ballot_has, ballot_row, candidates_of, entry_at, is_over, marks_in, races_of_ballot, races_of_style, style_of_ballot, votes_of}
use Rattle.sg_plan.specs.Fates.{fate_fits, mark_fits}
use Rattle.sg_plan.specs.Limits.{KeepsStyle, fault_of}
use Rattle.sg_plan.specs.declared.plan.Draw.{Draw}
use Rattle.sg_plan.specs.declared.plan.Fate.{Fate}
use Rattle.sg_plan.specs.declared.plan.Fate.TheVariants as fate
use Rattle.sg_plan.specs.declared.plan.Mark.{Mark}
use Rattle.sg_plan.specs.declared.plan.Plan.{Plan}
use Rattle.sg_plan.specs.declared.plan.Style.{Style}
use Rattle.sg_streams.specs.Numbers.{numbers_below}
use Rattle.sg_tables.proofs.TableLaws.{code_laws, entry_laws, opening_laws}
use Rattle.sg_tables.specs.Posts.{fate_marks, marked_columns}
use Rattle.sg_tables.specs.Tables.{code_beside, codes_of_row, paper_of, shown_by}
use Rattle.sg_forms.specs.declared.line.CodeLine.{CodeLine}
use Rattle.sg_grammar.specs.Placed.{Placed}
use Rattle.sg_grammar.specs.Placed.Placed.{CodeAt, OverAt, PaperAt}
use Rattle.sg_grammar.specs.declared.state.Block.{Block}
use Rattle.sg_grammar.specs.declared.state.Block.TheVariants as block
use Rattle.sg_record.specs.Places.{places_in}
use Rattle.sg_record.specs.Tree.{as_place, cast_place, code_leaf, paper_tree}
use Rattle.sg_record.specs.declared.record.CastLine.{CastLine}
use Rattle.sg_record.specs.declared.record.CastLine.TheVariants as cast
use Rattle.sg_record.specs.declared.record.Record.{Record}
use Rattle.sg_check.specs.Facts.{marks_ballot}
use Rattle.sg_check.specs.Kinds.{bad_placed, has_repeat, shows_against}
use Rattle.sg_check.specs.declared.judged.Kind.TheVariants as kind
use Rattle.sg_post.proofs.MarkedCodes.{shows_mark}
use Rattle.sg_post.proofs.Notes.{note_race}
use Rattle.sg_post.proofs.OwnCodes.{HoldsOfOwn, marks-have}
use Rattle.sg_post.proofs.StoryFits.{fits-later, fits_ballot}
use Rattle.sg_post.specs.Fits.{fates_fit}
use Rattle.sg_post.specs.Posted.{code_in_row, code_line_of, posted_record, told_blocks}
use Rattle.sg_post.specs.declared.story.Claimed.{Claimed}
use Rattle.sg_post.specs.declared.story.Told.{Told}
use Rattle.sg_facts.proofs.Rising.{IsFront, is_plain, lines-of, record-good}
use Rattle.sg_facts.proofs.Sections.{blocks-of}
use Rattle.sg_accepted.proofs.Codes.{audited-each, cast_code, codes-each, shows_in, sum-codes, sum-told, told_codes}
use Rattle.sg_accepted.proofs.Late.{Good}
use Rattle.sg_accepted.proofs.Posted.{HasBlock, SaysRight, all-right, claims-of, fits-each, of-both, told-lines}
use Rattle.sg_accepted.proofs.Unaltered.{IsTold, holds-all}
use Rattle.sg_accepted.specs.Unaltered.{IsTrueFate, told_fate}

-- CODES OF ONE BALLOT

-- the code in a column of a ballot
pub code-value : (plan : Plan) (seed : List ℕ) (ballot race column : ℕ) → ballot_has plan ballot race ≡ true → column < candidates_of plan race
    → (code_line_of plan seed ballot race column).code ≡ code_beside plan seed race (ballot_row plan race ballot) (shown_by plan seed race (entry_at plan race ballot column))
unfolding code_in_row
code-value plan seed ballot race column has below =
    opening_laws.code plan seed race (entry_at plan race ballot column)
    ∙ (code_laws.beside plan seed race (entry_at plan race ballot column)
    ∙ ap (λ (r : ℕ). code_beside plan seed race r (shown_by plan seed race (entry_at plan race ballot column))) (entry_tells plan race ballot column has below).row)

-- columns that show the same candidate are one
pub shown-one : (plan : Plan) (seed : List ℕ) (ballot race column other : ℕ) → ballot_has plan ballot race ≡ true → column < candidates_of plan race → other < candidates_of plan race
    → shown_by plan seed race (entry_at plan race ballot column) ≡ shown_by plan seed race (entry_at plan race ballot other) → column ≡ other
shown-one plan seed ballot race column other has below less same =
    let here = entry_tells plan race ballot column has below in
    let there = entry_tells plan race ballot other has less in
    elim (cases_eq column other) [
      | inl e ↦ e
      | inr differ ↦ absurd ((entry_laws.apart plan seed race (entry_at plan race ballot column) (entry_at plan race ballot other) here.below there.below (here.row ∙ sym there.row)
          (λ e. differ (let split : ballot_row plan race ballot * candidates_of plan race + column ≡ ballot_row plan race ballot * candidates_of plan race + other = e in omega (arith, split)))).0 same)
    ]

-- different columns have different codes
pub codes-apart : (plan : Plan) (seed : List ℕ) (ballot race column other : ℕ) → fault_of plan ≡ None → race < length plan.races → ballot_has plan ballot race ≡ true → column < candidates_of plan race → other < candidates_of plan race
    → (code_line_of plan seed ballot race column).code ≡ (code_line_of plan seed ballot race other).code → column ≡ other
codes-apart plan seed ballot race column other fine within has below less same =
    let here = entry_tells plan race ballot column has below in
    let there = entry_tells plan race ballot other has less in
    let differ = code_laws.differ plan seed race (ballot_row plan race ballot) fine within in
    shown-one plan seed ballot race column other has below less
    (differ.one (shown_by plan seed race (entry_at plan race ballot column)) (shown_by plan seed race (entry_at plan race ballot other))
    (entry_laws.leads plan seed race (entry_at plan race ballot column) here.below).shows (entry_laws.leads plan seed race (entry_at plan race ballot other) there.below).shows
    (sym (code-value plan seed ballot race column has below) ∙ (same ∙ code-value plan seed ballot race other has less)))

-- so no line that is right shows anything against another that is
against-not : (plan : Plan) (seed : List ℕ) (fates : List Told) (draw : Draw) (ballot race column : ℕ) (line : Placed) → fault_of plan ≡ None → race < length plan.races → ballot_has plan ballot race ≡ true → column < candidates_of plan race
    → SaysRight plan seed fates draw line → shows_against ballot race column (code_line_of plan seed ballot race column).code line ≡ false
against-not plan seed fates draw ballot race column (CodeAt kind of in_race at shown) fine within has below is =
    elim (cases_eq of ballot) [
      | inr other ↦ and_left (of == ballot && in_race == race) _ (and_left (of == ballot) _ (ne_eqb of ballot other))
      | inl same_ballot ↦
          elim (cases_eq in_race race) [
            | inr other ↦ and_left (of == ballot && in_race == race) _ (and_right (of == ballot) _ (ne_eqb in_race race other))
            | inl same_race ↦
                let shows : shown.code ≡ (code_line_of plan seed ballot race at).code =
                ap (λ (c : CodeLine). c.code) is.3 ∙ (ap (λ (b : ℕ). (code_line_of plan seed b in_race at).code) same_ballot ∙ ap (λ (r : ℕ). (code_line_of plan seed ballot r at).code) same_race) in
                let at_below : at < candidates_of plan race = subst (λ (r : ℕ). at < candidates_of plan r) same_race is.2 in
                elim (cases_eq at column) [
                  | inl here ↦
                      and_right (of == ballot && in_race == race) _
                      (rw (eq-eqb at column here, eq-eqb shown.code (code_line_of plan seed ballot race column).code (shows ∙ ap (λ (c : ℕ). (code_line_of plan seed ballot race c).code) here)) refl)
                  | inr differ ↦
                      and_right (of == ballot && in_race == race) _
                      (rw (ne_eqb at column differ) (ne_eqb shown.code (code_line_of plan seed ballot race column).code
                      (λ e. differ (codes-apart plan seed ballot race at column fine within has at_below below (sym shows ∙ e)))))
                ]
          ]
    ]
against-not plan seed fates draw ballot race column line fine within has below is = refl

-- PAPERS

-- codes that are told apart by their places have no repeat
pub no-repeat : (list : List ℕ) → ((i j v : ℕ) → slice_get list i ≡ Some v → slice_get list j ≡ Some v → i ≡ j) → has_repeat list ≡ false
no-repeat [] one = refl
no-repeat (x ∷ list) one =
    or_from (list_any (λ other. other == x) list) (has_repeat list)
    (false_from_ne_true (list_any (λ other. other == x) list)
    (λ found.
    let at = any-place (λ other. other == x) list found in
    let same : 0 ≡ suc at.at = one 0 (suc at.at) x refl (at.found ∙ ap (λ v. Some v) (eqb-true at.item x at.passes)) in
    omega (arith, same)))
    (no-repeat list (λ i j v here there. let same : suc i ≡ suc j = one (suc i) (suc j) v here there in omega (arith, same)))

paper-good : (plan : Plan) (seed : List ℕ) (race row : ℕ) → fault_of plan ≡ None → race < length plan.races → has_repeat (codes_of_row plan seed race row) ≡ false
paper-good plan seed race row fine within =
    let differ = code_laws.differ plan seed race row fine within in
    let codes : List ℕ = codes_of_row plan seed race row in
    let below : (k v : ℕ) → slice_get codes k ≡ Some v → k < candidates_of plan race = λ k v e. omega (arith, slice_get_within codes k v e, differ.many) in
    no-repeat codes
    (λ i j v here there. differ.one i j (below i v here) (below j v there)
    (same_Some (code_beside plan seed race row i) (code_beside plan seed race row j) (sym (differ.listed i (below i v here)) ∙ (here ∙ (sym there ∙ differ.listed j (below j v there))))))

-- WITHIN THE VOTES

-- the columns that show marked candidates are no more than the marks
marks-enough : (plan : Plan) (seed : List ℕ) (ballot race : ℕ) (marks : List Mark) → ballot_has plan ballot race ≡ true
    → count_by (shows_mark plan seed marks ballot race) (numbers_below (candidates_of plan race)) ≤ marks_in race marks
unfolding numbers_below
marks-enough plan seed ballot race [] has = let none = sum-zero (λ (column : ℕ). 0) (range_with_len 0 (candidates_of plan race)) (λ column. refl) in omega (arith, none)
marks-enough plan seed ballot race (mark ∷ marks) has =
    let k = candidates_of plan race in
    let here = λ (column : ℕ). mark.race == race && mark.candidate == shown_by plan seed race (entry_at plan race ballot column) in
    let rest = marks-enough plan seed ballot race marks has in
    let first = sum_by-cons (λ (m : Mark). cond (m.race == race) 1 0) mark marks in
    let both = either (λ column. here column) (shows_mark plan seed marks ballot race) (range_with_len 0 k) in
    let one = at_race (mark.race == race) refl in
    omega (arith, rest, first, both, one)
  where
    either : (p q : ℕ → Bool) (xs : List ℕ) → count_by (λ x. p x || q x) xs ≤ count_by p xs + count_by q xs
    either p q [] = omega arith
    either p q (x ∷ xs) =
        let a = sum_by-cons (λ y. cond (p y || q y) 1 0) x xs in
        let b = sum_by-cons (λ y. cond (p y) 1 0) x xs in
        let c = sum_by-cons (λ y. cond (q y) 1 0) x xs in
        let d = at_first (p x) (q x) in
        let e = either p q xs in
        omega (arith, a, b, c, d, e)
      where
        at_first : (s t : Bool) → one_if (s || t) ≤ one_if s + one_if t
        at_first true t = omega arith
        at_first false t = omega arith

    at_race : (b : Bool) → mark.race == race ≡ b
        → count_by (λ column. b && mark.candidate == shown_by plan seed race (entry_at plan race ballot column)) (range_with_len 0 (candidates_of plan race)) ≤ one_if b
    at_race true e =
        count-one (λ column. mark.candidate == shown_by plan seed race (entry_at plan race ballot column)) 0 (candidates_of plan race)
        (λ j k a b p q. shown-one plan seed ballot race j k has (omega (arith, a)) (omega (arith, b))
        (sym (eqb-true mark.candidate (shown_by plan seed race (entry_at plan race ballot j)) p) ∙ eqb-true mark.candidate (shown_by plan seed race (entry_at plan race ballot k)) q))
    at_race false e = let none = sum-zero (λ (column : ℕ). 0) (range_with_len 0 (candidates_of plan race)) (λ column. refl) in omega (arith, none)

-- the marks that are posted of a ballot with this fate
abbrev marks_posted : Plan → List ℕ → ℕ → ℕ → Fate → ℕ
marks_posted plan seed ballot race what = count_by (marks_ballot ballot race) (told_codes plan seed race ballot what)

cast-count : (plan : Plan) (seed : List ℕ) (ballot race : ℕ) (marks : List Mark)
    → marks_posted plan seed ballot race (fate.Cast marks) ≡ count_by (λ column. shows_mark plan seed marks ballot race column && not (is_over plan marks race)) (numbers_below (candidates_of plan race))
cast-count plan seed ballot race marks =
    let g : Placed → ℕ = λ line. one_if (marks_ballot ballot race line) in
    let p : ℕ → Bool = λ column. shows_mark plan seed marks ballot race column && not (is_over plan marks race) in
    let columns : List ℕ = numbers_below (candidates_of plan race) in
    sum-map g (cast_code plan seed race ballot) (marked_columns plan seed race (ballot_row plan race ballot) (fate.Cast marks))
    ∙ (sum-filter (λ c. g (cast_code plan seed race ballot c)) p columns
    ∙ sum-same (λ c. cond (p c) (g (cast_code plan seed race ballot c)) 0) (λ c. one_if (p c)) columns (λ c. rw (eq-eqb ballot ballot refl, eq-eqb race race refl) refl))

audited-none : (plan : Plan) (seed : List ℕ) (ballot race : ℕ) (paper : List (List ℕ)) → marks_posted plan seed ballot race (fate.Audited paper) ≡ 0
audited-none plan seed ballot race paper =
    sum-of (λ line. one_if (marks_ballot ballot race line)) (told_codes plan seed race ballot (fate.Audited paper)) (audited-each (λ line. one_if (marks_ballot ballot race line) ≡ 0) plan seed race ballot (λ column. refl) paper)

-- where a ballot marks nothing in a race, nothing is posted of it
unmarked-none : (plan : Plan) (seed : List ℕ) (ballot race : ℕ) (what : Fate) → ((candidate : ℕ) → fate_marks plan race candidate what ≡ false) → marks_posted plan seed ballot race what ≡ 0
unmarked-none plan seed ballot race (fate.Cast marks) none =
    cast-count plan seed ballot race marks
    ∙ sum-zero (λ column. one_if (shows_mark plan seed marks ballot race column && not (is_over plan marks race))) (numbers_below (candidates_of plan race))
    (λ column. ap one_if (none (shown_by plan seed race (entry_at plan race ballot column))))
unmarked-none plan seed ballot race (fate.Audited paper) none = audited-none plan seed ballot race paper
unmarked-none plan seed ballot race other none = refl

-- what is posted of a ballot is within its votes
marks-within : (plan : Plan) (seed : List ℕ) (ballot race : ℕ) (what : Fate) → fits_ballot plan ballot what → marks_posted plan seed ballot race what ≤ votes_of plan race
marks-within plan seed ballot race (fate.Cast marks) fit =
    let counted = cast-count plan seed ballot race marks in
    let few = at_over (is_over plan marks race) refl in
    omega (arith, counted, few)
  where
    none : (p : ℕ → Bool) → ((column : ℕ) → p column ≡ false) → count_by p (numbers_below (candidates_of plan race)) ≤ votes_of plan race
    none p fails = let zero = sum-zero (λ column. one_if (p column)) (numbers_below (candidates_of plan race)) (λ column. ap one_if (fails column)) in omega (arith, zero)

    at_over : (b : Bool) → is_over plan marks race ≡ b → count_by (λ column. shows_mark plan seed marks ballot race column && not b) (numbers_below (candidates_of plan race)) ≤ votes_of plan race
    at_over true over = none (λ column. shows_mark plan seed marks ballot race column && false) (λ column. and-false (shows_mark plan seed marks ballot race column))
    at_over false over =
        let few = ltb-false (votes_of plan race) (marks_in race marks) over in
        elim (cases_Bool (ballot_has plan ballot race)) [
          | inl has ↦
              let enough = marks-enough plan seed ballot race marks has in
              let same = sum-same (λ column. one_if (shows_mark plan seed marks ballot race column && true)) (λ column. one_if (shows_mark plan seed marks ballot race column)) (numbers_below (candidates_of plan race))
              (λ column. ap one_if (and-true (shows_mark plan seed marks ballot race column))) in
              omega (arith, few, enough, same)
          | inr lacks ↦
              let fits = and_parts (list_all (mark_fits plan (races_of_ballot plan ballot)) marks) _ fit in
              none (λ column. shows_mark plan seed marks ballot race column && true)
              (λ column. and_left (shows_mark plan seed marks ballot race column) true
              (false_from_ne_true (shows_mark plan seed marks ballot race column)
              (λ shows. true≢false (sym (marks-have plan ballot race (shown_by plan seed race (entry_at plan race ballot column)) marks fits.0 shows) ∙ lacks))))
        ]
marks-within plan seed ballot race (fate.Audited paper) fit =
    let none = audited-none plan seed ballot race paper in
    omega (arith, none)
marks-within plan seed ballot race other fit = omega arith

-- the fate that is told of a ballot fits it
told-fits : (plan : Plan) (last : ℕ) (fates : List Told) (ballot : ℕ) → fates_fit plan last fates ≡ true → fits_ballot plan ballot (told_fate fates ballot)
told-fits plan last [] ballot fit = refl
told-fits plan last (told ∷ fates) ballot fit =
    let parts = and_parts (nat_lt last told.ballot && fate_fits plan told.ballot told.fate) (fates_fit plan told.ballot fates) fit in
    let here = fits-later plan last told.ballot told.fate parts.0 in
    elim (cases_eq told.ballot ballot) [
      | inl same ↦ rw (eq-eqb told.ballot ballot same) (subst (λ (b : ℕ). fits_ballot plan b told.fate) same here.1)
      | inr differ ↦ rw (ne_eqb told.ballot ballot differ) (told-fits plan told.ballot fates ballot parts.1)
    ]

-- each that is told is that of its ballot
abbrev IsToldAt : ℕ → List Told → Told → Type 0
IsToldAt last fates told = (last < told.ballot) × (told_fate fates told.ballot ≡ told.fate)

told-is : (plan : Plan) (last : ℕ) (fates : List Told) → fates_fit plan last fates ≡ true → EachOf (IsToldAt last fates) fates
told-is plan last [] fit = tt
told-is plan last (told ∷ fates) fit =
    let parts = and_parts (nat_lt last told.ballot && fate_fits plan told.ballot told.fate) (fates_fit plan told.ballot fates) fit in
    let less : last < told.ballot = ltb-true last told.ballot (and_parts (nat_lt last told.ballot) (fate_fits plan told.ballot told.fate) parts.0).0 in (
      (less, rw (eq-eqb told.ballot told.ballot refl) refl),
      of-into (IsToldAt told.ballot fates) (IsToldAt last (told ∷ fates)) fates
          (λ other is. (omega (arith, less, is.0), rw (ne_eqb told.ballot other.ballot (λ e. let low = is.0 in omega (arith, e, low))) is.1))
          (told-is plan told.ballot fates parts.1),
    )

-- WHAT STANDS ON LINES OF BLOCKS

-- a paper is its ballot row's, and where a race is over no mark of the ballot there is posted
abbrev pub BlockRight : Plan → List ℕ → List Told → Placed → Type 0
BlockRight plan seed fates (OverAt ballot race) = (race < length plan.races) × (marks_posted plan seed ballot race (told_fate fates ballot) ≡ 0)
BlockRight plan seed fates (PaperAt ballot race list) = (race < length plan.races) × (list ≡ codes_of_row plan seed race (ballot_row plan race ballot))
BlockRight plan seed fates line = Unit {0}

races-within : (plan : Plan) (ballot : ℕ) → fault_of plan ≡ None → EachOf (λ race. race < length plan.races) (races_of_ballot plan ballot)
races-within plan ballot fine = at_style (style_of_ballot plan ballot)
  where
    at_place : (styles : List Style) (k : ℕ) → EachOf (KeepsStyle (length plan.races)) styles → EachOf (λ race. race < length plan.races) (option_map_or (λ (s : Style). s.races) (slice_get styles k) [])
    at_place [] k all = tt
    at_place (style ∷ styles) zero all = holds-all (λ race. race < length plan.races) style.races all.0.races
    at_place (style ∷ styles) (suc k) all = at_place styles k all.1

    at_style : (o : Option ℕ) → EachOf (λ race. race < length plan.races) (option_map_or (races_of_style plan) o [])
    at_style None = tt
    at_style (Some style) = at_place plan.styles style (holds-all (KeepsStyle (length plan.races)) plan.styles (keeps_limits plan (passes_tests plan fine)).styles)

module _ (plan : Plan) (seed : List ℕ) (fates : List Told) (draw : Draw) (claims : List Claimed) (told : IsTold plan seed fates claims) where
  abbrev posted : Record
  posted = posted_record plan seed fates draw claims

  abbrev lines : List Placed
  lines = places_in posted

  plain-right : (line : Placed) → is_plain line ≡ true → BlockRight plan seed fates line
  plain-right (OverAt ballot race) is = cc
  plain-right (PaperAt ballot race list) is = cc
  plain-right line is = tt

  note-right : (ballot race : ℕ) (line : CastLine) → race < length plan.races → note_race line ≡ Some race → marks_posted plan seed ballot race (told_fate fates ballot) ≡ 0
      → BlockRight plan seed fates (cast_place ballot line)
  note-right ballot race (cast.Code code) within of none = cc
  note-right ballot race (cast.Over over) within of none = rw (same_Some over race of) (within, none)

  papers-right : (ballot : ℕ) (races : List ℕ) → EachOf (λ race. race < length plan.races) races
      → EachOf (BlockRight plan seed fates) (paper_tree as_place ballot races (map (λ race. codes_of_row plan seed race (ballot_row plan race ballot)) races))
  papers-right ballot [] all = tt
  papers-right ballot (race ∷ races) all = ((all.0, refl), papers-right ballot races all.1)

  true-paper : (ballot : ℕ) (paper : List (List ℕ)) → paper ≡ paper_of plan seed ballot → EachOf (BlockRight plan seed fates) (paper_tree as_place ballot (races_of_ballot plan ballot) paper)
  unfolding paper_of
  true-paper ballot paper is = rw is (papers-right ballot (races_of_ballot plan ballot) (races-within plan ballot told.fine))

  pub blocks-right : EachOf (BlockRight plan seed fates) lines
  blocks-right =
      let P : Placed → Type 0 = BlockRight plan seed fates in
      let own : (kind : Block) (ballot : ℕ) → HoldsOfOwn (λ (code : CodeLine). P (code_leaf as_place kind ballot code)) plan seed ballot = λ kind ballot race column has within below. tt in
      lines-of P posted plain-right
      (blocks-of P (λ ballot. tt) plan (flat_map (told_blocks plan seed) fates)
      (of-flat (HasBlock P plan) (λ (one : Told). (fits_ballot plan one.ballot one.fate × IsTrueFate plan seed one.ballot one.fate) × IsToldAt 0 fates one) (told_blocks plan seed) fates
      (λ one is. told-lines P plan seed told.fine own one.ballot one.fate is.0.0 (λ race line within note. note-right one.ballot race line within note.of (ap (marks_posted plan seed one.ballot race) is.1.1 ∙ unmarked-none plan seed one.ballot race one.fate note.unmarked))
      (λ paper audited. true-paper one.ballot paper (subst (IsTrueFate plan seed one.ballot) audited is.0.1)))
      (of-both (λ (one : Told). fits_ballot plan one.ballot one.fate × IsTrueFate plan seed one.ballot one.fate) (IsToldAt 0 fates) fates
      (of-both (λ (one : Told). fits_ballot plan one.ballot one.fate) (λ (one : Told). IsTrueFate plan seed one.ballot one.fate) fates (fits-each plan 0 fates told.fit) told.papers) (told-is plan 0 fates told.fit))))
      (λ race candidate count within there. tt) (λ race instance number opening there. tt)
      (claims-of P plan seed told.fine own (λ ballot race code word. tt) claims told.claimed)

  -- THE KIND

  -- in each race a ballot's marks are those of its fate
  marks-are : (ballot race : ℕ) → race < length plan.races → count_by (marks_ballot ballot race) lines ≡ marks_posted plan seed ballot race (told_fate fates ballot)
  marks-are ballot race within =
      let g : Placed → ℕ = λ line. one_if (marks_ballot ballot race line) in
      sum-codes plan seed race within g only fates draw claims
      ∙ (sum-flat g (λ (one : Told). told_codes plan seed race one.ballot one.fate) fates
      ∙ sum-told plan (λ of what. sum_by g (told_codes plan seed race of what)) ballot
      (λ other what differ. sum-of g (told_codes plan seed race other what)
      (codes-each (λ line. g line ≡ 0) plan seed race other (λ column. refl) (λ column. ap (λ (b : Bool). one_if (b && race == race)) (ne_eqb other ballot differ)) what)) refl 0 fates told.fit)
    where
      only : (line : Placed) → shows_in race line ≡ false → one_if (marks_ballot ballot race line) ≡ 0
      only (CodeAt block.Cast of in_race column code) is = ap one_if (and_right (of == ballot) (in_race == race) is)
      only (CodeAt block.Audited of in_race column code) is = refl
      only (CodeAt block.Dispute of in_race column code) is = refl
      only line is = refl

  -- what is marked before a line is no more
  marks-split : (before : List Placed) (line : Placed) → IsFront lines before line → (ballot race : ℕ) → race < length plan.races
      → count_by (marks_ballot ballot race) before + one_if (marks_ballot ballot race line) ≤ marks_posted plan seed ballot race (told_fate fates ballot)
  marks-split before line front ballot race within =
      let g : Placed → ℕ = λ l. one_if (marks_ballot ballot race l) in
      omega (arith, marks-are ballot race within, ap (sum_by g) front.is, sum_by-append g before (line ∷ front.rest), sum_by-cons g line front.rest)

  abbrev IsRight : Placed → Type 0
  IsRight line = SaysRight plan seed fates draw line × BlockRight plan seed fates line

  all-both : EachOf IsRight lines
  all-both = of-both (SaysRight plan seed fates draw) (BlockRight plan seed fates) lines (all-right plan seed fates draw claims told.fine told.fit told.claimed) blocks-right

  code-good : (before : List Placed) (kind : Block) (ballot race column : ℕ) (code : CodeLine) → IsFront lines before (CodeAt kind ballot race column code) → IsRight (CodeAt kind ballot race column code)
      → list_any (shows_against ballot race column code.code) before ≡ false
  code-good before kind ballot race column code front right =
      let all : EachOf IsRight before = (of-parts IsRight before (CodeAt kind ballot race column code ∷ front.rest) (subst (λ (l : List Placed). EachOf IsRight l) front.is all-both)).0 in
      rw right.0.3 (of-none (shows_against ballot race column (code_line_of plan seed ballot race column).code) before
      (of-into IsRight (λ (line : Placed). shows_against ballot race column (code_line_of plan seed ballot race column).code line ≡ false) before
      (λ line is. against-not plan seed fates draw ballot race column line told.fine right.0.0 right.0.1 right.0.2 is.0) all))

  rule-good : (before : List Placed) (line : Placed) → IsFront lines before line → IsRight line → bad_placed kind.Rule plan before line ≡ false
  rule-good before (CodeAt block.Cast ballot race column code) front right =
      let split = marks-split before (CodeAt block.Cast ballot race column code) front ballot race right.0.0 in
      let limit = marks-within plan seed ballot race (told_fate fates ballot) (told-fits plan 0 fates ballot told.fit) in
      let marked : one_if (marks_ballot ballot race (CodeAt block.Cast ballot race column code)) ≡ one_if true = ap one_if (and_from (ballot == ballot) (race == race) (eq-eqb ballot ballot refl) (eq-eqb race race refl)) in
      or_from (nat_le (votes_of plan race) (count_by (marks_ballot ballot race) before)) _ (lt-leb (votes_of plan race) (count_by (marks_ballot ballot race) before) (omega (arith, split, limit, marked)))
      (code-good before block.Cast ballot race column code front right)
  rule-good before (CodeAt block.Audited ballot race column code) front right = code-good before block.Audited ballot race column code front right
  rule-good before (CodeAt block.Dispute ballot race column code) front right = code-good before block.Dispute ballot race column code front right
  rule-good before (OverAt ballot race) front right =
      let split = marks-split before (OverAt ballot race) front ballot race right.1.0 in
      let none : count_by (marks_ballot ballot race) before ≡ 0 = omega (arith, split, right.1.1) in
      any-count (marks_ballot ballot race) before ∙ ap (nat_lt 0) none
  rule-good before (PaperAt ballot race list) front right = rw right.1.1 (paper-good plan seed race (ballot_row plan race ballot) told.fine right.1.0)
  rule-good before line front right = refl

  pub rules-whole : Good (bad_placed kind.Rule plan) [] lines
  rules-whole = record-good (bad_placed kind.Rule plan) IsRight posted rule-good all-both
