-- Each total differs from the count of posted codes by at most the altered rows.
use Rattle.std.proofs.Common.{◌≡◌, ℕ, ◌/◌, ◌%◌, ◌<◌, ◌==◌, Bool, true, false, ◌&&◌, ◌||◌, cond, inl, inr, not, List, [], ◌∷◌, length, Option, Some, None, refl, sym, subst, ap, ◌∙◌, arith}
use Rattle.std.specs.Option.{is_some, option_map_or}
use Rattle.std.proofs.lemmas.Bool.{and_parts, cases_eq, eq-eqb, eqb-true, lt-ltb, ne_eqb, not-false, not-true, or_parts}
use Rattle.std.proofs.lemmas.Nat.{div_below, mod_below}
use Rattle.std.proofs.lemmas.Option.{none-some, same_Some}
use Rattle.sg_commit.specs.declared.Opening.{Opening}
use Rattle.sg_forms.specs.declared.line.CodeLine.{CodeLine}
use Rattle.sg_forms.specs.declared.line.RowOpening.{RowOpening}
use Rattle.sg_forms.specs.declared.line.RowOpening.TheVariants as opened
use Rattle.sg_plan.specs.Ballots.{candidates_of, entries_of, entry_at, rows_of}
use Rattle.sg_plan.specs.declared.plan.Plan.{Plan}
use Rattle.sg_plan.specs.declared.plan.Side.TheVariants as side
use Rattle.sg_plan.specs.declared.plan.Side.{Side}
use Rattle.sg_grammar.specs.Lines.{IsAmong, is_cast}
use Rattle.sg_grammar.specs.Parting.{Apart, IsLineIn, clash}
use Rattle.sg_grammar.specs.Placed.{Placed}
use Rattle.sg_grammar.specs.Placed.Placed.{CodeAt, RowAt, TotalAt}
use Rattle.sg_grammar.specs.declared.state.Block.{Block}
use Rattle.sg_check.specs.Facts.{is_marked, is_set, opened_on, votes_for}
use Rattle.sg_check.specs.Laws.{ArePointersOnce, AreTotalsCounted, DoFlagsAgree}
use Rattle.sg_check.proofs.Counting.{IsOneToOne, count-same, counts_within}
use Rattle.sg_check.proofs.Rows.{GoodHalf, first_given-some, good_half, one_half, one_row, posted_row}
use Rattle.sg_check.proofs.Votes.{is_vote, places_in, votes-count, votes_before}
use Rattle.sg_check.specs.Bounds.{DifferByAtMost}
use Rattle.sg_check.specs.Completions.{Completion, OpensNoneTwice, altered_rows, is_altered, is_half_altered, is_row_misprinted, is_unopened, posted_half}
use Rattle.sg_check.specs.Printings.{AreCodesDifferent, Printing, StandsWith, count_below, is_posted_for, marked_code, posted_count, posts_code}

-- CODES OF MARKED ENTRIES

-- where a code is posted of an entry, and only there, the entry is marked
pub marked_is : (plan : Plan) (race entry : ℕ) (lines : List Placed) → is_some (marked_code plan race entry lines) ≡ is_marked plan race entry lines
marked_is plan race entry [] = refl
marked_is plan race entry (CodeAt block ballot of column code ∷ lines) =
    by_test (is_cast block && (of == race && entry_at plan of ballot column == entry)) code.code (marked_code plan race entry lines) (is_marked plan race entry lines) (marked_is plan race entry lines)
  where
    by_test : (b : Bool) (c : ℕ) (more : Option ℕ) (marked : Bool) → is_some more ≡ marked → is_some (option_map_or Some (cond b (Some c) None) more) ≡ (b || marked)
    by_test true c more marked rest = refl
    by_test false c more marked rest = rest
marked_is plan race entry (line ∷ lines) = marked_is plan race entry lines

-- the line that posts the code of an entry
pub record PostsCode (plan : Plan) (lines : List Placed) (race entry shown : ℕ) : Type 0 where
  pub block : Block
  pub ballot : ℕ
  pub column : ℕ
  pub code : CodeLine
  pub among : IsAmong lines (CodeAt block ballot race column code)
  pub entry_is : entry_at plan race ballot column ≡ entry
  pub code_is : code.code ≡ shown

pub posts : (plan : Plan) (lines : List Placed) (race entry shown : ℕ) → marked_code plan race entry lines ≡ Some shown → PostsCode plan lines race entry shown
posts plan lines race entry shown e =
    let found = first_given-some (posts_code plan race entry) lines shown e in
    at_line found.0 found.1 found.2
  where
    at_line : (line : Placed) → IsAmong lines line → posts_code plan race entry line ≡ Some shown → PostsCode plan lines race entry shown
    at_line (CodeAt block ballot of column code) among gives = by_test (is_cast block && (of == race && entry_at plan of ballot column == entry)) refl
      where
        by_test : (b : Bool) → (is_cast block && (of == race && entry_at plan of ballot column == entry)) ≡ b → PostsCode plan lines race entry shown
        by_test false fails = absurd (none-some shown (sym (ap (λ (b : Bool). cond b (Some code.code) None) fails) ∙ gives))
        by_test true passes =
            let outer = and_parts (is_cast block) (of == race && entry_at plan of ballot column == entry) passes in
            let inner = and_parts (of == race) (entry_at plan of ballot column == entry) outer.1 in
            let race_is = eqb-true of race inner.0 in
            record {
              block = block;
              ballot = ballot;
              column = column;
              code = code;
              among = subst (λ r. IsAmong lines (CodeAt block ballot r column code)) race_is among;
              entry_is = subst (λ r. entry_at plan r ballot column ≡ entry) race_is (eqb-true (entry_at plan of ballot column) entry inner.1);
              code_is = same_Some code.code shown (sym (ap (λ (b : Bool). cond b (Some code.code) None) passes) ∙ gives);
            }
    at_line line among gives = cc

both_of : (opening : RowOpening) (left right : Opening) → opened_on side.Left opening ≡ Some left → opened_on side.Right opening ≡ Some right → opening ≡ opened.Both left right
both_of (opened.Left o) left right e d = cc
both_of (opened.Right o) left right e d = cc
both_of (opened.Both l r) left right e d = rw (same_Some l left e, same_Some r right d) refl

module _ (plan : Plan) (lines : List Placed) (apart : Apart clash lines) (once : ArePointersOnce plan lines) (flags : DoFlagsAgree plan lines)
    (completion : Completion) (none_twice : OpensNoneTwice lines completion)
    (printing : Printing) (differ : AreCodesDifferent plan printing) (stands : StandsWith plan lines printing)
    (race instance candidate : ℕ) (race_in : race < length plan.races) (candidate_in : candidate < candidates_of plan race) where
  abbrev good : ℕ → Bool
  good row = not (is_altered plan lines completion printing race instance row)

  abbrev to : Side → ℕ → ℕ
  to on row = option_map_or (λ (o : Opening). o.value) (completion on race instance row) 0

  not_altered : (row : ℕ) → good row ≡ true → is_altered plan lines completion printing race instance row ≡ false
  not_altered row g = not-true (is_altered plan lines completion printing race instance row) g

  not_half : (on : Side) (row : ℕ) → good row ≡ true → is_half_altered plan lines completion on race instance row ≡ false
  not_half side.Left row g =
      (or_parts (is_half_altered plan lines completion side.Left race instance row) (is_half_altered plan lines completion side.Right race instance row) (or_parts _ _ (not_altered row g)).0).0
  not_half side.Right row g =
      (or_parts (is_half_altered plan lines completion side.Left race instance row) (is_half_altered plan lines completion side.Right race instance row) (or_parts _ _ (not_altered row g)).0).1

  half : (on : Side) (row : ℕ) → good row ≡ true → GoodHalf plan lines apart once flags completion none_twice on race instance row
  half on row g = good_half plan lines apart once flags completion none_twice on race instance row (not_half on row g)

  to_is : (on : Side) (row : ℕ) (g : good row ≡ true) → to on row ≡ (half on row g).opening.value
  to_is on row g = ap (λ (x : Option Opening). option_map_or (λ (o : Opening). o.value) x 0) (half on row g).is

  one_to_one : (on : Side) → IsOneToOne good (to on) (entries_of plan race)
  one_to_one on = record {
    below = λ row less g. subst (λ (v : ℕ). v < entries_of plan race) (sym (to_is on row g)) (half on row g).below;
    one = λ row other less other_less g d same.
        one_half plan lines apart once flags completion none_twice on race instance row other (half on row g) (half on other d) (not_half on row g) (not_half on other d) less other_less
        (sym (to_is on row g) ∙ (same ∙ to_is on other d));
  }

  -- a good row's entry is marked exactly where its place is set
  marked_set : (row : ℕ) (g : good row ≡ true) → is_marked plan race (half side.Left row g).opening.value lines ≡ is_set race (half side.Right row g).opening.value lines
  marked_set row g = sym (half side.Left row g).flag ∙ (half side.Right row g).flag

  -- where it is marked, its code is printed beside the candidate of its place
  printed_posted : (row shown : ℕ) (left right : Opening) → posted_half lines side.Left race instance row ≡ Some left → posted_half lines side.Right race instance row ≡ Some right
      → marked_code plan race left.value lines ≡ Some shown → printing race (left.value / candidates_of plan race) (right.value % candidates_of plan race) ≡ shown
  printed_posted row shown left right e d code =
      let on_left = posted_row lines side.Left race instance row left e in
      let on_right = posted_row lines side.Right race instance row right d in
      let same = one_row lines race instance row on_left.0 on_right.0 apart on_left.1 on_right.1 in
      let both = both_of on_left.0 left right on_left.2 (ap (opened_on side.Right) same ∙ on_right.2) in
      let post = posts plan lines race left.value shown code in
      stands race instance row left right post.block post.ballot post.column post.code (subst (λ (o : RowOpening). IsAmong lines (RowAt race instance row o)) both on_left.1) post.among post.entry_is
      ∙ post.code_is

  printed_unposted : (row shown : ℕ) (g : good row ≡ true) → is_unopened lines race instance row ≡ true → marked_code plan race (half side.Left row g).opening.value lines ≡ Some shown
      → printing race ((half side.Left row g).opening.value / candidates_of plan race) ((half side.Right row g).opening.value % candidates_of plan race) ≡ shown
  printed_unposted row shown g unopened code =
      let l = half side.Left row g in
      let r = half side.Right row g in
      let last = (or_parts (is_half_altered plan lines completion side.Left race instance row || is_half_altered plan lines completion side.Right race instance row)
      (is_unopened lines race instance row && is_row_misprinted plan lines completion printing race instance row) (not_altered row g)).1 in
      let row_right = sym (ap (λ (b : Bool). b && is_row_misprinted plan lines completion printing race instance row) unopened) ∙ last in
      at_openings l.opening r.opening l.is r.is l.below r.below code row_right
    where
      at_openings : (l r : Opening) → completion side.Left race instance row ≡ Some l → completion side.Right race instance row ≡ Some r → l.value < entries_of plan race → r.value < entries_of plan race
          → marked_code plan race l.value lines ≡ Some shown → is_row_misprinted plan lines completion printing race instance row ≡ false
          → printing race (l.value / candidates_of plan race) (r.value % candidates_of plan race) ≡ shown
      at_openings l r left right low high is none =
          let printed = printing race (l.value / candidates_of plan race) (r.value % candidates_of plan race) in
          let here : is_row_misprinted plan lines completion printing race instance row ≡ not (printed == shown)
          = rw (left, right, lt-ltb l.value (entries_of plan race) low, lt-ltb r.value (entries_of plan race) high, is) refl in
          eqb-true printed shown (not-false (printed == shown) (sym here ∙ none))

  printed : (row shown : ℕ) (g : good row ≡ true) → marked_code plan race (half side.Left row g).opening.value lines ≡ Some shown
      → printing race ((half side.Left row g).opening.value / candidates_of plan race) ((half side.Right row g).opening.value % candidates_of plan race) ≡ shown
  printed row shown g code = by_posts (posted_half lines side.Left race instance row) (posted_half lines side.Right race instance row) refl refl
    where
      l : Opening
      l = (half side.Left row g).opening

      r : Opening
      r = (half side.Right row g).opening

      by_posts : (x y : Option Opening) → posted_half lines side.Left race instance row ≡ x → posted_half lines side.Right race instance row ≡ y
          → printing race (l.value / candidates_of plan race) (r.value % candidates_of plan race) ≡ shown
      by_posts None y e d = printed_unposted row shown g (rw e refl) code
      by_posts (Some left) None e d = printed_unposted row shown g (rw (e, d) refl) code
      by_posts (Some left) (Some right) e d =
          let left_is = same_Some left l (sym (none_twice side.Left race instance row left e) ∙ (half side.Left row g).is) in
          let right_is = same_Some right r (sym (none_twice side.Right race instance row right d) ∙ (half side.Right row g).is) in
          subst (λ (o : Opening). printing race (l.value / candidates_of plan race) (o.value % candidates_of plan race) ≡ shown) right_is
          (subst (λ (o : Opening). printing race (o.value / candidates_of plan race) (right.value % candidates_of plan race) ≡ shown) left_is
          (printed_posted row shown left right e d (subst (λ (o : Opening). marked_code plan race o.value lines ≡ Some shown) (sym left_is) code)))

  -- a good row's entry counts for the candidate exactly where its place does
  counts_alike : (entry place : ℕ) → entry < entries_of plan race → is_marked plan race entry lines ≡ is_set race place lines
      → ((shown : ℕ) → marked_code plan race entry lines ≡ Some shown → printing race (entry / candidates_of plan race) (place % candidates_of plan race) ≡ shown)
      → is_posted_for plan lines printing race candidate entry ≡ is_vote plan race candidate lines place
  counts_alike entry place low alike shows = by_code (marked_code plan race entry lines) refl
    where
      some : 0 < candidates_of plan race
      some = omega (arith, candidate_in)

      in_row : entry / candidates_of plan race < rows_of plan race
      in_row = div_below entry (candidates_of plan race) (rows_of plan race) some low

      beside : (shown : ℕ) → printing race (entry / candidates_of plan race) (place % candidates_of plan race) ≡ shown
          → (printing race (entry / candidates_of plan race) candidate == shown) ≡ (place % candidates_of plan race == candidate)
      beside shown is = elim (cases_eq (place % candidates_of plan race) candidate) [
        | inl same ↦
            rw (eq-eqb (place % candidates_of plan race) candidate same) (eq-eqb (printing race (entry / candidates_of plan race) candidate) shown (ap (λ (j : ℕ). printing race (entry / candidates_of plan race) j) (sym same) ∙ is))
        | inr other ↦
            rw (ne_eqb (place % candidates_of plan race) candidate other)
            (ne_eqb (printing race (entry / candidates_of plan race) candidate) shown
            (λ e. differ race (entry / candidates_of plan race) (place % candidates_of plan race) candidate (race_in, in_row) (mod_below place (candidates_of plan race) some) candidate_in other (is ∙ sym e)))
      ]

      by_code : (x : Option ℕ) → marked_code plan race entry lines ≡ x → is_posted_for plan lines printing race candidate entry ≡ is_vote plan race candidate lines place
      by_code None e =
          let unset : is_set race place lines ≡ false = sym alike ∙ (sym (marked_is plan race entry lines) ∙ ap is_some e) in
          rw (e, unset) refl
      by_code (Some shown) e =
          let set : is_set race place lines ≡ true = sym alike ∙ (sym (marked_is plan race entry lines) ∙ ap is_some e) in
          rw (e, set) (beside shown (shows shown e))

  rows_alike : (row : ℕ) → row < entries_of plan race → good row ≡ true → is_posted_for plan lines printing race candidate (to side.Left row) ≡ is_vote plan race candidate lines (to side.Right row)
  rows_alike row less g =
      rw (to_is side.Left row g, to_is side.Right row g)
      (counts_alike (half side.Left row g).opening.value (half side.Right row g).opening.value (half side.Left row g).below (marked_set row g) (λ shown code. printed row shown g code))

  not_good : count_below (λ row. not (good row)) (entries_of plan race) ≡ altered_rows plan lines completion printing race instance
  not_good = count-same (λ row. not (good row)) (is_altered plan lines completion printing race instance) (entries_of plan race) (λ k less. twice (is_altered plan lines completion printing race instance k))
    where
      twice : (b : Bool) → not (not b) ≡ b
      twice true = refl
      twice false = refl

  pub votes_bound : DifferByAtMost (altered_rows plan lines completion printing race instance) (count_below (is_vote plan race candidate lines) (entries_of plan race)) (posted_count plan lines printing race candidate)
  votes_bound =
      let more = counts_within (entries_of plan race) good (is_posted_for plan lines printing race candidate) (is_vote plan race candidate lines) (to side.Left) (to side.Right) (one_to_one side.Left) (one_to_one side.Right) rows_alike in
      let less = counts_within (entries_of plan race) good (is_vote plan race candidate lines) (is_posted_for plan lines printing race candidate) (to side.Right) (to side.Left) (one_to_one side.Right) (one_to_one side.Left) (λ row below g. sym (rows_alike row below g)) in
      record { more = omega (arith, more, not_good); less = omega (arith, less, not_good) }

  -- the total among the lines
  pub total_bound : (count : ℕ) → AreTotalsCounted plan lines → ((line : Placed) → IsAmong lines line → IsLineIn plan line) → IsAmong lines (TotalAt race candidate count)
      → DifferByAtMost (altered_rows plan lines completion printing race instance) count (posted_count plan lines printing race candidate)
  total_bound count counted within (front, rest, is) =
      let all = subst (λ (l : List Placed). Apart clash l) is apart in
      let before = votes_before plan race candidate front rest count all in
      let same : votes_for plan race candidate lines ≡ votes_for plan race candidate front = ap (votes_for plan race candidate) is ∙ before in
      let votes = votes-count plan race candidate lines apart (places_in plan lines within) in
      let total : count ≡ count_below (is_vote plan race candidate lines) (entries_of plan race) = counted front rest race candidate count is ∙ (sym same ∙ votes) in
      subst (λ (c : ℕ). DifferByAtMost (altered_rows plan lines completion printing race instance) c (posted_count plan lines printing race candidate)) (sym total) votes_bound
