-- The lines before the draw: all marks, flags, places and totals of a record stand there.
use Rattle.std.proofs.Common.{◌≡◌, ◌≢◌, ℕ, Bool, true, false, ◌||◌, List, [], ◌∷◌, ◌++◌, refl, sym, subst, ap, ◌∙◌, append_assoc, append-nil, arith}
use Rattle.std.specs.List.{list_any}
use Rattle.std.proofs.lemmas.Bool.{and_left, or_from, or_parts}
use Rattle.sg_forms.specs.declared.line.RowOpening.{RowOpening}
use Rattle.sg_plan.specs.declared.plan.Draw.{Draw}
use Rattle.sg_plan.specs.declared.plan.Draw.TheVariants as drawn
use Rattle.sg_plan.specs.declared.plan.Plan.{Plan}
use Rattle.sg_grammar.specs.Placed.{Placed}
use Rattle.sg_grammar.specs.Placed.Placed.{CodeAt, DrawnFull, DrawnPublic, FlagsAt, PlacesAt, RowAt, TotalAt}
use Rattle.sg_record.specs.Places.{places_in}
use Rattle.sg_record.specs.Tree.{as_place, commit_tree, draw_leaf, result_tree}
use Rattle.sg_record.specs.declared.record.Record.{Record}
use Rattle.sg_check.proofs.Rows.{none_behind_row}
use Rattle.sg_check.specs.Facts.{flags_row, is_marked, marks_entry, sets_place}
use Rattle.sg_grammar.specs.Lines.{IsAmong, is_cast}
use Rattle.sg_grammar.specs.Left.{is_total_line}
use Rattle.sg_grammar.specs.Parting.{Apart, None_of, clash, is_before_rows}
use Rattle.sg_grammar.proofs.Lists.{none-left, none-weaken}
use Rattle.sg_lists.proofs.Each.{EachOf, of-into}
use Rattle.sg_facts.proofs.Rising.{IsPart, behind_ballots, behind_commits, behind_results, blocks, blocks_are, commits_are, head, head_is, part_of, results_are}
use Rattle.sg_odds.specs.Coins.{before_draw}

-- the first of all lines
pub before_split : (lines : List Placed) → (rest : List Placed) × (lines ≡ before_draw lines ++ rest)
before_split [] = ([], refl)
before_split (DrawnFull ∷ lines) = (DrawnFull ∷ lines, refl)
before_split (DrawnPublic digits ∷ lines) = (DrawnPublic digits ∷ lines, refl)
before_split (line ∷ lines) = let more = before_split lines in (more.0, ap (λ (l : List Placed). line ∷ l) more.1)

apart_first : (xs ys : List Placed) → Apart clash (xs ++ ys) → Apart clash xs
apart_first [] ys apart = tt
apart_first (x ∷ xs) ys apart = (none-left (clash x) xs ys apart.0, apart_first xs ys apart.1)

pub sections_apart : (lines : List Placed) → Apart clash lines → Apart clash (before_draw lines)
sections_apart lines apart = let split = before_split lines in apart_first (before_draw lines) split.0 (subst (λ (l : List Placed). Apart clash l) split.1 apart)

-- each of them is one of all lines
pub early_among : (lines : List Placed) (line : Placed) → IsAmong (before_draw lines) line → IsAmong lines line
early_among lines line there = let split = before_split lines in (there.0, there.1 ++ split.0, split.1 ∙ (ap (λ (l : List Placed). l ++ split.0) there.2 ∙ append_assoc there.0 (line ∷ there.1) split.0))

-- WHAT STANDS BEFORE THE DRAW

-- the line is a mark, flags or places
abbrev pub is_early : Placed → Bool
is_early (CodeAt kind ballot race column code) = is_cast kind
is_early (FlagsAt race instance from bits) = true
is_early (PlacesAt race from bits) = true
is_early line = false

early_from : (line : Placed) → is_before_rows line ≡ false → is_early line ≡ false
early_from (CodeAt kind ballot race column code) e = e
early_from (FlagsAt race instance from bits) e = cc
early_from (PlacesAt race from bits) e = cc
early_from line e = refl

pub marks_early : (plan : Plan) (race entry : ℕ) (line : Placed) → is_early line ≡ false → marks_entry plan race entry line ≡ false
marks_early plan race entry (CodeAt kind ballot of column code) e = and_left (is_cast kind) _ e
marks_early plan race entry line e = refl

pub flags_early : (race instance row : ℕ) (line : Placed) → is_early line ≡ false → flags_row race instance row line ≡ false
flags_early race instance row (FlagsAt of within from bits) e = cc
flags_early race instance row line e = refl

pub sets_early : (race place : ℕ) (line : Placed) → is_early line ≡ false → sets_place race place line ≡ false
sets_early race place (PlacesAt of from bits) e = cc
sets_early race place line e = refl

-- a test that only such lines pass
module _ (test : Placed → Bool) (only : (line : Placed) → is_early line ≡ false → test line ≡ false) where
  behind_draw : (lines : List Placed) → None_of (λ line. is_before_rows line || is_total_line line) lines → list_any test lines ≡ false
  behind_draw lines none =
      none-weaken (λ line. is_before_rows line || is_total_line line) test lines (λ line free. only line (early_from line (or_parts (is_before_rows line) (is_total_line line) free).0)) none

  pub early_same : (lines : List Placed) → Apart clash lines → list_any test lines ≡ list_any test (before_draw lines)
  early_same [] apart = refl
  early_same (DrawnFull ∷ lines) apart = or_from (test DrawnFull) (list_any test lines) (only DrawnFull refl) (behind_draw lines apart.0)
  early_same (DrawnPublic digits ∷ lines) apart = or_from (test (DrawnPublic digits)) (list_any test lines) (only (DrawnPublic digits) refl) (behind_draw lines apart.0)
  early_same (line ∷ lines) apart = ap (λ (b : Bool). test line || b) (early_same lines apart.1)

  -- what is said before a row is said before the draw
  pub front_same : (lines front rest : List Placed) (race instance row : ℕ) (opening : RowOpening) → Apart clash lines → lines ≡ front ++ RowAt race instance row opening ∷ rest
      → list_any test front ≡ list_any test (before_draw lines)
  front_same lines front rest race instance row opening apart is =
      sym (none_behind_row test front rest race instance row opening (subst (λ (l : List Placed). Apart clash l) is apart) (λ line early. only line (early_from line early)))
      ∙ (ap (list_any test) (sym is) ∙ early_same lines apart)

pub marks_same : (plan : Plan) (race entry : ℕ) (lines : List Placed) → Apart clash lines → is_marked plan race entry lines ≡ is_marked plan race entry (before_draw lines)
marks_same plan race entry lines apart = early_same (marks_entry plan race entry) (marks_early plan race entry) lines apart

-- a total stands before the draw
none_total : (race candidate count : ℕ) (front rest : List Placed) → None_of (λ line. is_before_rows line || is_total_line line) (front ++ TotalAt race candidate count ∷ rest) → ⊥
none_total race candidate count [] rest none = cc
none_total race candidate count (x ∷ front) rest none =
    none_total race candidate count front rest (or_parts (is_before_rows x || is_total_line x) (list_any (λ line. is_before_rows line || is_total_line line) (front ++ TotalAt race candidate count ∷ rest)) none).1

pub total_early : (race candidate count : ℕ) (front rest : List Placed) → Apart clash (front ++ TotalAt race candidate count ∷ rest)
    → IsAmong (before_draw (front ++ TotalAt race candidate count ∷ rest)) (TotalAt race candidate count)
total_early race candidate count [] rest apart = ([], before_draw rest, refl)
total_early race candidate count (DrawnFull ∷ front) rest apart = absurd (none_total race candidate count front rest apart.0)
total_early race candidate count (DrawnPublic digits ∷ front) rest apart = absurd (none_total race candidate count front rest apart.0)
total_early race candidate count (line ∷ front) rest apart =
    let more = total_early race candidate count front rest apart.1 in
    (line ∷ more.0, more.1, ap (λ (l : List Placed). line ∷ l) more.2)

-- THE FIRST TWO SECTIONS OF A RECORD

abbrev IsNoDraw : Placed → Type 0
IsNoDraw DrawnFull = ⊥
IsNoDraw (DrawnPublic digits) = ⊥
IsNoDraw line = Unit {0}

before_behind : (xs ys : List Placed) → EachOf IsNoDraw xs → before_draw (xs ++ ys) ≡ xs ++ before_draw ys
before_behind [] ys none = refl
before_behind (DrawnFull ∷ xs) ys none = absurd none.0
before_behind (DrawnPublic digits ∷ xs) ys none = absurd none.0
before_behind (line ∷ xs) ys none = ap (λ (l : List Placed). line ∷ l) (before_behind xs ys none.1)

no_draw : (line : Placed) → part_of line ≢ 5 → IsNoDraw line
no_draw DrawnFull other = absurd (other refl)
no_draw (DrawnPublic digits) other = absurd (other refl)
no_draw line other = tt

of_part : (part : ℕ) (lines : List Placed) → part ≢ 5 → EachOf (IsPart part) lines → EachOf IsNoDraw lines
of_part part lines other all = of-into (IsPart part) IsNoDraw lines (λ line is. no_draw line (λ e. other (let same : part ≡ 5 = omega (arith, is, e) in same))) all

drawn_first : (draw : Draw) (rest : List Placed) → before_draw (draw_leaf as_place draw ∷ rest) ≡ []
drawn_first drawn.Full rest = refl
drawn_first (drawn.Public bytes) rest = refl

module _ (posted : Record) where
  -- behind the plan: the commitments, the ballots and the results
  abbrev pub behind_head : List Placed
  behind_head = commit_tree as_place posted ++ (blocks posted ++ result_tree as_place posted)

  abbrev pub sections : List Placed
  sections = head posted ++ behind_head

  pub sections_are : before_draw (places_in posted) ≡ sections
  unfolding places_in
  sections_are =
      before_behind (head posted) (commit_tree as_place posted ++ behind_commits posted) (of_part 0 (head posted) (λ e. omega (arith, e)) (head_is posted))
      ∙ ap (λ (l : List Placed). head posted ++ l) (before_behind (commit_tree as_place posted) (behind_commits posted) (of_part 2 (commit_tree as_place posted) (λ e. omega (arith, e)) (commits_are posted))
      ∙ ap (λ (l : List Placed). commit_tree as_place posted ++ l) (before_behind (blocks posted) (behind_ballots posted) (of_part 3 (blocks posted) (λ e. omega (arith, e)) (blocks_are posted))
      ∙ ap (λ (l : List Placed). blocks posted ++ l) (before_behind (result_tree as_place posted) (behind_results posted) (of_part 4 (result_tree as_place posted) (λ e. omega (arith, e)) (results_are posted))
      ∙ (ap (λ (l : List Placed). result_tree as_place posted ++ l) (drawn_first posted.draw _) ∙ append-nil (result_tree as_place posted)))))

  pub all_are : places_in posted ≡ sections ++ behind_results posted
  unfolding places_in
  all_are =
      sym (append_assoc (head posted) behind_head (behind_results posted)
      ∙ ap (λ (l : List Placed). head posted ++ l) (append_assoc (commit_tree as_place posted) (blocks posted ++ result_tree as_place posted) (behind_results posted)
      ∙ ap (λ (l : List Placed). commit_tree as_place posted ++ l) (append_assoc (blocks posted) (result_tree as_place posted) (behind_results posted))))
