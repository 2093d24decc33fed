-- The lines of a record rise from part to part: what only lines of one part say, and what the lines before a line say.
use Rattle.std.proofs.Common.{◌≡◌, ◌≢◌, ℕ, ◌*◌, ◌<◌, ◌≤◌, Bool, true, false, ◌||◌, not, cond, List, [], ◌∷◌, ◌++◌, length, map, Option, Some, None, refl, sym, ap, ◌∙◌, append_assoc, arith}
use Rattle.std.specs.List.{flat_map, list_any}
use Rattle.std.specs.Option.{is_some, option_map_or}
use Rattle.std.specs.Prelude.{slice_get, slice_index_or}
use Rattle.sg_lists.proofs.Any.{any-before}
use Rattle.sg_lists.proofs.Each.{EachOf, of-append, of-into, of-none}
use Rattle.sg_plan.specs.declared.plan.Draw.{Draw}
use Rattle.sg_plan.specs.declared.plan.Draw.TheVariants as drawn
use Rattle.sg_plan.specs.declared.plan.Plan.{Plan}
use Rattle.sg_plan.specs.declared.plan.Side.{Side}
use Rattle.sg_plan.specs.declared.plan.Side.TheVariants as side
use Rattle.sg_forms.specs.declared.line.RowOpening.{RowOpening}
use Rattle.sg_grammar.specs.Placed.{Placed, ballot_on}
use Rattle.sg_grammar.specs.Placed.Placed.{CodeAt, CodeCommitAt, Disputed, DrawnFull, DrawnPublic, FlagsAt, OfPlan, PlacesAt, RowAt, RowCommitAt, SealAt, TotalAt}
use Rattle.sg_grammar.specs.declared.state.Block.TheVariants as block
use Rattle.sg_record.specs.Lines.{plan_lines}
use Rattle.sg_record.specs.Places.{places_in}
use Rattle.sg_record.specs.Tree.{as_place, block_tree, cast_place, commit_tree, dispute_tree, draw_leaf, indexed, opening_tree, race_row_tree, result_tree, seal_tree}
use Rattle.sg_record.specs.declared.record.CastLine.{CastLine}
use Rattle.sg_record.specs.declared.record.CastLine.TheVariants as cast
use Rattle.sg_record.specs.declared.record.Record.{Record}
use Rattle.sg_check.specs.Facts.{code_commitment, commits_code, commits_half, draws_digits, draws_full, first_given, flags_row, is_flagged, is_full_draw, is_marked, is_set, marks_entry, sets_place, half_commitment}
use Rattle.sg_check.specs.Verdict.{late}
use Rattle.sg_check.proofs.Fronts.{given-before, given-behind}
use Rattle.sg_facts.specs.Items.{row_in}
use Rattle.sg_facts.proofs.Finding.{given-append, given-of}
use Rattle.sg_facts.proofs.Sections.{ballots-of, commits-of, disputes-of, openings-of, plan-of, results-of, rows-of, seals-of}

-- THE PARTS OF A RECORD

-- the part that a line is of: the plan, the commitments, the ballots, the results, the draw, the rows, the disputes;
-- a line that is of no other part is one of the ballots
abbrev pub part_of : Placed → ℕ
part_of (OfPlan said) = 0
part_of (CodeCommitAt race entry digest) = 2
part_of (RowCommitAt race instance row left right) = 2
part_of (SealAt number digest) = 2 * number
part_of (CodeAt block.Cast ballot race column code) = 3
part_of (CodeAt block.Audited ballot race column code) = 3
part_of (CodeAt block.Dispute ballot race column code) = 7
part_of (FlagsAt race instance from bits) = 4
part_of (PlacesAt race from bits) = 4
part_of (TotalAt race candidate count) = 4
part_of DrawnFull = 5
part_of (DrawnPublic digits) = 5
part_of (RowAt race instance row opening) = 6
part_of (Disputed ballot race code word) = 7
part_of line = 3

abbrev pub IsPart : ℕ → Placed → Type 0
IsPart part line = part_of line ≡ part

-- each line is of the part of the line before it, or of a later one
abbrev pub Rises : ℕ → List Placed → Type 0
Rises part [] = Unit {0}
Rises part (line ∷ lines) = (part ≤ part_of line) × Rises (part_of line) lines

rises-from : (low part : ℕ) (lines : List Placed) → low ≤ part → Rises part lines → Rises low lines
rises-from low part [] less rises = tt
rises-from low part (line ∷ lines) less rises = (omega (arith, less, rises.0), rises.1)

-- lines of one part, and those behind them
rises-behind : (low part : ℕ) (xs ys : List Placed) → low ≤ part → EachOf (IsPart part) xs → Rises part ys → Rises low (xs ++ ys)
rises-behind low part [] ys less all rises = rises-from low part ys less rises
rises-behind low part (x ∷ xs) ys less all rises = (omega (arith, less, all.0), rises-behind (part_of x) part xs ys (omega (arith, all.0)) all.1 rises)

rises-all : (low part : ℕ) (xs : List Placed) → low ≤ part → EachOf (IsPart part) xs → Rises low xs
rises-all low part [] less all = tt
rises-all low part (x ∷ xs) less all = (omega (arith, less, all.0), rises-all (part_of x) part xs (omega (arith, all.0)) all.1)

-- a line of a cast ballot is one of the ballots
cast-part : (ballot : ℕ) (line : CastLine) → part_of (cast_place ballot line) ≡ 3
cast-part ballot (cast.Code code) = refl
cast-part ballot line = refl

draw-part : (draw : Draw) → part_of (draw_leaf as_place draw) ≡ 5
draw-part drawn.Full = refl
draw-part (drawn.Public bytes) = refl

module _ (posted : Record) where
  abbrev pub head : List Placed
  head = map OfPlan (plan_lines posted.plan)

  abbrev pub blocks : List Placed
  blocks = flat_map (block_tree as_place posted.plan) posted.ballots

  abbrev pub claims : List Placed
  claims = flat_map (dispute_tree as_place) posted.disputes

  -- the lines behind the results, those behind the ballots, and those behind the commitments
  abbrev pub behind_results : List Placed
  behind_results = opening_tree as_place posted ++ claims

  abbrev pub behind_ballots : List Placed
  behind_ballots = result_tree as_place posted ++ behind_results

  abbrev pub behind_commits : List Placed
  behind_commits = blocks ++ behind_ballots

  pub head_is : EachOf (IsPart 0) head
  head_is = plan-of (IsPart 0) posted.plan (λ said. refl)

  pub commits_are : EachOf (IsPart 2) (commit_tree as_place posted)
  commits_are = commits-of (IsPart 2) posted (λ r e d. refl) (λ r i x a b. refl) (λ d. refl)

  pub blocks_are : EachOf (IsPart 3) blocks
  blocks_are = ballots-of (IsPart 3) (λ b. refl) cast-part (λ b r l. refl) (λ b code. refl) posted.plan posted.ballots

  pub results_are : EachOf (IsPart 4) (result_tree as_place posted)
  results_are = results-of (IsPart 4) posted (λ r i f b. refl) (λ r f b. refl) (λ r c n low is. refl) (λ d. refl)

  pub rows_are : EachOf (IsPart 6) (indexed (race_row_tree as_place) 0 posted.rows ++ seal_tree as_place 3 posted.seals)
  rows_are =
      of-append (IsPart 6) (indexed (race_row_tree as_place) 0 posted.rows) (seal_tree as_place 3 posted.seals) (rows-of (IsPart 6) posted (λ r i x o is. refl)) (seals-of (IsPart 6) 3 posted.seals (λ d. refl))

  pub claims-rise : Rises 7 claims
  claims-rise = rises-all 7 7 claims (omega arith) (disputes-of (IsPart 7) posted.disputes (λ b r c w. refl) (λ b r c code. refl))

  pub results-rise : Rises 5 behind_results
  results-rise =
      let draw = draw-part posted.draw in (
        omega (arith, draw),
        rises-behind (part_of (draw_leaf as_place posted.draw)) 6 (indexed (race_row_tree as_place) 0 posted.rows ++ seal_tree as_place 3 posted.seals) claims (omega (arith, draw)) rows_are (rises-from 6 7 claims (omega arith) claims-rise),
      )

  pub ballots-rise : Rises 4 behind_ballots
  ballots-rise = rises-behind 4 4 (result_tree as_place posted) behind_results (omega arith) results_are (rises-from 4 5 behind_results (omega arith) results-rise)

  commits-rise : Rises 3 behind_commits
  commits-rise = rises-behind 3 3 blocks behind_ballots (omega arith) blocks_are (rises-from 3 4 behind_ballots (omega arith) ballots-rise)

  pub record-rises : Rises 0 (places_in posted)
  unfolding places_in
  record-rises =
      rises-behind 0 0 head (commit_tree as_place posted ++ behind_commits) (omega arith) head_is
      (rises-behind 0 2 (commit_tree as_place posted) behind_commits (omega arith) commits_are (rises-from 2 3 behind_commits (omega arith) commits-rise))

pub all-behind : (part : ℕ) (lines : List Placed) → Rises part lines → EachOf (λ (line : Placed). part ≤ part_of line) lines
all-behind part [] rises = tt
all-behind part (line ∷ lines) rises = (
  rises.0,
  of-into (λ (l : Placed). part_of line ≤ part_of l) (λ (l : Placed). part ≤ part_of l) lines (λ l less. omega (arith, less, rises.0)) (all-behind (part_of line) lines rises.1),
)

-- WHAT ONLY LINES OF ONE PART SAY

module _ (posted : Record) {B : Type 0} (given : Placed → Option B) where
  none-of : (part : ℕ) (xs : List Placed) → EachOf (IsPart part) xs → ((line : Placed) → part_of line ≡ part → given line ≡ None) → first_given given xs ≡ None
  none-of part xs all none = given-of given xs (of-into (IsPart part) (λ (line : Placed). given line ≡ None) xs none all)

  none-from : (part : ℕ) (xs : List Placed) → Rises part xs → ((line : Placed) → part ≤ part_of line → given line ≡ None) → first_given given xs ≡ None
  none-from part xs rises none = given-of given xs (of-into (λ (line : Placed). part ≤ part_of line) (λ (line : Placed). given line ≡ None) xs none (all-behind part xs rises))

  pub given-commits : ((line : Placed) → part_of line ≢ 2 → given line ≡ None) → first_given given (places_in posted) ≡ first_given given (commit_tree as_place posted)
  unfolding places_in
  given-commits none =
      given-behind given (head posted) (commit_tree as_place posted ++ behind_commits posted) (none-of 0 (head posted) (head_is posted) (λ line is. none line (λ e. omega (arith, is, e))))
      ∙ given-before given (commit_tree as_place posted) (behind_commits posted) (none-from 3 (behind_commits posted) (commits-rise posted) (λ line less. none line (λ e. omega (arith, less, e))))

  -- of the ballots and the disputes
  pub given-codes : ((line : Placed) → part_of line ≢ 3 → part_of line ≢ 7 → given line ≡ None)
      → first_given given (places_in posted) ≡ option_map_or Some (first_given given (blocks posted)) (first_given given (claims posted))
  unfolding places_in
  given-codes none =
      given-behind given (head posted) (commit_tree as_place posted ++ behind_commits posted) (none-of 0 (head posted) (head_is posted) (λ line is. none line (λ e. omega (arith, is, e)) (λ e. omega (arith, is, e))))
      ∙ (given-behind given (commit_tree as_place posted) (behind_commits posted) (none-of 2 (commit_tree as_place posted) (commits_are posted) (λ line is. none line (λ e. omega (arith, is, e)) (λ e. omega (arith, is, e))))
      ∙ (given-append given (blocks posted) (behind_ballots posted)
      ∙ ap (λ (o : Option B). option_map_or Some (first_given given (blocks posted)) o)
      (given-behind given (result_tree as_place posted) (behind_results posted) (none-of 4 (result_tree as_place posted) (results_are posted) (λ line is. none line (λ e. omega (arith, is, e)) (λ e. omega (arith, is, e))))
      ∙ given-behind given (opening_tree as_place posted) (claims posted) (given-of given (opening_tree as_place posted) (
        (let draw = draw-part posted.draw in none (draw_leaf as_place posted.draw) (λ e. omega (arith, draw, e)) (λ e. omega (arith, draw, e))),
        of-into (IsPart 6) (λ (line : Placed). given line ≡ None) (indexed (race_row_tree as_place) 0 posted.rows ++ seal_tree as_place 3 posted.seals) (λ line is. none line (λ e. omega (arith, is, e)) (λ e. omega (arith, is, e))) (rows_are posted),
      )))))

  before-results : ((line : Placed) → part_of line < 4 → given line ≡ None) → first_given given (places_in posted) ≡ first_given given (behind_ballots posted)
  unfolding places_in
  before-results none =
      given-behind given (head posted) (commit_tree as_place posted ++ behind_commits posted) (none-of 0 (head posted) (head_is posted) (λ line is. none line (omega (arith, is))))
      ∙ (given-behind given (commit_tree as_place posted) (behind_commits posted) (none-of 2 (commit_tree as_place posted) (commits_are posted) (λ line is. none line (omega (arith, is))))
      ∙ given-behind given (blocks posted) (behind_ballots posted) (none-of 3 (blocks posted) (blocks_are posted) (λ line is. none line (omega (arith, is)))))

  pub given-results : ((line : Placed) → part_of line ≢ 4 → given line ≡ None) → first_given given (places_in posted) ≡ first_given given (result_tree as_place posted)
  given-results none =
      before-results (λ line less. none line (λ e. omega (arith, less, e)))
      ∙ given-before given (result_tree as_place posted) (behind_results posted) (none-from 5 (behind_results posted) (results-rise posted) (λ line less. none line (λ e. omega (arith, less, e))))

  -- of the draw and the rows
  pub given-openings : ((line : Placed) → part_of line ≢ 5 → part_of line ≢ 6 → given line ≡ None) → first_given given (places_in posted) ≡ first_given given (opening_tree as_place posted)
  given-openings none =
      before-results (λ line less. none line (λ e. omega (arith, less, e)) (λ e. omega (arith, less, e)))
      ∙ (given-behind given (result_tree as_place posted) (behind_results posted) (none-of 4 (result_tree as_place posted) (results_are posted) (λ line is. none line (λ e. omega (arith, is, e)) (λ e. omega (arith, is, e))))
      ∙ given-before given (opening_tree as_place posted) (claims posted) (none-from 7 (claims posted) (claims-rise posted) (λ line less. none line (λ e. omega (arith, less, e)) (λ e. omega (arith, less, e)))))

any-some : {A : Type 0} (test : A → Bool) (xs : List A) → list_any test xs ≡ is_some (first_given (λ (x : A). cond (test x) (Some x) None) xs)
any-some test [] = refl
any-some {A} test (x ∷ xs) = at_first (test x) (any-some test xs)
  where
    at_first : (b : Bool) → list_any test xs ≡ is_some (first_given (λ (y : A). cond (test y) (Some y) None) xs)
        → (b || list_any test xs) ≡ is_some (option_map_or Some (cond b (Some x) None) (first_given (λ (y : A). cond (test y) (Some y) None) xs))
    at_first true rest = refl
    at_first false rest = rest

module _ (posted : Record) (test : Placed → Bool) where
  abbrev passing : Placed → Option Placed
  passing line = cond (test line) (Some line) None

  fails-none : (line : Placed) → test line ≡ false → passing line ≡ None
  fails-none line fails = ap (λ (b : Bool). cond b (Some line) None) fails

  pub any-results : ((line : Placed) → part_of line ≢ 4 → test line ≡ false) → list_any test (places_in posted) ≡ list_any test (result_tree as_place posted)
  any-results fails =
      any-some test (places_in posted)
      ∙ (ap (λ (o : Option Placed). is_some o) (given-results posted passing (λ line other. fails-none line (fails line other))) ∙ sym (any-some test (result_tree as_place posted)))

  pub any-openings : ((line : Placed) → part_of line ≢ 5 → part_of line ≢ 6 → test line ≡ false) → list_any test (places_in posted) ≡ list_any test (opening_tree as_place posted)
  any-openings fails =
      any-some test (places_in posted)
      ∙ (ap (λ (o : Option Placed). is_some o) (given-openings posted passing (λ line a b. fails-none line (fails line a b))) ∙ sym (any-some test (opening_tree as_place posted)))

-- WHAT THE LINES BEFORE A LINE SAY

-- a line of the whole and the lines before it: no line behind it is of an earlier part
pub record IsFront (whole before : List Placed) (line : Placed) : Type 0 where
  pub rest : List Placed
  pub is : whole ≡ before ++ line ∷ rest
  pub behind : EachOf (λ (later : Placed). part_of line ≤ part_of later) rest

module _ (whole before : List Placed) (line : Placed) (front : IsFront whole before line) where
  late_lines : EachOf (λ (later : Placed). part_of line ≤ part_of later) (line ∷ front.rest)
  late_lines = (omega arith, front.behind)

  pub any-kept : (test : Placed → Bool) → ((later : Placed) → part_of line ≤ part_of later → test later ≡ false) → list_any test before ≡ list_any test whole
  any-kept test fails =
      sym (ap (list_any test) front.is
      ∙ any-before test before (line ∷ front.rest)
      (of-none test (line ∷ front.rest) (of-into (λ (later : Placed). part_of line ≤ part_of later) (λ (later : Placed). test later ≡ false) (line ∷ front.rest) fails late_lines)))

  pub given-kept : {B : Type 0} (given : Placed → Option B) → ((later : Placed) → part_of line ≤ part_of later → given later ≡ None) → first_given given before ≡ first_given given whole
  given-kept given none =
      sym (ap (first_given given) front.is
      ∙ given-before given before (line ∷ front.rest)
      (given-of given (line ∷ front.rest) (of-into (λ (later : Placed). part_of line ≤ part_of later) (λ (later : Placed). given later ≡ None) (line ∷ front.rest) none late_lines)))

  -- behind the commitments
  pub code_commitment-kept : 3 ≤ part_of line → (race entry : ℕ) → code_commitment race entry before ≡ code_commitment race entry whole
  code_commitment-kept late race entry = given-kept (commits_code race entry) none
    where
      none : (later : Placed) → part_of line ≤ part_of later → commits_code race entry later ≡ None
      none (CodeCommitAt of at digest) less = absurd (omega (arith, late, less))
      none later less = refl

  pub half_commitment-kept : 3 ≤ part_of line → (on : Side) (race instance row : ℕ) → half_commitment before on race instance row ≡ half_commitment whole on race instance row
  half_commitment-kept late side.Left race instance row = given-kept (commits_half side.Left race instance row) none
    where
      none : (later : Placed) → part_of line ≤ part_of later → commits_half side.Left race instance row later ≡ None
      none (RowCommitAt of within at left right) less = absurd (omega (arith, late, less))
      none later less = refl
  half_commitment-kept late side.Right race instance row = given-kept (commits_half side.Right race instance row) none
    where
      none : (later : Placed) → part_of line ≤ part_of later → commits_half side.Right race instance row later ≡ None
      none (RowCommitAt of within at left right) less = absurd (omega (arith, late, less))
      none later less = refl

  -- behind the ballots
  pub marked-kept : 4 ≤ part_of line → (plan : Plan) (race entry : ℕ) → is_marked plan race entry before ≡ is_marked plan race entry whole
  marked-kept late plan race entry = any-kept (marks_entry plan race entry) none
    where
      none : (later : Placed) → part_of line ≤ part_of later → marks_entry plan race entry later ≡ false
      none (CodeAt block.Cast ballot of column code) less = absurd (omega (arith, late, less))
      none (CodeAt block.Audited ballot of column code) less = refl
      none (CodeAt block.Dispute ballot of column code) less = refl
      none later less = refl

  -- behind the results
  pub flagged-kept : 5 ≤ part_of line → (race instance row : ℕ) → is_flagged race instance row before ≡ is_flagged race instance row whole
  flagged-kept late race instance row = any-kept (flags_row race instance row) none
    where
      none : (later : Placed) → part_of line ≤ part_of later → flags_row race instance row later ≡ false
      none (FlagsAt of within from bits) less = absurd (omega (arith, late, less))
      none later less = refl

  pub set-kept : 5 ≤ part_of line → (race place : ℕ) → is_set race place before ≡ is_set race place whole
  set-kept late race place = any-kept (sets_place race place) none
    where
      none : (later : Placed) → part_of line ≤ part_of later → sets_place race place later ≡ false
      none (PlacesAt of from bits) less = absurd (omega (arith, late, less))
      none later less = refl

  -- behind the draw
  pub full_draw-kept : 6 ≤ part_of line → is_full_draw before ≡ is_full_draw whole
  full_draw-kept late = any-kept draws_full none
    where
      none : (later : Placed) → part_of line ≤ part_of later → draws_full later ≡ false
      none DrawnFull less = absurd (omega (arith, late, less))
      none later less = refl

  pub digits-kept : 6 ≤ part_of line → first_given draws_digits before ≡ first_given draws_digits whole
  digits-kept late = given-kept draws_digits none
    where
      none : (later : Placed) → part_of line ≤ part_of later → draws_digits later ≡ None
      none (DrawnPublic digits) less = absurd (omega (arith, late, less))
      none later less = refl

-- WHAT IS JUDGED OF EACH LINE

module _ (bad : List Placed → Placed → Bool) (P : Placed → Type 0) (posted : Record)
    (good : (before : List Placed) (line : Placed) → IsFront (places_in posted) before line → P line → bad before line ≡ false) where
  lines-good : (low : ℕ) (before rest : List Placed) → places_in posted ≡ before ++ rest → Rises low rest → EachOf P rest → late bad before rest ≡ false
  lines-good low before [] is rises all = refl
  lines-good low before (line ∷ rest) is rises all =
      ap (λ (b : Bool). b || late bad (before ++ line ∷ []) rest) (good before line (record { rest = rest; is = is; behind = all-behind (part_of line) rest rises.1 }) all.0)
      ∙ lines-good (part_of line) (before ++ line ∷ []) rest (is ∙ sym (append_assoc before (line ∷ []) rest)) rises.1 all.1

  -- where no line with the property is bad behind the lines before it, no line of the record is
  pub record-good : EachOf P (places_in posted) → late bad [] (places_in posted) ≡ false
  record-good all = lines-good 0 [] (places_in posted) refl (record-rises posted) all

-- A PROPERTY OF EACH LINE

-- a line that is about no ballot, and is no total and no row
abbrev pub is_plain : Placed → Bool
is_plain (TotalAt race candidate count) = false
is_plain (RowAt race instance row opening) = false
is_plain line = not (is_some (ballot_on line))

pub lines-of : (P : Placed → Type 0) (posted : Record) → ((line : Placed) → is_plain line ≡ true → P line) → EachOf P (flat_map (block_tree as_place posted.plan) posted.ballots)
    → ((race candidate count : ℕ) → race < length posted.plan.races → slice_get (slice_index_or posted.totals race []) candidate ≡ Some count → P (TotalAt race candidate count))
    → ((race instance row : ℕ) (opening : RowOpening) → row_in posted.rows race instance row ≡ Some opening → P (RowAt race instance row opening)) → EachOf P (flat_map (dispute_tree as_place) posted.disputes)
    → EachOf P (places_in posted)
unfolding places_in
lines-of P posted plain blocks total row claims =
    of-append P (map OfPlan (plan_lines posted.plan)) _ (plan-of P posted.plan (λ said. plain (OfPlan said) refl))
    (of-append P (commit_tree as_place posted) _ (commits-of P posted (λ r e d. plain (CodeCommitAt r e d) refl) (λ r i x a b. plain (RowCommitAt r i x a b) refl) (λ d. plain (SealAt 1 d) refl))
    (of-append P (flat_map (block_tree as_place posted.plan) posted.ballots) _ blocks
    (of-append P (result_tree as_place posted) _ (results-of P posted (λ r i f b. plain (FlagsAt r i f b) refl) (λ r f b. plain (PlacesAt r f b) refl) total (λ d. plain (SealAt 2 d) refl))
    (of-append P (opening_tree as_place posted) (flat_map (dispute_tree as_place) posted.disputes)
    (openings-of P posted (plain DrawnFull refl) (λ digits. plain (DrawnPublic digits) refl) row (λ d. plain (SealAt 3 d) refl)) claims))))
