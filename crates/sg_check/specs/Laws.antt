-- The laws of verdicts.
use Rattle.std.specs.Prelude.{◌≡◌, ◌≢◌, ℕ, ◌+◌, ◌/◌, ◌%◌, ◌<◌, true, false, ◌⊎◌, List, [], ◌∷◌, ◌++◌, Contains, length, Some, None}
use Rattle.sg_commit.specs.declared.CommitKind.TheVariants as commit
use Rattle.sg_commit.specs.declared.Opening.{Opening}
use Rattle.sg_forms.specs.declared.line.CodeLine.{CodeLine}
use Rattle.sg_forms.specs.declared.line.RowOpening.{RowOpening}
use Rattle.sg_forms.specs.declared.line.RowOpening.TheVariants as opened
use Rattle.sg_plan.specs.Ballots.{candidates_of, entries_of, entry_at}
use Rattle.sg_plan.specs.declared.plan.Plan.{Plan}
use Rattle.sg_plan.specs.declared.plan.Side.TheVariants as side
use Rattle.sg_streams.specs.CoinSides.{coin_of, coin_seed}
use Rattle.sg_grammar.specs.Lines.{IsAmong, placed_of}
use Rattle.sg_grammar.specs.Placed.{Placed}
use Rattle.sg_grammar.specs.Placed.Placed.{CodeAt, RowAt, TotalAt}
use Rattle.sg_grammar.specs.Walk.{Taken, Walked, start, take_bytes, walk}
use Rattle.sg_grammar.specs.declared.state.Block.{Block}
use Rattle.sg_check.specs.Bounds.{AreAllTotalled, AreTotalsBound, AreTotalsEqual, HasCompletion, HasPrinting}
use Rattle.sg_check.specs.Facts.{audited_code, audited_entries, both_rows, code_commitment, half_commitment, is_audited, is_both, is_flagged, is_full_draw, is_marked, is_set, opened_on, paper_code, public_bytes, votes_for}
use Rattle.sg_check.specs.Judging.{AreOfPlan, bad_in, later_kinds}
use Rattle.sg_check.specs.Kinds.{code_opening, is_on_side, kinds, opens_digest}
use Rattle.sg_check.specs.Verdict.{AreFine, IsFirstBad, IsVerdict, are_whole, least_broken, totals_of}
use Rattle.sg_check.specs.declared.judged.Judged.{Judged}
use Rattle.sg_check.specs.declared.judged.Judged.TheVariants as judged
use Rattle.sg_check.specs.declared.judged.Kind.{Kind}
use Rattle.sg_check.specs.declared.judged.Kind.TheVariants as kind
use Rattle.sg_check.specs.declared.judged.Total.{Total}

-- two verdicts on the same lines are the same
abbrev pub OneVerdict : Type 0
OneVerdict = (lines : List (List ℕ)) (a b : Judged) → IsVerdict lines a → IsVerdict lines b → a ≡ b

-- each list of lines has a verdict
abbrev pub SomeVerdict : Type 0
SomeVerdict = (lines : List (List ℕ)) → (found : Judged) × IsVerdict lines found

-- what follows the first bad line changes nothing
abbrev pub FirstBadStays : Type 0
FirstBadStays = (lines more : List (List ℕ)) (number : ℕ) (k : Kind) → IsFirstBad lines number k → IsVerdict (lines ++ more) (judged.No number k)

-- the first of fine lines are fine
abbrev pub FrontsAreFine : Type 0
FrontsAreFine = (lines more : List (List ℕ)) → AreFine (lines ++ more) → AreFine lines

-- fine lines are good where they are a whole record, and else the next line is the first bad
pub record IsEndJudged (lines : List (List ℕ)) : Type 0 where
  pub good : are_whole lines ≡ true → IsVerdict lines (judged.Yes (totals_of lines))
  pub cut : are_whole lines ≡ false → IsVerdict lines (judged.No (length lines + 1) kind.Form)

abbrev pub EndsAreJudged : Type 0
EndsAreJudged = (lines : List (List ℕ)) → AreFine lines → IsEndJudged lines

-- behind fine lines, one that may not stand is the first bad, in form
abbrev pub FormIsJudged : Type 0
FormIsJudged = (lines : List (List ℕ)) (walked : Walked) (bytes : List ℕ) → walk start lines ≡ Some walked → AreFine lines
    → take_bytes walked.next bytes ≡ None → IsFirstBad (lines ++ bytes ∷ []) (length lines + 1) kind.Form

-- the plan with the new line is the one before it, or all lines before it are lines of the plan
abbrev pub IsPlanKnown : Walked → Taken → Type 0
IsPlanKnown walked taken = (taken.next.plan ≡ walked.next.plan) ⊎ AreOfPlan (placed_of walked.posted)

-- behind fine lines, one that may stand is judged alone: the lines break the first kind in which it is bad
abbrev pub LineIsJudged : Type 0
LineIsJudged = (lines : List (List ℕ)) (walked : Walked) (bytes : List ℕ) (taken : Taken) → walk start lines ≡ Some walked → AreFine lines
    → take_bytes walked.next bytes ≡ Some taken → IsPlanKnown walked taken
    → least_broken (lines ++ bytes ∷ []) ≡ bad_in taken.next.plan walked.posted (record { bytes = bytes; line = taken.placed })

-- WHAT HOLDS OF FINE LINES, over their places

-- the lines are fine, and this is their walk
pub record IsFineWalk (lines : List (List ℕ)) (walked : Walked) : Type 0 where
  pub walks : walk start lines ≡ Some walked
  pub fine : AreFine lines

-- one of them is this one, and a later one that one
abbrev pub IsBefore : List Placed → Placed → Placed → Type 0
IsBefore lines line later = (front between rest : List Placed) × (lines ≡ front ++ line ∷ (between ++ later ∷ rest))

-- one line shows a code of a column of a ballot in a race, and a later line one too: of one column they are the same,
-- and of two they are different
pub record AreCodesKnown (plan : Plan) (lines : List Placed) : Type 0 where
  pub same : (block other_block : Block) (ballot race column : ℕ) (code other : CodeLine)
      → IsBefore lines (CodeAt block ballot race column code) (CodeAt other_block ballot race column other) → code.code ≡ other.code
  pub differ : (block other_block : Block) (ballot race column other_column : ℕ) (code other : CodeLine)
      → IsBefore lines (CodeAt block ballot race column code) (CodeAt other_block ballot race other_column other) → column ≢ other_column → code.code ≢ other.code

-- the pointers that are opened on a side of an instance are below n and different
pub record ArePointersOnce (plan : Plan) (lines : List Placed) : Type 0 where
  pub left_below : (race instance row : ℕ) (opening : RowOpening) (left : Opening)
      → IsAmong lines (RowAt race instance row opening) → opened_on side.Left opening ≡ Some left → left.value < entries_of plan race
  pub right_below : (race instance row : ℕ) (opening : RowOpening) (right : Opening)
      → IsAmong lines (RowAt race instance row opening) → opened_on side.Right opening ≡ Some right → right.value < entries_of plan race
  pub left_differ : (race instance row other_row : ℕ) (opening other : RowOpening) (left other_left : Opening)
      → IsBefore lines (RowAt race instance row opening) (RowAt race instance other_row other)
      → opened_on side.Left opening ≡ Some left → opened_on side.Left other ≡ Some other_left → left.value ≢ other_left.value
  pub right_differ : (race instance row other_row : ℕ) (opening other : RowOpening) (right other_right : Opening)
      → IsBefore lines (RowAt race instance row opening) (RowAt race instance other_row other)
      → opened_on side.Right opening ≡ Some right → opened_on side.Right other ≡ Some other_right → right.value ≢ other_right.value

-- by the lines before it, a row is flagged exactly where its left pointer's entry is marked, and exactly where its
-- right pointer's place is set
pub record DoFlagsAgree (plan : Plan) (lines : List Placed) : Type 0 where
  pub left : (front rest : List Placed) (race instance row : ℕ) (opening : RowOpening) (left : Opening)
      → lines ≡ front ++ RowAt race instance row opening ∷ rest → opened_on side.Left opening ≡ Some left
      → is_flagged race instance row front ≡ is_marked plan race left.value front
  pub right : (front rest : List Placed) (race instance row : ℕ) (opening : RowOpening) (right : Opening)
      → lines ≡ front ++ RowAt race instance row opening ∷ rest → opened_on side.Right opening ≡ Some right
      → is_flagged race instance row front ≡ is_set race right.value front

-- a total is the number of the candidate's set places before it
abbrev pub AreTotalsCounted : Plan → List Placed → Type 0
AreTotalsCounted plan lines = (front rest : List Placed) (race candidate count : ℕ)
    → lines ≡ front ++ TotalAt race candidate count ∷ rest → count ≡ votes_for plan race candidate front

-- two rows of a race that are opened on both sides, in one instance or in two: they lead one entry to one place, and two
-- entries of one ballot to two candidates
pub record DoPathsAgree (plan : Plan) (lines : List Placed) : Type 0 where
  pub same : (race instance row other_instance other_row : ℕ) (left right other_left other_right : Opening)
      → IsBefore lines (RowAt race instance row (opened.Both left right)) (RowAt race other_instance other_row (opened.Both other_left other_right))
      → left.value ≡ other_left.value → right.value ≡ other_right.value
  pub differ : (race instance row other_instance other_row : ℕ) (left right other_left other_right : Opening)
      → IsBefore lines (RowAt race instance row (opened.Both left right)) (RowAt race other_instance other_row (opened.Both other_left other_right))
      → left.value ≢ other_left.value → left.value / candidates_of plan race ≡ other_left.value / candidates_of plan race
      → right.value % candidates_of plan race ≢ other_right.value % candidates_of plan race

abbrev pub CodesAreKnown : Type 0
CodesAreKnown = (lines : List (List ℕ)) (walked : Walked) → IsFineWalk lines walked → AreCodesKnown walked.next.plan (placed_of walked.posted)

abbrev pub PointersStandOnce : Type 0
PointersStandOnce = (lines : List (List ℕ)) (walked : Walked) → IsFineWalk lines walked → ArePointersOnce walked.next.plan (placed_of walked.posted)

abbrev pub FlagsAgree : Type 0
FlagsAgree = (lines : List (List ℕ)) (walked : Walked) → IsFineWalk lines walked → DoFlagsAgree walked.next.plan (placed_of walked.posted)

abbrev pub TotalsCount : Type 0
TotalsCount = (lines : List (List ℕ)) (walked : Walked) → IsFineWalk lines walked → AreTotalsCounted walked.next.plan (placed_of walked.posted)

abbrev pub PathsAgree : Type 0
PathsAgree = (lines : List (List ℕ)) (walked : Walked) → IsFineWalk lines walked → DoPathsAgree walked.next.plan (placed_of walked.posted)

-- by the lines before it, each code opens the commitment of its entry, and each pointer that a row opens that of the row
pub record DoOpeningsOpen (plan : Plan) (lines : List Placed) : Type 0 where
  pub code : (front rest : List Placed) (block : Block) (ballot race column : ℕ) (code : CodeLine)
      → lines ≡ front ++ CodeAt block ballot race column code ∷ rest
      → opens_digest (code_commitment race (entry_at plan race ballot column) front) commit.Q race 0 (entry_at plan race ballot column) (code_opening code) ≡ true
  pub left : (front rest : List Placed) (race instance row : ℕ) (opening : RowOpening) (left : Opening)
      → lines ≡ front ++ RowAt race instance row opening ∷ rest → opened_on side.Left opening ≡ Some left
      → opens_digest (half_commitment front side.Left race instance row) commit.L race instance row left ≡ true
  pub right : (front rest : List Placed) (race instance row : ℕ) (opening : RowOpening) (right : Opening)
      → lines ≡ front ++ RowAt race instance row opening ∷ rest → opened_on side.Right opening ≡ Some right
      → opens_digest (half_commitment front side.Right race instance row) commit.R race instance row right ≡ true

-- by the draw before it, each row is opened on both sides; or it is so or on the side of its coin
pub record AreSidesDrawn (lines : List Placed) : Type 0 where
  pub full : (front rest : List Placed) (race instance row : ℕ) (opening : RowOpening)
      → lines ≡ front ++ RowAt race instance row opening ∷ rest → is_full_draw front ≡ true → is_both opening ≡ true
  pub coin : (front rest : List Placed) (race instance row : ℕ) (opening : RowOpening) (public : List ℕ)
      → lines ≡ front ++ RowAt race instance row opening ∷ rest → public_bytes front ≡ Some public
      → is_on_side (coin_of (coin_seed public) race instance row) opening ≡ true

-- by the lines before it, where public bytes are drawn, a row that is opened on both sides is of an audited entry, and one
-- that is opened on the left side is of no audited entry; and with either draw a row that is opened on both sides leads an
-- audited entry to a candidate beside which its ballot's paper has the entry's code
pub record DoPrintsAgree (plan : Plan) (lines : List Placed) : Type 0 where
  pub both : (front rest : List Placed) (race instance row : ℕ) (left right : Opening) (public : List ℕ)
      → lines ≡ front ++ RowAt race instance row (opened.Both left right) ∷ rest → public_bytes front ≡ Some public
      → is_audited plan race left.value front ≡ true
  pub one : (front rest : List Placed) (race instance row : ℕ) (left : Opening) (public : List ℕ)
      → lines ≡ front ++ RowAt race instance row (opened.Left left) ∷ rest → public_bytes front ≡ Some public
      → is_audited plan race left.value front ≡ false
  pub number : (front rest : List Placed) (race instance row : ℕ) (opening : RowOpening) (public : List ℕ)
      → lines ≡ front ++ RowAt race instance row opening ∷ rest → public_bytes front ≡ Some public → row + 1 ≡ entries_of plan race
      → both_rows race instance (front ++ RowAt race instance row opening ∷ []) ≡ audited_entries race front
  pub paper : (front rest : List Placed) (race instance row : ℕ) (left right : Opening) (code : ℕ)
      → lines ≡ front ++ RowAt race instance row (opened.Both left right) ∷ rest → audited_code plan race left.value front ≡ Some code
      → paper_code plan race (left.value / candidates_of plan race) (right.value % candidates_of plan race) front ≡ Some code

abbrev pub OpeningsOpen : Type 0
OpeningsOpen = (lines : List (List ℕ)) (walked : Walked) → IsFineWalk lines walked → DoOpeningsOpen walked.next.plan (placed_of walked.posted)

abbrev pub SidesAreDrawn : Type 0
SidesAreDrawn = (lines : List (List ℕ)) (walked : Walked) → IsFineWalk lines walked → AreSidesDrawn (placed_of walked.posted)

abbrev pub PrintsAgree : Type 0
PrintsAgree = (lines : List (List ℕ)) (walked : Walked) → IsFineWalk lines walked → DoPrintsAgree walked.next.plan (placed_of walked.posted)

-- lines that break no kind are fine
abbrev pub NoneBadAreFine : Type 0
NoneBadAreFine = (lines : List (List ℕ)) → least_broken lines ≡ None → AreFine lines

-- each kind is among the kinds, and the later ones are all of them but form: a kind that is left out would never be found
pub record AreAllKinds : Type 0 where
  pub each : (k : Kind) → Contains kinds k
  pub later : kinds ≡ kind.Form ∷ later_kinds

-- WHAT A YES PROMISES

-- the lines have the verdict yes with these totals, and this is their walk
pub record IsAccepted (lines : List (List ℕ)) (totals : List Total) (walked : Walked) : Type 0 where
  pub walks : walk start lines ≡ Some walked
  pub yes : IsVerdict lines (judged.Yes totals)

-- each total differs from the count of posted codes by at most the altered rows of each instance
abbrev pub TotalsBound : Type 0
TotalsBound = (lines : List (List ℕ)) (totals : List Total) (walked : Walked) → IsAccepted lines totals walked
    → AreTotalsBound walked.next.plan (placed_of walked.posted) totals

-- each candidate of each race has a total
abbrev pub TotalsStand : Type 0
TotalsStand = (lines : List (List ℕ)) (totals : List Total) (walked : Walked) → IsAccepted lines totals walked
    → AreAllTotalled walked.next.plan totals

-- there is a printing that stands with the record
abbrev pub PrintingExists : Type 0
PrintingExists = (lines : List (List ℕ)) (totals : List Total) (walked : Walked) → IsAccepted lines totals walked
    → HasPrinting walked.next.plan (placed_of walked.posted)

-- there is a completion that opens no commitment twice
abbrev pub CompletionExists : Type 0
CompletionExists = (lines : List (List ℕ)) (totals : List Total) (walked : Walked) → IsAccepted lines totals walked
    → HasCompletion walked.next.plan (placed_of walked.posted)

-- where both sides of each row are drawn, each total is the count of posted codes
abbrev pub FullDrawEquals : Type 0
FullDrawEquals = (lines : List (List ℕ)) (totals : List Total) (walked : Walked) → IsAccepted lines totals walked
    → is_full_draw (placed_of walked.posted) ≡ true → AreTotalsEqual walked.next.plan (placed_of walked.posted) totals
