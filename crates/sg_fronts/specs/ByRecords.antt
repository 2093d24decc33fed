-- The verdict on lines, said by whole records alone: by what their lists are and how each line is spelled, without the states
-- between two lines and without a reader of lines. A law says that it is the verdict.
use Rattle.std.specs.Prelude.{◌≡◌, ℕ, ◌+◌, ◌<◌, ◌≤◌, Bool, false, ◌⊎◌, ◌↔◌, List, [], ◌++◌, length, take, Option, Some, None}
use Rattle.sg_grammar.specs.Lines.{placed_of}
use Rattle.sg_grammar.specs.Walk.{Posted}
use Rattle.sg_record.specs.Laws.{AreLinesOf}
use Rattle.sg_record.specs.Lines.{lines_in}
use Rattle.sg_record.specs.Places.{places_in, posts}
use Rattle.sg_record.specs.declared.record.Record.{Record}
use Rattle.sg_check.specs.Judging.{AreOfPlan, first_late}
use Rattle.sg_check.specs.Kinds.{is_bad}
use Rattle.sg_check.specs.Verdict.{IsVerdict, late, totals_in}
use Rattle.sg_check.specs.declared.judged.Judged.{Judged}
use Rattle.sg_check.specs.declared.judged.Judged.TheVariants as judged
use Rattle.sg_check.specs.declared.judged.Kind.{Kind}
use Rattle.sg_check.specs.declared.judged.Kind.TheVariants as kind
use Rattle.sg_check.specs.declared.judged.Total.{Total}

-- the record's lines, each with its bytes and in its place
abbrev pub posted_of : Record → List Posted
posted_of posted = posts posted.plan.version (lines_in posted) (places_in posted)

-- one of the record's lines is bad in this kind, against those before it
abbrev pub breaks_in : Record → Kind → Bool
breaks_in posted k = late (is_bad k posted.plan) [] (posted_of posted)

-- its totals, as its lines say them
abbrev pub totals_on : Record → List Total
totals_on posted = totals_in (posted_of posted)

-- A RECORD BEGINS SO

-- the record's text begins with these lines
abbrev pub BeginsWith : List (List ℕ) → Record → Type 0
BeginsWith lines posted = (more : List (List ℕ)) × AreLinesOf (lines ++ more) posted

-- the first kind in which one of so many first lines of the record is bad, against those before it
abbrev pub broken_in : Record → ℕ → Option Kind
broken_in posted count = first_late posted.plan (take count (posted_of posted))

-- a record begins with the lines, and none of them is bad
pub record IsGoodFront (lines : List (List ℕ)) : Type 0 where
  pub posted : Record
  pub begins : BeginsWith lines posted
  pub none_bad : broken_in posted (length lines) ≡ None

-- and each of them is a line of its plan
abbrev pub IsPlanFront : List (List ℕ) → Type 0
IsPlanFront lines = (good : IsGoodFront lines) × AreOfPlan (placed_of (take (length lines) (posted_of good.posted)))

-- lines break form where no record begins with them; another kind where one does, and it is the first in which one of them is bad
abbrev pub Breaks : List (List ℕ) → Kind → Type 0
Breaks lines kind.Form = (posted : Record) → BeginsWith lines posted → ⊥
Breaks lines k = (posted : Record) × BeginsWith lines posted × (broken_in posted (length lines) ≡ Some k)

-- THE VERDICT

-- the lines are this whole record, whose openings match their commitments and whose opened halves agree
pub record IsWholeAndAgrees (lines : List (List ℕ)) (posted : Record) : Type 0 where
  -- a whole record
  pub whole : AreLinesOf lines posted
  -- whose openings match their commitments
  pub openings : breaks_in posted kind.Opening ≡ false
  -- and whose opened halves agree: no line is bad in any kind
  pub agree : (k : Kind) → breaks_in posted k ≡ false

-- the lines are such a record, with these totals
abbrev pub IsYes : List (List ℕ) → List Total → Type 0
IsYes lines totals = (posted : Record) × IsWholeAndAgrees lines posted × (totals ≡ totals_on posted)

-- the shortest list of first lines that breaks a kind has so many lines, and this is the first kind that it breaks
pub record IsFirstBroken (lines : List (List ℕ)) (number : ℕ) (first : Kind) : Type 0 where
  pub within : number ≤ length lines
  pub before : (count : ℕ) → count < number → IsGoodFront (take count lines)
  pub broken : Breaks (take number lines) first

-- no line is bad, and the lines are no whole record: one more is due
pub record IsUnended (lines : List (List ℕ)) (number : ℕ) (broken : Kind) : Type 0 where
  pub good : IsGoodFront lines
  pub unended : (posted : Record) → AreLinesOf lines posted → ⊥
  pub one_more : number ≡ length lines + 1
  pub form : broken ≡ kind.Form

-- what a verdict says of the lines
abbrev pub Says : Judged → List (List ℕ) → Type 0
Says (judged.Yes totals) lines = IsYes lines totals
Says (judged.No number broken) lines = IsFirstBroken lines number broken ⊎ IsUnended lines number broken

-- the verdict on lines is the one that says what holds of them
abbrev pub VerdictsSay : Type 0
VerdictsSay = (lines : List (List ℕ)) (found : Judged) → IsVerdict lines found ↔ Says found lines
