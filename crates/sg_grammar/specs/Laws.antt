-- The laws of records: what follows from the grammar alone.
use Rattle.std.specs.Prelude.{◌≡◌, ℕ, ◌≤◌, true, List, ◌++◌, length, map, count_by, Some, IsSome}
use Rattle.sg_grammar.specs.Left.{is_total_line, most_totals}
use Rattle.sg_grammar.specs.Lines.{IsAmong, placed_of}
use Rattle.sg_grammar.specs.Parting.{Apart, HasEachLine, IsLineIn, clash}
use Rattle.sg_grammar.specs.Placed.{Placed}
use Rattle.sg_grammar.specs.Walk.{Walked, is_whole, start, walk}

-- each of the lines may stand after the lines before it: they are the front of a record, or all of it
abbrev pub IsFront : List (List ℕ) → Type 0
IsFront lines = IsSome (walk start lines)

-- no front has more than 1,200,000 lines
abbrev pub MostLines : Type 0
MostLines = (lines : List (List ℕ)) → IsFront lines → length lines ≤ 1200000

-- the first lines of a front are one
abbrev pub FrontsOfFronts : Type 0
FrontsOfFronts = (lines more : List (List ℕ)) → IsFront (lines ++ more) → IsFront lines

-- at most 512 lines of a front are the total of a candidate
abbrev pub FewTotals : Type 0
FewTotals = (lines : List (List ℕ)) (walked : Walked) → walk start lines ≡ Some walked → count_by is_total_line (map (λ posted. posted.line) walked.posted) ≤ most_totals

-- no line of a front stands behind one that bars it
abbrev pub LinesStandApart : Type 0
LinesStandApart = (lines : List (List ℕ)) (walked : Walked) → walk start lines ≡ Some walked → Apart clash (placed_of walked.posted)

-- each row, each place and each candidate of the plan has its line in a whole record
abbrev pub WholeHasEach : Type 0
WholeHasEach = (lines : List (List ℕ)) (walked : Walked) → walk start lines ≡ Some walked → is_whole walked.next ≡ true → HasEachLine walked.next.plan (placed_of walked.posted)

-- the numbers of each line of a front are in its plan, and what it shows is in its range
abbrev pub LinesAreInPlan : Type 0
LinesAreInPlan = (lines : List (List ℕ)) (walked : Walked) (line : Placed) → walk start lines ≡ Some walked → IsAmong (placed_of walked.posted) line → IsLineIn walked.next.plan line
