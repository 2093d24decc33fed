-- The verdict on the lines of a record (this project's rules for the record).
use Rattle.std.specs.Prelude.{◌≡◌, ℕ, ◌+◌, ◌<◌, ◌≤◌, Bool, true, false, ◌||◌, ◌⊎◌, List, [], ◌∷◌, ◌++◌, length, take, find, Option, Some, None, is_none}
use Rattle.std.specs.Option.{option_map_or}
use Rattle.sg_grammar.specs.Placed.{Placed}
use Rattle.sg_grammar.specs.Placed.Placed.{TotalAt}
use Rattle.sg_grammar.specs.Walk.{Posted, Walked, start, walk, is_whole}
use Rattle.sg_check.specs.Kinds.{is_bad, kinds}
use Rattle.sg_check.specs.declared.judged.Kind.{Kind}
use Rattle.sg_check.specs.declared.judged.Kind.TheVariants as kind
use Rattle.sg_check.specs.declared.judged.Judged.{Judged}
use Rattle.sg_check.specs.declared.judged.Judged.TheVariants as judged
use Rattle.sg_check.specs.declared.judged.Total.{Total}

-- one of the lines is bad against the lines before it; the first list stands before all of them
abbrev pub late : {A : Type 0} → (List A → A → Bool) → List A → List A → Bool
late bad before [] = false
late bad before (x ∷ xs) = bad before x || late bad (before ++ x ∷ []) xs

-- lines in their places break the kind
abbrev pub breaks_walked : Kind → Walked → Bool
breaks_walked k walked = late (is_bad k walked.next.plan) [] walked.posted

-- the lines break the kind: form, where one of them may not stand; another kind, where one of them is bad in it
abbrev pub breaks : Kind → List (List ℕ) → Bool
breaks kind.Form lines = is_none (walk start lines)
breaks k lines = option_map_or (breaks_walked k) (walk start lines) false

-- the first kind that the lines break
abbrev pub least_broken : List (List ℕ) → Option Kind
least_broken lines = find (λ k. breaks k lines) kinds

-- each list of first lines breaks no kind
abbrev pub AreFine : List (List ℕ) → Type 0
AreFine lines = (count : ℕ) → least_broken (take count lines) ≡ None

-- the shortest list of first lines that breaks a kind has so many lines, and this is the first kind that it breaks
pub record IsFirstBad (lines : List (List ℕ)) (number : ℕ) (first : Kind) : Type 0 where
  pub within : number ≤ length lines
  pub before : (count : ℕ) → count < number → least_broken (take count lines) ≡ None
  pub broken : least_broken (take number lines) ≡ Some first

-- the lines are a whole record
abbrev pub are_whole : List (List ℕ) → Bool
are_whole lines = option_map_or (λ walked. is_whole walked.next) (walk start lines) false

-- what the `total` lines say
abbrev pub total_on : Placed → List Total
total_on (TotalAt race candidate count) = record { race = race; candidate = candidate; count = count } ∷ []
total_on line = []

abbrev pub totals_in : List Posted → List Total
totals_in [] = []
totals_in (line ∷ lines) = total_on line.line ++ totals_in lines

abbrev pub totals_of : List (List ℕ) → List Total
totals_of lines = option_map_or (λ walked. totals_in walked.posted) (walk start lines) []

-- the record is good, with these totals
pub record IsGood (lines : List (List ℕ)) (totals : List Total) : Type 0 where
  pub fine : AreFine lines
  pub whole : are_whole lines ≡ true
  pub totals_are : totals ≡ totals_of lines

-- the record ends too early: no line is bad, and one more is due
pub record IsCut (lines : List (List ℕ)) (number : ℕ) (broken : Kind) : Type 0 where
  pub fine : AreFine lines
  pub cut : are_whole lines ≡ false
  pub one_more : number ≡ length lines + 1
  pub form : broken ≡ kind.Form

-- the verdict on the lines: yes where they are fine and whole; else the first bad line and the first kind that it
-- breaks, or form at one past the last line
abbrev pub IsVerdict : List (List ℕ) → Judged → Type 0
IsVerdict lines (judged.Yes totals) = IsGood lines totals
IsVerdict lines (judged.No number broken) = IsFirstBad lines number broken ⊎ IsCut lines number broken

-- the verdict is no
abbrev pub IsNo : Judged → Type 0
IsNo (judged.Yes totals) = ⊥
IsNo (judged.No number broken) = Unit {0}
