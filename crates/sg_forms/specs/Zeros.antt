-- The arrays of a line: behind the elements that count, there are zeros.
use Rattle.std.specs.Prelude.{ℕ, ◌≡◌, ◌-◌, List, drop, replicate}
use Rattle.sg_plan.specs.Limits.{most_candidates, most_races}
use Rattle.sg_forms.specs.declared.line.Line.{Line}
use Rattle.sg_forms.specs.declared.line.Line.TheVariants as line

-- from `count` on each element of a list of so many is 0
abbrev pub IsZeroBehind : ℕ → ℕ → List ℕ → Type 0
IsZeroBehind size count list = drop count list ≡ replicate (size - count) 0

abbrev pub HasZeros : Line → Type 0
HasZeros (line.Style name races count) = IsZeroBehind most_races count races
HasZeros (line.Paper race list count) = IsZeroBehind most_candidates count list
HasZeros _ = Unit {0}
