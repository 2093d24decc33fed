-- What a tally stands for, and what it says of the lines so far.
use Rattle.std.specs.Prelude.{◌≡◌, ℕ, ◌+◌, ◌-◌, ◌*◌, ◌<◌, Bool, true, false, not, List, [], ◌∷◌, ◌++◌, length, Option, Some, None}
use Rattle.sg_record.specs.declared.record.Record.{Record}
use Rattle.sg_fronts.specs.ByRecords.{IsGoodFront}
use Rattle.sg_judge.specs.Pass.{StandsFor as HasTaken, is_open as is_fine_so_far, left_in as lines_left_in}
use Rattle.sg_judge.specs.declared.pass.Step.{Step}
use Rattle.sg_judge.specs.declared.pass.Step.TheVariants.{More, Over, Ready}
use Rattle.sg_county.specs.County.{Counts, IsCounty, most_parts, parts_of}
use Rattle.sg_county.specs.inside.Keeping.{AreParts, Keeps}
use Rattle.sg_county.specs.declared.verdict.CountyVerdict.{CountyVerdict}
use Rattle.sg_county.specs.declared.verdict.CountyVerdict.TheVariants.{Yes}
use Rattle.sg_county.specs.declared.tally.Tally.{Tally}

-- WHAT IS SETTLED

-- the parts settle nothing, behind the records of those before them: each but the last counts; the last is none too many, and a
-- record begins with its lines, none of which is bad
abbrev pub SettleNothing : List Record → List (List (List ℕ)) → Type 0
SettleNothing before [] = ⊥
SettleNothing before (part ∷ []) = (length before < most_parts) × IsGoodFront part
SettleNothing before (part ∷ next ∷ parts) = (posted : Record) × Counts before part posted × SettleNothing (before ++ posted ∷ []) (next ∷ parts)

-- the lines settle nothing
pub record IsUnsettled (lines : List (List ℕ)) : Type 0 where
  pub nothing : SettleNothing [] (parts_of lines)

-- the answer is not yes
abbrev pub IsRefusal : CountyVerdict → Type 0
IsRefusal (Yes totals) = ⊥
IsRefusal verdict = Unit {0}

-- this is the answer, whatever follows, and it is not yes
pub record IsSettled (lines : List (List ℕ)) (verdict : CountyVerdict) : Type 0 where
  pub refuses : IsRefusal verdict
  pub stays : (more : List (List ℕ)) → IsCounty (lines ++ more) verdict
  pub settles : IsUnsettled lines → ⊥

-- WHAT A TALLY STANDS FOR

-- the last part is in the pass, and this is kept of those before it
pub record AreKept (tally : Tally) (lines : List (List ℕ)) : Type 0 where
  pub before : List Record
  pub last : List (List ℕ)
  pub are_parts : AreParts lines before last
  pub stands : HasTaken tally.pass last
  pub fine : is_fine_so_far tally.pass ≡ not tally.over
  pub keeps : Keeps tally.kept before

-- a part that ended, or the first line of one too many, settled the answer
pub record IsOver (tally : Tally) (lines : List (List ℕ)) (verdict : CountyVerdict) : Type 0 where
  pub over : tally.over ≡ true
  pub settled : IsSettled lines verdict

abbrev pub Judges : Option CountyVerdict → Tally → List (List ℕ) → Type 0
Judges None tally lines = AreKept tally lines
Judges (Some verdict) tally lines = IsOver tally lines verdict

-- the tally has gone over these lines
pub record StandsFor (tally : Tally) (lines : List (List ℕ)) : Type 0 where
  pub judges : Judges tally.settled tally lines

abbrev pub StandsForSome : Tally → Type 0
StandsForSome tally = (lines : List (List ℕ)) × StandsFor tally lines

-- nothing is settled yet
abbrev pub is_open : Tally → Bool
is_open tally = not tally.over

-- WHAT A TALLY SAYS

-- more may come exactly where the lines settle nothing
abbrev pub Says : Step → List (List ℕ) → Type 0
Says More lines = IsUnsettled lines
Says Ready lines = ⊥
Says Over lines = (verdict : CountyVerdict) × IsSettled lines verdict

abbrev pub is_more : Step → Bool
is_more More = true
is_more Ready = false
is_more Over = false

-- HOW MANY LINES MAY STILL COME

-- more lines than a part may have
abbrev pub most_lines : ℕ
most_lines = 1200001

-- how many lines may still come: more than ever do
abbrev pub left_in : Tally → ℕ
left_in tally = (most_parts - length tally.kept.seals) * most_lines + lines_left_in tally.pass
