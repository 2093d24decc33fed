-- How a talk of the office ends, over lines, a scanner's records or connections (this project's rules for the office).
use Rattle.std.specs.Prelude.{◌≡◌, ℕ, ◌≤◌, ◌⊎◌, List, [], ◌∷◌, ◌++◌, length, codes, Option, None, Some, Result, MatchResult}
use Rattle.std.specs.List.{concat}
use Rattle.std.specs.Io.KnownBytes.{Appends}
use Rattle.sg_outside.specs.Faults.{Rose}
use Rattle.sg_outside.specs.Streams.{AppendsFront, Seen}
use Rattle.sg_outside.specs.declared.outcome.Outcome.{Outcome}
use Rattle.sg_outside.specs.declared.outcome.Outcome.TheVariants as outcome
use Rattle.sg_talk.specs.declared.answered.Answered.{Answered}
use Rattle.sg_talk.specs.Answers.{text_of_answer}
use Rattle.sg_clerk.specs.declared.ended.Ending.{Ending}
use Rattle.sg_clerk.specs.declared.ended.Ending.TheVariants as ending
use Rattle.sg_clerk.specs.declared.ended.Unfit.{Unfit}
use Rattle.sg_clerk.specs.declared.ended.Unfit.TheVariants as unfit

-- THE OUTCOME

-- how a command ends whose talk ended so
abbrev pub outcome_of : Ending → Outcome
outcome_of ending.Done = outcome.Done
outcome_of ending.ReadFault = outcome.ReadFailed
outcome_of (ending.WriteFault due) = outcome.WriteFailed
outcome_of ending.LinkFault = outcome.LinksFailed
outcome_of (ending.Refused why) = outcome.Refused
outcome_of ending.NoMemory = outcome.NoMemory

-- what failed, where a talk ends for that: the count of faults rose of what is asked from, the input or the links; or that of the
-- output
abbrev pub HasFailed : Ending → (asks asks' writes writes' : ℕ) → Type 0
HasFailed ending.ReadFault asks asks' writes writes' = Rose asks asks'
HasFailed (ending.WriteFault due) asks asks' writes writes' = Rose writes writes'
HasFailed ending.LinkFault asks asks' writes writes' = Rose asks asks'
HasFailed other asks asks' writes writes' = Unit {0}

-- THE LINES

-- the line that is written for an answer: its text and a line feed
abbrev pub answer_line : ℕ → Answered → List ℕ
answer_line version answer = text_of_answer version answer ++ 10 ∷ []

-- the line that is written where an input is refused
abbrev pub refused_line : Unfit → List ℕ
refused_line unfit.Line = codes "refused line\n"
refused_line unfit.Count = codes "refused count\n"
refused_line unfit.Size = codes "refused size\n"
refused_line unfit.Header = codes "refused header\n"

-- that line, where there is one
abbrev pub refused_lines : Option Unfit → List (List ℕ)
refused_lines None = []
refused_lines (Some why) = refused_line why ∷ []

-- the last of these lines
abbrev pub last_of : List (List ℕ) → List ℕ
last_of [] = []
last_of (line ∷ []) = line
last_of (line ∷ next ∷ lines) = last_of (next ∷ lines)

-- of the lines that are due, at most the last is missing or cut
pub record MissesLast (before now : Option (List ℕ)) (due : List (List ℕ)) : Type 0 where
  pub front : List ℕ
  pub rest : List ℕ
  pub due_is : concat due ≡ front ++ rest
  pub few : length rest ≤ length (last_of due)
  pub appended : Appends before now front

-- of these lines the last was cut: it is missing, or a front of it was written
pub record CutsLast (before now : Option (List ℕ)) (lines : List (List ℕ)) : Type 0 where
  pub whole : List (List ℕ)
  pub last : List ℕ
  pub front : List ℕ
  pub rest : List ℕ
  pub lines_are : lines ≡ whole ++ last ∷ []
  pub last_is : last ≡ front ++ rest
  pub written : Appends before now (concat whole ++ front)

-- WHAT IS WRITTEN

-- a talk ends at a line that was cut: its write failed behind a front of it, or memory was wanted for it
pub record IsCutAt (line : List ℕ) (before now : Option (List ℕ)) (faults faults' : ℕ) (how : Ending) : Type 0 where
  pub cause : ((how ≡ ending.WriteFault None) × Rose faults faults') ⊎ (how ≡ ending.NoMemory)
  pub front : AppendsFront before now line

-- a line was written; or it was cut, and the talk ends so
abbrev pub WroteLine : Result Unit Ending → List ℕ → Option (List ℕ) → Option (List ℕ) → ℕ → ℕ → Type 0
WroteLine result line before now faults faults' = MatchResult result (λ _. Appends before now line) (IsCutAt line before now faults faults')

-- a talk ends at a refusal: its line was written, or a front of it where the write failed
abbrev pub Refuses : Ending → Unfit → Option (List ℕ) → Option (List ℕ) → ℕ → ℕ → Type 0
Refuses how why before now faults faults' =
    ((how ≡ ending.Refused why) × Appends before now (refused_line why))
    ⊎ ((how ≡ ending.WriteFault (Some why)) × Rose faults faults' × AppendsFront before now (refused_line why))
