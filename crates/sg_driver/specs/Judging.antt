-- What is judged of the lines of an input.
use Rattle.std.specs.Prelude.{◌≡◌, ◌⊎◌, ℕ, List, [], ◌++◌, length}
use Rattle.sg_plan.specs.Limits.{longest_line}
use Rattle.sg_outside.specs.TextLines.{HasNoFeed}
use Rattle.sg_outside.specs.declared.outcome.Outcome.{Outcome}
use Rattle.sg_outside.specs.declared.outcome.Outcome.TheVariants.{Done, No, Refused}

-- what the answers of a command say of lines
pub record Judging (Answer : Type 0) : Type 1 where
  -- it is the answer on these lines
  pub IsAnswer : List (List ℕ) → Answer → Type 0
  -- it is an answer that some of the lines may settle, whatever follows them
  pub Refuses : Answer → Type 0
  -- these lines settle no answer
  pub Unsettled : List (List ℕ) → Type 0
  -- behind these lines memory may be wanted
  pub Wants : List (List ℕ) → Type 0
  -- how the command ends with the answer, and the text that reports it
  pub outcome : Answer → Outcome
  pub report : Answer → List ℕ

-- an answer may end the command so: the work was done, or what was asked is refused
abbrev pub IsOfAnswer : Outcome → Type 0
IsOfAnswer Done = Unit {0}
IsOfAnswer No = Unit {0}
IsOfAnswer Refused = Unit {0}
IsOfAnswer _ = ⊥

-- bytes that are no line, however they go on: they have no line feed, or as many bytes as a line may have at their front have
-- none
pub record IsNoLine (text : List ℕ) : Type 0 where
  pub front : List ℕ
  pub more : List ℕ
  pub whole : text ≡ front ++ more
  pub unended : HasNoFeed front
  pub ends : (more ≡ []) ⊎ (length front ≡ longest_line)
