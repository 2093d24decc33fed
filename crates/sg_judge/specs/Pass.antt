-- What a pass stands for, and what it says of the lines so far.
use Rattle.std.specs.Prelude.{◌≡◌, ℕ, Bool, true, false, List, length, Option, Some, None, IsSome, is_none, is_some}
use Rattle.std.specs.Option.{option_map, option_map_or}
use Rattle.sg_grammar.specs.Head.{is_behind}
use Rattle.sg_plan.specs.declared.plan.Plan.{Plan}
use Rattle.sg_check.specs.Verdict.{AreFine, IsFirstBad, least_broken}
use Rattle.sg_check.specs.declared.judged.Kind.{Kind}
use Rattle.sg_commit.specs.declared.Sealer.{Sealer}
use Rattle.sg_ledger.specs.declared.ledger.Ledger.{Ledger}
use Rattle.sg_judge.specs.FirstSeal.{first_seal}
use Rattle.sg_judge.specs.inside.Taking.{Stands}
use Rattle.sg_judge.specs.declared.pass.Pass.{Pass}
use Rattle.sg_judge.specs.declared.pass.Step.{Step}
use Rattle.sg_judge.specs.declared.pass.Step.TheVariants.{More, Over, Ready}
use Rattle.sg_grammar.specs.Left.{lines_left}
use Rattle.sg_grammar.specs.Walk.{Next, start, walk}

-- WHAT THE LINES SAY

-- the plan that the lines give
abbrev pub plan_of : List (List ℕ) → Option Plan
plan_of lines = option_map (λ walked. walked.next.plan) (walk start lines)

-- WHAT A PASS STANDS FOR

-- the lines are fine, and this is kept of them; the ledger is there where a line behind the plan stands
pub record AreKept (expect : Next) (sealer : Sealer) (ledger : Option Ledger) (number : ℕ) (lines : List (List ℕ)) : Type 0 where
  pub count : number ≡ length lines
  pub opened : is_some ledger ≡ is_behind expect.head
  pub stands : Stands expect sealer ledger lines

-- the lines are fine, there are so many, and this is kept of them; or this one of them is the first bad one
abbrev pub Judges : Option Kind → Next → Sealer → Option Ledger → ℕ → List (List ℕ) → Type 0
Judges None expect sealer ledger number lines = AreKept expect sealer ledger number lines
Judges (Some broken) expect sealer ledger number lines = IsFirstBad lines number broken

-- the pass has gone over these lines
pub record StandsFor (pass : Pass) (lines : List (List ℕ)) : Type 0 where
  pub judges : Judges pass.broken pass.expect pass.sealer pass.ledger pass.number lines
  pub sealed : pass.broken ≡ None → pass.seal ≡ first_seal lines

abbrev pub StandsForSome : Pass → Type 0
StandsForSome pass = (lines : List (List ℕ)) × StandsFor pass lines

-- no line was bad so far
abbrev pub is_open : Pass → Bool
is_open pass = is_none pass.broken

-- the first line behind the plan was taken, and was fine: the tables and the list of totals are made
abbrev pub is_ready : Pass → Bool
is_ready pass = is_some pass.ledger

-- how many lines may still come: more than ever do
abbrev pub left_in : Pass → ℕ
left_in pass = lines_left pass.expect

-- WHAT A PASS SAYS

-- the lines may stand one after another, and one behind those of the plan is among them
abbrev pub is_behind_plan : List (List ℕ) → Bool
is_behind_plan lines = option_map_or (λ walked. is_behind walked.next.head) (walk start lines) false

-- what is said of the lines of the plan and the first behind them
abbrev pub Says : Step → List (List ℕ) → Type 0
Says More lines = AreFine lines × (is_behind_plan lines ≡ false)
Says Ready lines = AreFine lines × (is_behind_plan lines ≡ true)
Says Over lines = IsSome (least_broken lines)

-- what is said behind that line, where no answer is `Ready`
abbrev pub SaysBehind : Step → List (List ℕ) → Type 0
SaysBehind More lines = AreFine lines
SaysBehind Ready lines = ⊥
SaysBehind Over lines = IsSome (least_broken lines)

-- the lines are fine
abbrev pub is_fine : Step → Bool
is_fine More = true
is_fine Ready = true
is_fine Over = false

-- the line was the first behind the plan
abbrev pub says_ready : Step → Bool
says_ready More = false
says_ready Ready = true
says_ready Over = false

-- what is said where the last line is bad in this kind, or in none
abbrev pub step_of : Option Kind → Bool → Step
step_of (Some broken) ready = Over
step_of None true = Ready
step_of None false = More
