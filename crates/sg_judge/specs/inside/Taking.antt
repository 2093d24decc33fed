-- One line, taken behind lines that are fine.
use Rattle.std.specs.Prelude.{◌≡◌, ℕ, ◌+◌, List, [], ◌∷◌, ◌++◌, length, Option, Some, None}
use Rattle.std.specs.Option.{option_map_or}
use Rattle.sg_grammar.specs.Lines.{placed_of}
use Rattle.sg_check.specs.Judging.{AreOfPlan}
use Rattle.sg_check.specs.Kinds.{posted_bytes}
use Rattle.sg_check.specs.Verdict.{AreFine, IsFirstBad}
use Rattle.sg_check.specs.declared.judged.Kind.{Kind}
use Rattle.sg_commit.specs.Seals.{StandsFor as HasTaken}
use Rattle.sg_commit.specs.declared.Digest.{Digest}
use Rattle.sg_commit.specs.declared.Sealer.{Sealer}
use Rattle.sg_forms.specs.Said.{Said}
use Rattle.sg_ledger.specs.Tells.{Tells}
use Rattle.sg_ledger.specs.declared.ledger.Ledger.{Ledger}
use Rattle.sg_judge.specs.FirstSeal.{first_seal_on}
use Rattle.sg_plan.specs.declared.plan.Plan.{Plan}
use Rattle.sg_grammar.specs.Coordinates.{IsPlacedIn}
use Rattle.sg_grammar.specs.Head.{head_line}
use Rattle.sg_grammar.specs.Made.{IsMade}
use Rattle.sg_grammar.specs.Placed.{Placed}
use Rattle.sg_grammar.specs.Slots.{due_of, IsInSome, IsPartIn}
use Rattle.sg_grammar.specs.Walk.{Next, Posted, behind, read_next, start, take_bytes, took, walk}
use Rattle.sg_grammar.specs.declared.body.Standing.{Standing}
use Rattle.sg_grammar.specs.declared.state.Head.TheVariants as head

-- the bytes are no line of the plan that may stand next
abbrev pub IsNoPlanLine : Next → List ℕ → Type 0
IsNoPlanLine expect bytes = (said : Said) → read_next expect bytes ≡ Some said → head_line expect.plan expect.head said ≡ None

-- the ledger tells the lines; there is none while all of them are lines of the plan
abbrev pub Keeps : Plan → Option Ledger → List Placed → Type 0
Keeps plan None lines = AreOfPlan lines
Keeps plan (Some ledger) lines = Tells plan ledger lines

-- A LINE IN ITS PLACE

-- the bytes are this line in its place, and behind it may stand what the program says; all of it is of the plan
pub record StandsAt (expect : Next) (bytes : List ℕ) (standing : Standing) (line : Placed) : Type 0 where
  pub taken : take_bytes expect bytes ≡ Some (took line (behind expect.plan (due_of expect.plan standing.slot) standing.part))
  pub placed : IsPlacedIn expect.plan line
  pub slot : IsInSome expect.plan standing.slot
  pub part : IsPartIn expect.plan standing.part
  pub made : IsMade expect.plan head.Whole

-- THE FIRST SEAL

-- the digest that was kept, or else the new line's
abbrev pub or_seal : Option Digest → Option Digest → Option Digest
or_seal (Some digest) new = Some digest
or_seal None new = new

-- that of the next line, where it may stand
abbrev pub next_seal : Next → List ℕ → Option Digest
next_seal expect bytes = option_map_or (λ taken. first_seal_on taken.placed) (take_bytes expect bytes) None

-- THE LEDGER

-- the ledger that a line opened is kept, where that line is bad in nothing; else what was kept stays
abbrev pub opened_by : Option Kind → Ledger → Option Ledger → Option Ledger
opened_by None opened before = Some opened
opened_by (Some broken) opened before = before

-- FINE LINES

-- the lines are fine, and what is kept of them is this: what may stand next, the running seal and the ledger
pub record Stands (expect : Next) (sealer : Sealer) (ledger : Option Ledger) (lines : List (List ℕ)) : Type 0 where
  pub posted : List Posted
  pub walks : walk start lines ≡ Some (record { posted = posted; next = expect })
  pub fine : AreFine lines
  pub sealed : HasTaken sealer (posted_bytes posted)
  pub kept : Keeps expect.plan ledger (placed_of posted)

abbrev pub StandsSome : Next → Sealer → Option Ledger → Type 0
StandsSome expect sealer ledger = (lines : List (List ℕ)) × Stands expect sealer ledger lines

-- with one more line the lines are fine still, and this is kept of them; or it is the first bad one
abbrev pub Advances : Option Kind → Next → Sealer → Option Ledger → List (List ℕ) → List ℕ → Type 0
Advances None expect sealer ledger lines bytes = Stands expect sealer ledger (lines ++ bytes ∷ [])
Advances (Some broken) expect sealer ledger lines bytes = IsFirstBad (lines ++ bytes ∷ []) (length lines + 1) broken
