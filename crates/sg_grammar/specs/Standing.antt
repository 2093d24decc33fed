-- A line behind the plan in its place, and what may stand behind it, as the program says it.
use Rattle.sg_plan.specs.declared.plan.Plan.{Plan}
use Rattle.sg_grammar.specs.Coordinates.{placed, IsPlacedIn}
use Rattle.sg_grammar.specs.Slots.{due_of, IsInSome, IsPartIn}
use Rattle.sg_grammar.specs.Walk.{Taken, took, behind}
use Rattle.sg_grammar.specs.declared.body.Standing.{Standing}

-- the line in its place, and what may stand behind it
abbrev pub taken_at : Plan → Standing → Taken
taken_at plan standing = took (placed standing.line) (behind plan (due_of plan standing.slot) standing.part)

-- its place is of the plan, and so is what may stand behind it
pub record IsStandingIn (plan : Plan) (standing : Standing) : Type 0 where
  pub line : IsPlacedIn plan (placed standing.line)
  pub slot : IsInSome plan standing.slot
  pub part : IsPartIn plan standing.part
