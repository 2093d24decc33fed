-- What may stand next in a record, as the program keeps it, and what holds of that.
use Rattle.std.specs.Prelude.{Option}
use Rattle.sg_plan.specs.declared.plan.Plan.{Plan}
use Rattle.sg_grammar.specs.Made.{IsMade}
use Rattle.sg_grammar.specs.Slots.{due_of, IsInSome, IsPartIn}
use Rattle.sg_grammar.specs.Walk.{Next}
use Rattle.sg_grammar.specs.declared.state.Head.{Head}
use Rattle.sg_grammar.specs.declared.state.Part.{Part}
use Rattle.sg_grammar.specs.declared.state.Slot.{Slot}

-- what may stand next, where this slot is due
abbrev pub next_at : Plan → Head → Option Slot → Part → Next
next_at plan stage slot may_begin = record { plan = plan; head = stage; due = due_of plan slot; part = may_begin }

-- the plan is one in the making, and what may stand next is within it
pub record IsExpecting (plan : Plan) (stage : Head) (slot : Option Slot) (may_begin : Part) : Type 0 where
  pub made : IsMade plan stage
  pub slot_in : IsInSome plan slot
  pub part_in : IsPartIn plan may_begin
