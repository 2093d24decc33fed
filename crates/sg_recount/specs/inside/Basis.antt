-- What a recount looks into.
use Rattle.std.specs.Prelude.{◌≡◌, ℕ, List, None}
use Rattle.sg_plan.specs.Ballots.{entries_of}
use Rattle.sg_plan.specs.Limits.{fault_of}
use Rattle.sg_plan.specs.declared.plan.Plan.{Plan}
use Rattle.sg_plan.specs.declared.plan.Side.{Side}
use Rattle.sg_grammar.specs.Placed.{Placed}
use Rattle.sg_record.specs.Places.{places_in}
use Rattle.sg_check.specs.Completions.{Completion}
use Rattle.sg_check.specs.Printings.{Printing, marked_code}
use Rattle.sg_facts.specs.Tables.{HasTable}
use Rattle.sg_parts.specs.Given.{Given, IsAccepted, completion_of, printing_of}
use Rattle.sg_recount.specs.declared.basis.Basis.{Basis}
use Rattle.sg_recount.specs.inside.Counted.{HasCounts}

-- the parts
abbrev pub given_in : Basis → Given
given_in basis = record { posted = basis.posted.now; codes = basis.lists.now; rows = basis.rows.now }

abbrev pub plan_in : Basis → Plan
plan_in basis = basis.posted.now.plan

abbrev pub lines_in : Basis → List Placed
lines_in basis = places_in basis.posted.now

abbrev pub completion_in : Basis → Completion
completion_in basis = completion_of basis.rows.now

abbrev pub printing_in : Basis → Printing
printing_in basis = printing_of basis.lists.now

-- the verdict on the record is yes, and the code of each marked entry stands in the table
pub record IsBasis (basis : Basis) : Type 0 where
  pub good : fault_of (plan_in basis) ≡ None
  pub accepted : IsAccepted basis.posted.now
  pub table : HasTable (plan_in basis) basis.marked.now (λ race entry. marked_code (plan_in basis) race entry (lines_in basis))

-- so many rows of an instance have each pointer on this side
abbrev pub AreCounts : Basis → Side → ℕ → ℕ → List ℕ → Type 0
AreCounts basis on race instance counts = HasCounts basis.rows.now on race instance (entries_of (plan_in basis) race) (entries_of (plan_in basis) race) counts
