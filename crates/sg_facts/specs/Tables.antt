-- Tables with a place for each entry, by race.
use Rattle.std.specs.Prelude.{◌≡◌, ℕ, ◌<◌, List, length, Option, Some}
use Rattle.sg_plan.specs.Ballots.{entries_of}
use Rattle.sg_plan.specs.declared.plan.Plan.{Plan}
use Rattle.sg_facts.specs.Items.{item_in}

-- the value of each entry stands at its place
abbrev pub HasTable : Plan → List (List (Option ℕ)) → (ℕ → ℕ → Option ℕ) → Type 0
HasTable plan table value = (race entry : ℕ) → race < length plan.races → entry < entries_of plan race → item_in table race entry ≡ Some (value race entry)
