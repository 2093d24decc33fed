-- How far connections were taken.
use Rattle.std.specs.Prelude.{◌≡◌, ℕ, ◌+◌, ◌-◌, ◌^◌, ◌<◌, ◌≤◌, List, length, Option}
use Rattle.sg_outside.specs.Faults.{Rose}
use Rattle.sg_links.specs.Board.{Board}
use Rattle.sg_clerk.specs.declared.asker.Stop.{Stop}
use Rattle.sg_clerk.specs.declared.asker.Stop.TheVariants as stop
use Rattle.sg_clerk.specs.calls.Calls.{Call, TakesKnown, failures_in}

-- these connections were taken, of so many, and so many more are still to come
pub record CallsCame (count left : ℕ) (board board' : Option Board) (faults faults' : ℕ) (calls : List Call) : Type 0 where
  pub counted : length calls + left ≡ count
  pub later : faults ≤ faults'
  pub failures : faults' < 2 ^ 64 - 1 → faults + failures_in calls ≤ faults'
  pub takes : TakesKnown calls board board'

-- why no more is taken: all were, or the links failed
abbrev pub IsShut : Stop → ℕ → ℕ → ℕ → List Call → Type 0
IsShut stop.Done count faults faults' calls = (length calls ≡ count) × (faults' < 2 ^ 64 - 1 → faults + failures_in calls ≤ faults')
IsShut stop.LinkFault count faults faults' calls = (length calls < count) × Rose faults faults' × (faults' < 2 ^ 64 - 1 → faults + (failures_in calls + 1) ≤ faults')
IsShut stop.ReadFault count faults faults' calls = ⊥
IsShut (stop.Unfit why) count faults faults' calls = ⊥
IsShut stop.NoMemory count faults faults' calls = ⊥

-- no more connections are taken than these
pub record CallsOver (why : Stop) (count : ℕ) (board board' : Option Board) (faults faults' : ℕ) (calls : List Call) : Type 0 where
  pub shut : IsShut why count faults faults' calls
  pub takes : TakesKnown calls board board'
