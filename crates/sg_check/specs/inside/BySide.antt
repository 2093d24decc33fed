-- What is judged of one side of a row: `bad_placed` comes to the same.
use Rattle.std.specs.Prelude.{ℕ, nat_le, nat_lt, Bool, false, ◌&&◌, ◌||◌, not, List, Option}
use Rattle.std.specs.List.{list_any}
use Rattle.std.specs.Option.{option_map_or}
use Rattle.sg_commit.specs.declared.CommitKind.{CommitKind}
use Rattle.sg_commit.specs.declared.Digest.{Digest}
use Rattle.sg_commit.specs.declared.Opening.{Opening}
use Rattle.sg_plan.specs.Ballots.{entries_of}
use Rattle.sg_plan.specs.declared.plan.Plan.{Plan}
use Rattle.sg_plan.specs.declared.plan.Side.{Side}
use Rattle.sg_grammar.specs.Placed.{Placed}
use Rattle.sg_check.specs.Facts.{opens_pointer}
use Rattle.sg_check.specs.Kinds.{differ, is_counted, opens_digest}

-- an opened pointer does not open the commitment
abbrev pub bad_pointer_opening : Option Digest → CommitKind → ℕ → ℕ → ℕ → Option Opening → Bool
bad_pointer_opening digest kind race instance number opening = option_map_or (λ o. not (opens_digest digest kind race instance number o)) opening false

-- the pointer that is opened on the side is n or more, or opened on it before
abbrev pub bad_pointer_on : Side → Plan → List Placed → ℕ → ℕ → Option Opening → Bool
bad_pointer_on on plan before race instance opening = option_map_or (λ o. nat_le (entries_of plan race) o.value || list_any (opens_pointer on race instance o.value) before) opening false

-- the flag is not that of the pointer that is opened on the side
abbrev pub wrong_flag_on : Side → Plan → List Placed → ℕ → Bool → Option Opening → Bool
wrong_flag_on on plan before race flag opening = option_map_or (λ o. nat_lt o.value (entries_of plan race) && differ flag (is_counted plan before on race o.value)) opening false
