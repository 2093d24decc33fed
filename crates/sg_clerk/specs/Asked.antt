-- How the command `do` ends (this project's command line).
use Rattle.std.specs.Prelude.{◌≡◌, ◌⊎◌}
use Rattle.sg_outside.specs.declared.outcome.Outcome.{Outcome}
use Rattle.sg_keeper.specs.declared.rows.Rows.{Rows}
use Rattle.sg_talk.specs.Talk.{stores_in}
use Rattle.sg_clerk.specs.Outside.{Outside, output_at}
use Rattle.sg_clerk.specs.Does.{LineTalk, LinesEnd}
use Rattle.sg_clerk.specs.Talks.{StaysClosed, Talks}

-- an office was opened, and answered the lines of the input
abbrev pub TalksOfLines : Outcome → (tells : Type 0) → Rows → Rows → Outside → Outside → Type 0
TalksOfLines result tells rows rows' before now = Talks LineTalk stores_in (LinesEnd before now) result tells rows rows' before.keep_faults now.keep_faults

-- the input was not read
abbrev pub IsUnread : Outside → Outside → Type 0
IsUnread before now = (now.left ≡ before.left) × (now.read_faults ≡ before.read_faults)

-- how `do` ended: by the talk's end, or where no office was opened
abbrev pub DoSays : Outcome → (tells : Type 0) → Rows → Rows → Outside → Outside → Type 0
DoSays result tells rows rows' before now =
    TalksOfLines result tells rows rows' before now
    ⊎ StaysClosed (IsUnread before now) result tells rows rows' before.keep_faults now.keep_faults (output_at before) (output_at now)
