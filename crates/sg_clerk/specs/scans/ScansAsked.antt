-- How the command `scans` ends (this project's command line).
use Rattle.std.specs.Prelude.{◌⊎◌}
use Rattle.sg_outside.specs.declared.outcome.Outcome.{Outcome}
use Rattle.sg_keeper.specs.declared.rows.Rows.{Rows}
use Rattle.sg_clerk.specs.Outside.{Outside, output_at}
use Rattle.sg_clerk.specs.Asked.{IsUnread}
use Rattle.sg_clerk.specs.Talks.{StaysClosed, Talks}
use Rattle.sg_clerk.specs.scans.DoesScans.{ScanTalk, ScansEnd, stores_of}

-- an office was opened, and answered the records of the scanner's file that the input is
abbrev pub TalksOfScans : Outcome → (tells : Type 0) → Rows → Rows → Outside → Outside → Type 0
TalksOfScans result tells rows rows' before now = Talks ScanTalk stores_of (ScansEnd before now) result tells rows rows' before.keep_faults now.keep_faults

-- how `scans` ended: by the talk's end, or where no office was opened
abbrev pub ScansSay : Outcome → (tells : Type 0) → Rows → Rows → Outside → Outside → Type 0
ScansSay result tells rows rows' before now =
    TalksOfScans result tells rows rows' before now
    ⊎ StaysClosed (IsUnread before now) result tells rows rows' before.keep_faults now.keep_faults (output_at before) (output_at now)
