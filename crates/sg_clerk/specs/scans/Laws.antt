-- What a talk over a scanner's file keeps (this project's rules for the office).
use Rattle.std.specs.Prelude.{List}
use Rattle.sg_keeper.specs.declared.setup.Setup.{Setup}
use Rattle.sg_histories.specs.Histories.{Entry}
use Rattle.sg_histories.specs.Lawful.{Lawful}
use Rattle.sg_clerk.specs.Laws.{KeepsRecord}
use Rattle.sg_clerk.specs.scans.DoesScans.{Handed, ScanTalk}

-- from before each talk over the records of a scanner's file to behind it, nothing is gone or changed that was accepted or
-- posted
abbrev pub ScansKeepRecord : Type 0
ScansKeepRecord = (setup : Setup) (handed : List Handed) (history next : List Entry) → Lawful setup history → ScanTalk setup handed history next → KeepsRecord setup history next
