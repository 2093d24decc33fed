-- What a talk over connections keeps (this project's rules for the office).
use Rattle.std.specs.Prelude.{List}
use Rattle.sg_keeper.specs.declared.setup.Setup.{Setup}
use Rattle.sg_histories.specs.Histories.{Entry}
use Rattle.sg_histories.specs.Lawful.{Lawful}
use Rattle.sg_clerk.specs.Laws.{KeepsRecord}
use Rattle.sg_clerk.specs.calls.Calls.{AreServed, Call}

-- from before each talk over connections to behind it, nothing is gone or changed that was accepted or posted
abbrev pub CallsKeepRecord : Type 0
CallsKeepRecord = (setup : Setup) (calls : List Call) (history next : List Entry) → Lawful setup history → AreServed setup calls history next → KeepsRecord setup history next
