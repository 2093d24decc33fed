-- How a command ends, and with which status (this project's command line).
use Rattle.std.specs.Prelude.{ℕ}
use Rattle.sg_outside.specs.declared.outcome.Outcome.{Outcome}
use Rattle.sg_outside.specs.declared.outcome.Outcome.TheVariants.{Done, No, ReadFailed, WriteFailed, KeeperFailed, LinksFailed, Refused, Damaged, NoMemory}

-- the status of a command that ended so; 2 is none of these: the words were no command's
abbrev pub status_of : Outcome → ℕ
status_of Done = 0
status_of No = 1
status_of ReadFailed = 3
status_of WriteFailed = 4
status_of KeeperFailed = 5
status_of LinksFailed = 6
status_of Refused = 7
status_of Damaged = 8
status_of NoMemory = 9

-- nothing outside failed: the work was done, something is refused, the rows are no office's, or memory was wanted
abbrev pub TellsNoFailure : Outcome → Type 0
TellsNoFailure ReadFailed = ⊥
TellsNoFailure WriteFailed = ⊥
TellsNoFailure KeeperFailed = ⊥
TellsNoFailure LinksFailed = ⊥
TellsNoFailure other = Unit {0}
