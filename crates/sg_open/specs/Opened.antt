-- What a refusal says of rows, and what is kept of them (this project's rules for the office).
use Rattle.std.specs.Prelude.{◌≡◌, ℕ, List}
use Rattle.sg_keeper.specs.declared.rows.Rows.{Rows}
use Rattle.sg_histories.specs.Histories.{Entry}
use Rattle.sg_histories.specs.KeptRows.{rows_of}
use Rattle.sg_histories.specs.Lawful.{Lawful}
use Rattle.sg_histories.specs.Opens.{Damaged, Empty, OpenTo}
use Rattle.sg_histories.specs.Standing.{StandsFor}
use Rattle.sg_histories.specs.declared.kept.Kept.{Kept}
use Rattle.sg_open.specs.declared.fault.OpenFault.{OpenFault}
use Rattle.sg_open.specs.declared.fault.OpenFault.TheVariants as fault

-- what a refusal says of rows; want of memory says nothing of them
abbrev pub IsFault : OpenFault → Rows → Type 0
IsFault fault.Empty rows = OpenTo rows Empty
IsFault (fault.Damaged table row) rows = OpenTo rows (Damaged table row)
IsFault fault.NoMemory rows = Unit {0}

-- what is kept stands for each lawful history whose rows these are
abbrev pub StandsForEach : Kept → Rows → Type 0
StandsForEach kept rows = (text : List ℕ) (history : List Entry) → Lawful kept.setup history → rows ≡ rows_of kept.setup text history → StandsFor kept history
