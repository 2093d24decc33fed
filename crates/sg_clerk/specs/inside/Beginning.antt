-- What `init` read, kept and wrote.
use Rattle.std.specs.Prelude.{◌≡◌, ◌≢◌, ℕ, ◌⊎◌, List, Option, None, Some, IfSome}
use Rattle.std.specs.Io.KnownBytes.{Appends, IsAtEnd}
use Rattle.sg_outside.specs.Faults.{Rose}
use Rattle.sg_outside.specs.Streams.{AppendsFront, Seen}
use Rattle.sg_outside.specs.declared.outcome.Outcome.{Outcome}
use Rattle.sg_outside.specs.declared.outcome.Outcome.TheVariants as outcome
use Rattle.sg_keeper.specs.Rows.{with_setup}
use Rattle.sg_keeper.specs.SetupText.{IsSetup, setup_text}
use Rattle.sg_keeper.specs.declared.rows.Rows.{Rows}
use Rattle.sg_keeper.specs.declared.setup.Setup.{Setup}
use Rattle.sg_clerk.specs.Begun.{AreSame, IsBadFile, IsFileOf, begun_line, refusal_line}
use Rattle.sg_clerk.specs.declared.begun.File.{File}
use Rattle.sg_clerk.specs.declared.begun.File.TheVariants as file
use Rattle.sg_clerk.specs.declared.begun.Keeping.{Keeping}
use Rattle.sg_clerk.specs.declared.begun.Keeping.TheVariants as keeping
use Rattle.sg_clerk.specs.declared.refusal.Refusal.{Refusal}
use Rattle.sg_clerk.specs.declared.refusal.Refusal.TheVariants as refusal

-- what bytes are
abbrev pub IsFile : File → Option (List ℕ) → Type 0
IsFile (file.Setup setup) known = IsSetup setup × IfSome known (IsFileOf setup)
IsFile (file.Bad why) known = (why ≢ refusal.Begun) × IfSome known (IsBadFile why)
IsFile file.Fault known = ⊥
IsFile file.NoMemory known = Unit {0}

-- what was read of an input
abbrev pub ReadsFile : File → Seen → Seen → Type 0
ReadsFile (file.Setup setup) input input' = IsFile (file.Setup setup) input.bytes × IsAtEnd input'.bytes
ReadsFile (file.Bad why) input input' = IsFile (file.Bad why) input.bytes
ReadsFile file.Fault input input' = Rose input.faults input'.faults
ReadsFile file.NoMemory input input' = Unit {0}

-- no setup was kept, and this one is kept now
abbrev pub IsAdded : Setup → Rows → Rows → Type 0
IsAdded setup rows rows' = (rows.setup ≡ None) × (rows' ≡ with_setup rows (setup_text setup))

-- a setup was kept, and the rows are as they were
abbrev pub IsHad : Rows → Rows → Type 0
IsHad rows rows' = ((text : List ℕ) × (rows.setup ≡ Some text)) × (rows' ≡ rows)

-- what came of adding a setup, where none was kept before
abbrev pub AddsSetup : Keeping → Setup → (tells : Type 0) → Rows → Rows → ℕ → ℕ → Type 0
AddsSetup keeping.Kept setup tells rows rows' faults faults' = tells → rows.setup ≡ None → rows' ≡ with_setup rows (setup_text setup)
AddsSetup keeping.Begun setup tells rows rows' faults faults' = ⊥
AddsSetup keeping.Fault setup tells rows rows' faults faults' = Rose faults faults' × AreSame tells rows rows'
AddsSetup keeping.NoMemory setup tells rows rows' faults faults' = AreSame tells rows rows'

-- what came of keeping a setup
abbrev pub KeepsSetup : Keeping → Setup → (tells : Type 0) → Rows → Rows → ℕ → ℕ → Type 0
KeepsSetup keeping.Kept setup tells rows rows' faults faults' = tells → IsAdded setup rows rows'
KeepsSetup keeping.Begun setup tells rows rows' faults faults' = tells → IsHad rows rows'
KeepsSetup keeping.Fault setup tells rows rows' faults faults' = Rose faults faults' × AreSame tells rows rows'
KeepsSetup keeping.NoMemory setup tells rows rows' faults faults' = AreSame tells rows rows'

-- the line that says that an office was set up was written, or a front of it where the output failed
abbrev pub Tells : Outcome → Seen → Seen → Type 0
Tells outcome.Done out out' = Appends out.bytes out'.bytes begun_line
Tells outcome.WriteFailed out out' = Rose out.faults out'.faults × AppendsFront out.bytes out'.bytes begun_line
Tells _ out out' = ⊥

-- the line of a refusal was written, or a front of it where the output failed, or nothing for want of memory
abbrev pub Refuses : Outcome → Refusal → Seen → Seen → Type 0
Refuses outcome.Refused why out out' = Appends out.bytes out'.bytes (refusal_line why)
Refuses outcome.WriteFailed why out out' = Rose out.faults out'.faults × AppendsFront out.bytes out'.bytes (refusal_line why)
Refuses outcome.NoMemory why out out' = out' ≡ out
Refuses _ why out out' = ⊥

-- a setup was kept or not, and what was written of that
abbrev pub SetsUp : Outcome → Setup → (tells : Type 0) → Rows → Rows → ℕ → ℕ → Seen → Seen → Type 0
SetsUp outcome.Done setup tells rows rows' faults faults' out out' = (tells → IsAdded setup rows rows') × Tells outcome.Done out out'
SetsUp outcome.WriteFailed setup tells rows rows' faults faults' out out' =
    ((tells → IsAdded setup rows rows') × Tells outcome.WriteFailed out out') ⊎ ((tells → IsHad rows rows') × Refuses outcome.WriteFailed refusal.Begun out out')
SetsUp outcome.Refused setup tells rows rows' faults faults' out out' = (tells → IsHad rows rows') × Refuses outcome.Refused refusal.Begun out out'
SetsUp outcome.KeeperFailed setup tells rows rows' faults faults' out out' = Rose faults faults' × AreSame tells rows rows' × (out' ≡ out)
SetsUp outcome.NoMemory setup tells rows rows' faults faults' out out' = AreSame tells rows rows' × (out' ≡ out)
SetsUp _ setup tells rows rows' faults faults' out out' = ⊥
