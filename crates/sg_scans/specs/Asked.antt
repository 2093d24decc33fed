-- The asks of a scanner file can come to an office.
use Rattle.std.specs.Prelude.{List, [], ◌∷◌}
use Rattle.sg_keeper.specs.declared.setup.Setup.{Setup}
use Rattle.sg_histories.specs.Standing.{IsAsk}
use Rattle.sg_scans.specs.declared.fields.ScanLine.{ScanLine}
use Rattle.sg_scans.specs.declared.fields.ScanLine.TheVariants as line

-- the ask of this line, where it has one, can come to each office
abbrev pub CanCome : ScanLine → Type 0
CanCome (line.Good asked) = (setup : Setup) → IsAsk setup asked
CanCome line.Shape = Unit {0}

-- each of these can
abbrev pub EachCanCome : List ScanLine → Type 0
EachCanCome [] = Unit {0}
EachCanCome (line ∷ lines) = CanCome line × EachCanCome lines
