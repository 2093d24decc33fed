-- How a call of a keeper in memory begins.
use Rattle.std.specs.Prelude.{Result, Ok, Err, if◌then◌else◌}
use Rattle.sg_keeper.specs.Keeping.{Keeping, call_fails}
use Rattle.sg_keeper.specs.declared.keeper.KeepFault.{KeepFault}
use Rattle.sg_keeper.specs.declared.keeper.KeepFault.TheVariants as fault

-- what a call begins with: it fails where it is listed
abbrev pub call_of : Keeping → Result Unit KeepFault
call_of keeper = (if call_fails keeper then Err fault.Failed else Ok tt)
