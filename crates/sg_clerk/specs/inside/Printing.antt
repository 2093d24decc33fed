-- Why a sheet was not written whole.
use Rattle.std.specs.Prelude.{◌≡◌, ◌≤◌, ℕ, Result, Err}
use Rattle.sg_outside.specs.Faults.{Rose}
use Rattle.sg_clerk.specs.declared.printing.Stop.{Stop}
use Rattle.sg_clerk.specs.declared.printing.Stop.TheVariants as stop

-- the count never falls, and a write failed only where it rose
pub record HasStopCause {T : Type 0} (before now : ℕ) (result : Result T Stop) : Type 0 where
  pub later : before ≤ now
  pub failed : result ≡ Err stop.Failed → Rose before now
