-- The refusal of the database from which a keeper's fault comes.
use Rattle.std.specs.Prelude.{◌≡◌, ◌≢◌, Option, Result, Err, OnOk, IsSomeAnd}
use Rattle.sqlite.specs.declared.error.Error.{Error}
use Rattle.sqlite.specs.declared.error.Error.TheVariants.{SqliteFailure}
use Rattle.sqlite.specs.declared.error.ErrorCode.TheVariants.{OutOfMemory}
use Rattle.sg_keeper.specs.declared.keeper.KeepFault.{KeepFault}
use Rattle.sg_keeper.specs.declared.keeper.KeepFault.TheVariants as fault

-- behind a fault there is a refusal, which is no want of memory; every other call leaves the one that there was
pub record HasWhy {T : Type 0} (old new : Option Error) (result : Result T KeepFault) : Type 0 where
  pub failed : result ≡ Err fault.Failed → IsSomeAnd new (λ error. error ≢ SqliteFailure OutOfMemory)
  pub memory : result ≡ Err fault.NoMemory → new ≡ old
  pub done : OnOk result (new ≡ old)
