-- What was opened of the rows that a keeper gave.
use Rattle.std.proofs.Common.{◌≡◌, ℕ, subst}
use Rattle.std.specs.Prelude.{Result, Ok, Err}
use Rattle.sg_outside.specs.Streams.{Seen}
use Rattle.sg_outside.specs.declared.outcome.Outcome.{Outcome}
use Rattle.sg_outside.specs.declared.outcome.Outcome.TheVariants as outcome
use Rattle.sg_keeper.specs.declared.rows.Rows.{Rows}
use Rattle.sg_histories.specs.declared.kept.Kept.{Kept}
use Rattle.sg_clerk.specs.Opening.{IsOpen, StartsFrom}
use Rattle.sg_clerk.specs.Talks.{ClosedSays, IsCutLine}
use Rattle.sg_clerk.specs.inside.Opening.{IsClosedFor, IsClosedOf, IsOpenedOf, OpensTo, TellsWhy}
use Rattle.sg_clerk.specs.declared.opened.Closed.{Closed}
use Rattle.sg_clerk.specs.declared.opened.Closed.TheVariants as closed

-- why there is none, of rows that a keeper tells
closed_for : (why : Closed) (tells : Type 0) (loaded rows : Rows) (faults faults' : ℕ) → (tells → loaded ≡ rows) → IsClosedOf why loaded → IsClosedFor why tells rows faults faults'
closed_for closed.LoadFault tells loaded rows faults faults' same is = absurd is
closed_for closed.Empty tells loaded rows faults faults' same is = λ told. subst (IsClosedOf closed.Empty) (same told) is
closed_for (closed.Damaged table row) tells loaded rows faults faults' same is = λ told. subst (IsClosedOf (closed.Damaged table row)) (same told) is
closed_for closed.NoMemory tells loaded rows faults faults' same is = tt

-- they are those that it tells
pub opens_to : (found : Result Kept Closed) (tells : Type 0) (loaded rows : Rows) (faults faults' : ℕ) → (tells → loaded ≡ rows) → IsOpenedOf found loaded → OpensTo found tells rows faults faults'
opens_to (Ok office) tells loaded rows faults faults' same is = λ told. subst (IsOpen office) (same told) is.0
opens_to (Err why) tells loaded rows faults faults' same is = closed_for why tells loaded rows faults faults' same is

-- an office that they open to is of rows that the keeper gave
pub starts_from : (found : Result Kept Closed) (tells : Type 0) (loaded rows : Rows) → (tells → loaded ≡ rows) → IsOpenedOf found loaded → StartsFrom found tells rows
starts_from (Ok office) tells loaded rows same is = (loaded, is.1, same)
starts_from (Err why) tells loaded rows same is = tt

-- what was written where there is none
pub closed_says : (why : Closed) (how : Outcome) (tells : Type 0) (rows : Rows) (faults faults' : ℕ) (out out' : Seen) → IsClosedFor why tells rows faults faults' → TellsWhy why how out out'
    → ClosedSays how tells rows faults faults' out out'
closed_says closed.LoadFault outcome.KeeperFailed tells rows faults faults' out out' rose told = record { cause = rose; same = told }
closed_says closed.Empty outcome.Refused tells rows faults faults' out out' empty told = record { empty = empty; written = told }
closed_says closed.Empty outcome.WriteFailed tells rows faults faults' out out' empty told = record { cause = told.0; cut = IsCutLine.NoSetup empty told.1 }
closed_says (closed.Damaged table row) outcome.Damaged tells rows faults faults' out out' damage told = record { table = table; row = row; damage = damage; written = told }
closed_says (closed.Damaged table row) outcome.WriteFailed tells rows faults faults' out out' damage told = record { cause = told.0; cut = IsCutLine.NoOffice table row damage told.1 }
closed_says (closed.Damaged table row) outcome.NoMemory tells rows faults faults' out out' damage told = told
closed_says closed.NoMemory outcome.NoMemory tells rows faults faults' out out' is told = told
closed_says _ _ tells rows faults faults' out out' is told = absurd told
