-- What was opened of rows, and what is written where no office is.
use Rattle.std.specs.Prelude.{◌≡◌, ℕ, Result, MatchResult}
use Rattle.std.specs.Io.KnownBytes.{Appends}
use Rattle.sg_outside.specs.Faults.{Rose}
use Rattle.sg_outside.specs.Streams.{AppendsFront, Seen}
use Rattle.sg_outside.specs.declared.outcome.Outcome.{Outcome}
use Rattle.sg_outside.specs.declared.outcome.Outcome.TheVariants as outcome
use Rattle.sg_keeper.specs.declared.rows.Rows.{Rows}
use Rattle.sg_histories.specs.Opens.{Damaged, Empty, OpenTo}
use Rattle.sg_histories.specs.Standing.{HasRows}
use Rattle.sg_histories.specs.declared.kept.Kept.{Kept}
use Rattle.sg_clerk.specs.Opening.{IsOpen}
use Rattle.sg_clerk.specs.Shown.{damaged_line, empty_line}
use Rattle.sg_clerk.specs.declared.opened.Closed.{Closed}
use Rattle.sg_clerk.specs.declared.opened.Closed.TheVariants as closed

-- why they open to no office
abbrev pub IsClosedOf : Closed → Rows → Type 0
IsClosedOf closed.LoadFault rows = ⊥
IsClosedOf closed.Empty rows = OpenTo rows Empty
IsClosedOf (closed.Damaged table row) rows = OpenTo rows (Damaged table row)
IsClosedOf closed.NoMemory rows = Unit {0}

-- the office that they open to, or why there is none
abbrev pub IsOpenedOf : Result Kept Closed → Rows → Type 0
IsOpenedOf found rows = MatchResult found (λ office. IsOpen office rows × HasRows office rows) (λ why. IsClosedOf why rows)

-- why no office is opened of the rows of a keeper, where it tells them, with its counts of faults before and after
abbrev pub IsClosedFor : Closed → (tells : Type 0) → Rows → ℕ → ℕ → Type 0
IsClosedFor closed.LoadFault tells rows faults faults' = Rose faults faults'
IsClosedFor closed.Empty tells rows faults faults' = tells → OpenTo rows Empty
IsClosedFor (closed.Damaged table row) tells rows faults faults' = tells → OpenTo rows (Damaged table row)
IsClosedFor closed.NoMemory tells rows faults faults' = Unit {0}

-- what was opened of them
abbrev pub OpensTo : Result Kept Closed → (tells : Type 0) → Rows → ℕ → ℕ → Type 0
OpensTo found tells rows faults faults' = MatchResult found (λ office. tells → IsOpen office rows) (λ why. IsClosedFor why tells rows faults faults')

-- what was written of why no office is opened: the line that is due, or a front of it, or nothing
abbrev pub TellsWhy : Closed → Outcome → Seen → Seen → Type 0
TellsWhy closed.LoadFault outcome.KeeperFailed out out' = out' ≡ out
TellsWhy closed.Empty outcome.Refused out out' = Appends out.bytes out'.bytes empty_line
TellsWhy closed.Empty outcome.WriteFailed out out' = Rose out.faults out'.faults × AppendsFront out.bytes out'.bytes empty_line
TellsWhy (closed.Damaged table row) outcome.Damaged out out' = Appends out.bytes out'.bytes (damaged_line table row)
TellsWhy (closed.Damaged table row) outcome.WriteFailed out out' = Rose out.faults out'.faults × AppendsFront out.bytes out'.bytes (damaged_line table row)
TellsWhy (closed.Damaged table row) outcome.NoMemory out out' = out' ≡ out
TellsWhy closed.NoMemory outcome.NoMemory out out' = out' ≡ out
TellsWhy _ _ out out' = ⊥
