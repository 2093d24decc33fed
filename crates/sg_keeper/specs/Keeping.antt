-- A keeper in memory, as contracts see it, and what one call of it does.
use Rattle.std.specs.Prelude.{ℕ, Bool, List, if◌then◌else◌}
use Rattle.sg_outside.specs.Faults.{counted_up}
use Rattle.sg_outside.specs.Memory.{is_listed}
use Rattle.sg_keeper.specs.declared.rows.Rows.{Rows}

-- the rows, the numbers of the calls that fail, and how many calls and faults there were
pub record Keeping : Type 0 where
  pub rows : Rows
  pub fails : List ℕ
  pub calls : ℕ
  pub faults : ℕ

-- whether the next call fails
abbrev pub call_fails : Keeping → Bool
call_fails keeper = is_listed keeper.fails keeper.calls

-- the keeper after a call that left it these rows
abbrev pub after_call : Keeping → Rows → Keeping
after_call keeper rows = record keeper { rows = rows; calls = counted_up keeper.calls; faults = (if call_fails keeper then counted_up keeper.faults else keeper.faults) }
