-- What is read from the rows that the selections show.
use Rattle.std.specs.Prelude.{ℕ, List, slice_get, option_map, Option}
use Rattle.sqlite.specs.Order.{Row}
use Rattle.sg_keeper.specs.declared.rows.BallotRow.{BallotRow}
use Rattle.sg_keeper.specs.declared.rows.StageRow.{StageRow}
use Rattle.sg_keeper.specs.declared.rows.ClaimRow.{ClaimRow}
use Rattle.sg_keeper.specs.declared.rows.VoidRow.{VoidRow}
use Rattle.sg_keeper.specs.declared.rows.DoneRow.{DoneRow}
use Rattle.sg_store.specs.Told.{whole_at, text_at}

-- what is read from a row that is shown
abbrev pub setup_in : List Row → Option (List ℕ)
setup_in rows = option_map (λ row. text_at row 1) (slice_get rows 0)

abbrev pub ballot_in : Row → BallotRow
ballot_in row = record { ballot = whole_at row 0; fate = whole_at row 1; detail = text_at row 2 }

abbrev pub stage_in : Row → StageRow
stage_in row = record { step = whole_at row 0; detail = text_at row 1 }

abbrev pub claim_in : Row → ClaimRow
claim_in row = record { claim = whole_at row 0; ballot = whole_at row 1; race = whole_at row 2; code = whole_at row 3 }

abbrev pub void_in : Row → VoidRow
void_in row = record { ballot = whole_at row 0 }

abbrev pub done_in : Row → DoneRow
done_in row = record { station = whole_at row 0; number = whole_at row 1; act = text_at row 2 }
