-- The rows of a history (this project's rules for the office).
use Rattle.std.specs.List.{join_with_byte}
use Rattle.std.specs.Prelude.{ℕ, ◌+◌, pos, List, [], ◌∷◌, length, map, Some}
use Rattle.sg_keeper.specs.Rows.{with_change}
use Rattle.sg_acts.specs.declared.asks.Act.{Act}
use Rattle.sg_acts.specs.declared.asks.Act.TheVariants as act
use Rattle.sg_keeper.specs.declared.rows.Change.{Change}
use Rattle.sg_keeper.specs.declared.rows.ChangeRow.{ChangeRow}
use Rattle.sg_keeper.specs.declared.rows.ChangeRow.TheVariants as row
use Rattle.sg_keeper.specs.declared.rows.DoneRow.{DoneRow}
use Rattle.sg_keeper.specs.declared.rows.Rows.{Rows}
use Rattle.sg_keeper.specs.declared.setup.Setup.{Setup}
use Rattle.sg_desks.specs.ActTexts.{act_text, codes_word, draw_word, mark_word}
use Rattle.sg_histories.specs.Histories.{Entry, claims_of}

-- the row of an act, where so many claims are kept
abbrev pub row_of_act : ℕ → ℕ → Act → ChangeRow
row_of_act version claims (act.Scan ballot marks) = row.Ballot (record { ballot = pos ballot; fate = pos 1; detail = join_with_byte 32 (map mark_word marks) })
row_of_act version claims (act.Spoil ballot) = row.Ballot (record { ballot = pos ballot; fate = pos 2; detail = [] })
row_of_act version claims (act.Audit ballot paper) = row.Ballot (record { ballot = pos ballot; fate = pos 3; detail = join_with_byte 32 (map (codes_word version) paper) })
row_of_act version claims act.Close = row.Stage (record { step = pos 1; detail = [] })
row_of_act version claims (act.Draw drawn) = row.Stage (record { step = pos 2; detail = draw_word drawn })
row_of_act version claims (act.Claim ballot race code) = row.Claim (record { claim = pos (claims + 1); ballot = pos ballot; race = pos race; code = pos code })
row_of_act version claims (act.Void ballot) = row.Void (record { ballot = pos ballot })

-- the row of an act that was done
abbrev pub done_row : ℕ → Entry → DoneRow
done_row version entry = record { station = pos entry.station; number = pos entry.number; act = act_text version entry.act }

-- what an entry adds to the rows of the history before it
abbrev pub change_of : Setup → List Entry → Entry → Change
change_of setup history entry = record {
  row = row_of_act setup.plan.version (length (claims_of history)) entry.act;
  done = done_row setup.plan.version entry;
}

-- the rows of a setup's text and a history
abbrev pub rows_of : Setup → List ℕ → List Entry → Rows
rows_of setup text [] = record { setup = Some text; ballots = []; stages = []; claims = []; voids = []; dones = [] }
rows_of setup text (entry ∷ history) = with_change (rows_of setup text history) (change_of setup history entry)
