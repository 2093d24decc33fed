-- The rows of the acts that were done, by their stamps.
use Rattle.std.specs.Prelude.{if◌then◌else◌, List, [], ◌∷◌}
use Rattle.sg_keeper.specs.Rows.{done_is}
use Rattle.sg_keeper.specs.declared.rows.DoneRow.{DoneRow}

-- the rows without the first that has the station and number of this one
abbrev pub without : DoneRow → List DoneRow → List DoneRow
without done [] = []
without done (row ∷ rows) = (if done_is row done then rows else row ∷ without done rows)
