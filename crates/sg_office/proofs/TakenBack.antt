-- A row that was put in and is taken back leaves the rows as they were.
use Rattle.std.proofs.Common.{◌≡◌, true, List, arith}
use Rattle.std.proofs.lemmas.Int.{ints}
use Rattle.sg_keeper.specs.Rows.{done_before, done_is, is_new, put}
use Rattle.sg_keeper.specs.declared.rows.DoneRow.{DoneRow}
use Rattle.sg_office.specs.Acts.{without}
use Rattle.sg_office.proofs.Gathered.{without_put}

itself : (done : DoneRow) → done_is done done ≡ true
itself done = grind (arith, ints)

pub taken_back : (done : DoneRow) (rows : List DoneRow) → is_new done_is done rows ≡ true → without done (put done_before done rows) ≡ rows
taken_back done rows new = without_put done done rows (itself done) new
