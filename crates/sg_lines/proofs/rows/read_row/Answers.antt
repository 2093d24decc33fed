-- The bytes are those of the pairs of the values.
use Rattle.std.proofs.Common.{arith}
use Rattle.sg_lines.proofs.DigitRows.{row_found, digits_of, digits_are, digits_joined}
use Rattle.sg_lines.proofs.rows.read_row.Goals as goal

pub returns-clause-found : goal.returns-clause-found
returns-clause-found c = λ is_hex.
    rw (c.join.ensures, c.pair_up.ensures)
    (row_found c.args.word.now c.read_values-is_hex.new.values (omega arith) (c.read_values-is_hex.ensures.found is_hex))

pub returns-clause-only : goal.returns-clause-only
returns-clause-only c = λ bytes fits is.
    let read = c.read_values-is_hex.ensures.only (digits_of bytes) (rw is (digits_are bytes fits)) in
    (read.0, rw (c.join.ensures, c.pair_up.ensures, read.1) (digits_joined bytes fits))
