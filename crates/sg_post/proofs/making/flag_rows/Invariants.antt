use Rattle.std.proofs.Common.{◌≡◌, map}
use Rattle.sg_streams.specs.Numbers.{numbers_below}
use Rattle.sg_tables.specs.Tables.{left_of}
use Rattle.sg_post.specs.inside.Making.{has_bit}
use Rattle.sg_post.proofs.making.flag_rows.Given as goal

abbrev pub invariant-loop-row : goal.invariant-loop-row
invariant-loop-row l = l.flags ≡ map (λ row. has_bit l.marks (left_of l.tables.plan l.tables.seed l.race l.instance row)) (numbers_below l.row)
