use Rattle.std.proofs.Common.{◌≡◌, map}
use Rattle.std.specs.List.{filter}
use Rattle.sg_streams.specs.Numbers.{numbers_below}
use Rattle.sg_tables.specs.Posts.{column_marked, row_entry}
use Rattle.sg_tables.specs.Tables.{code_of_entry}
use Rattle.sg_tables.proofs.table_set.Tables.posted_codes.Given as goal

abbrev pub invariant-loop-column : goal.invariant-loop-column
invariant-loop-column l =
    l.codes ≡ map (λ column. code_of_entry l.self.plan l.self.seed l.fn.race (row_entry l.self.plan l.fn.race l.fn.ballot_row column))
    (filter (column_marked l.self.plan l.self.seed l.fn.race l.fn.ballot_row l.fate) (numbers_below l.column))
