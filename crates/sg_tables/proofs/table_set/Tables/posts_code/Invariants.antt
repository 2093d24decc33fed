use Rattle.std.proofs.Common.{◌≡◌, false}
use Rattle.sg_tables.specs.Posts.{column_marked, row_entry}
use Rattle.sg_tables.specs.Tables.{code_of_entry}
use Rattle.sg_tables.proofs.Filtered.{has_upto}
use Rattle.sg_tables.proofs.table_set.Tables.posts_code.Given as goal

abbrev pub invariant-loop-column : goal.invariant-loop-column
invariant-loop-column l =
    has_upto (λ column. code_of_entry l.self.plan l.self.seed l.fn.race (row_entry l.self.plan l.fn.race l.fn.ballot_row column))
    (column_marked l.self.plan l.self.seed l.fn.race l.fn.ballot_row l.fate) l.fn.code l.column ≡ false
