use Rattle.std.proofs.Common.{◌≡◌, drop}
use Rattle.sg_tables.specs.Posts.{has_code}
use Rattle.sg_tables.specs.Tables.{codes_of_row}
use Rattle.sg_tables.proofs.table_set.Tables.prints_code.Given as goal

abbrev pub invariant-loop-candidate : goal.invariant-loop-candidate
invariant-loop-candidate l =
    has_code (drop l.candidate (codes_of_row l.self.plan l.self.seed l.fn.race l.fn.ballot_row)) l.fn.code
    ≡ has_code (codes_of_row l.self.plan l.self.seed l.fn.race l.fn.ballot_row) l.fn.code
