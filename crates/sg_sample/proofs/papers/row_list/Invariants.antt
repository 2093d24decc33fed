-- The codes so far are the first ones of the ballot row.
use Rattle.std.proofs.Common.{◌≡◌, take}
use Rattle.sg_tables.specs.Tables.{codes_of_row}
use Rattle.sg_sample.proofs.papers.row_list.Given as goal

abbrev pub invariant-loop-candidate : goal.invariant-loop-candidate
invariant-loop-candidate l = l.list ≡ take l.candidate (codes_of_row l.tables.plan l.tables.seed l.fn.race l.fn.row)
