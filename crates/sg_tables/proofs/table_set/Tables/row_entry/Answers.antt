-- An entry of the race has a small number.
use Rattle.std.proofs.Common.{arith}
use Rattle.sg_tables.proofs.Sizes.{sizes}
use Rattle.sg_tables.proofs.Standing.{number_small}
use Rattle.sg_tables.proofs.table_set.Tables.row_entry.Goals as goal

pub overflow_mul-result : goal.overflow_mul-result
overflow_mul-result c =
    let plan = c.args.self.now.plan in
    let lists = c.lists.result.now in
    let small = sizes plan c.args.race c.lists.ensures.limits c.requires.race in
    omega (
      arith,
      number_small plan c.args.race c.args.ballot_row c.args.column lists.candidates small
          c.lists.ensures.lists.candidates c.requires.ballot_row c.requires.column,
    )

pub overflow_add-result : goal.overflow_add-result
overflow_add-result c =
    let plan = c.args.self.now.plan in
    let lists = c.lists.result.now in
    let small = sizes plan c.args.race c.lists.ensures.limits c.requires.race in
    omega (
      arith,
      number_small plan c.args.race c.args.ballot_row c.args.column lists.candidates small
          c.lists.ensures.lists.candidates c.requires.ballot_row c.requires.column,
    )
