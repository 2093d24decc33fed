-- A place of the race has a small number.
use Rattle.std.proofs.Common.{arith}
use Rattle.sg_tables.proofs.Sizes.{sizes}
use Rattle.sg_tables.proofs.Standing.{number_small}
use Rattle.sg_tables.proofs.table_set.Tables.path.Goals as goal

pub overflow_mul-result : goal.overflow_mul-result
overflow_mul-result c =
    let plan = c.args.self.now.plan in
    let small = sizes plan c.args.race c.lists.ensures.limits c.requires.race in
    omega (
      arith,
      number_small plan c.args.race c.place_row.result c.shown-candidate.result c.lists.result.now.candidates small
          c.lists.ensures.lists.candidates c.place_row.ensures.bound c.shown-candidate.ensures.bound,
    )

pub overflow_add-result : goal.overflow_add-result
overflow_add-result c =
    let plan = c.args.self.now.plan in
    let small = sizes plan c.args.race c.lists.ensures.limits c.requires.race in
    omega (
      arith,
      number_small plan c.args.race c.place_row.result c.shown-candidate.result c.lists.result.now.candidates small
          c.lists.ensures.lists.candidates c.place_row.ensures.bound c.shown-candidate.ensures.bound,
    )
