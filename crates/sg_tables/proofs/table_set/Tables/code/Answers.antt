-- The code stands in the row of the ballot and the column of the candidate.
use Rattle.std.proofs.Common.{arith}
use Rattle.sg_tables.proofs.Sizes.{sizes}
use Rattle.sg_tables.proofs.Standing.{code_stands, number_small, stands_read}
use Rattle.sg_tables.proofs.Values.{code_beside-below}
use Rattle.sg_tables.proofs.table_set.Tables.code.Goals as goal

pub overflow_mul-ballot_row : goal.overflow_mul-ballot_row
overflow_mul-ballot_row c =
    let plan = c.args.self.now.plan in
    let lists = c.lists-lists.result.now in
    let small = sizes plan c.args.race c.lists-lists.ensures.limits c.requires.race in
    omega (
      arith,
      number_small plan c.args.race c.args.ballot_row c.args.candidate lists.candidates small
          c.lists-lists.ensures.lists.candidates c.requires.ballot_row c.requires.candidate,
    )

pub overflow_add-ballot_row : goal.overflow_add-ballot_row
overflow_add-ballot_row c =
    let plan = c.args.self.now.plan in
    let lists = c.lists-lists.result.now in
    let small = sizes plan c.args.race c.lists-lists.ensures.limits c.requires.race in
    omega (
      arith,
      number_small plan c.args.race c.args.ballot_row c.args.candidate lists.candidates small
          c.lists-lists.ensures.lists.candidates c.requires.ballot_row c.requires.candidate,
    )

pub get-requires : goal.get-requires
get-requires c =
    let plan = c.args.self.now.plan in
    let small = sizes plan c.args.race c.lists-lists.ensures.limits c.requires.race in
    (code_stands plan c.args.self.now.seed c.args.race c.lists-lists.result.now small c.lists-lists.ensures.lists
    c.args.ballot_row c.args.candidate c.requires.ballot_row c.requires.candidate).within

pub returns-clause-value : goal.returns-clause-value
returns-clause-value c =
    let plan = c.args.self.now.plan in
    let small = sizes plan c.args.race c.lists-lists.ensures.limits c.requires.race in
    let stands = code_stands plan c.args.self.now.seed c.args.race c.lists-lists.result.now small c.lists-lists.ensures.lists
    c.args.ballot_row c.args.candidate c.requires.ballot_row c.requires.candidate in
    stands_read _ _ _ _ stands c.get.ensures.item

pub returns-clause-bound : goal.returns-clause-bound
returns-clause-bound c =
    let plan = c.args.self.now.plan in
    let small = sizes plan c.args.race c.lists-lists.ensures.limits c.requires.race in
    rw (returns-clause-value c) (code_beside-below plan c.args.self.now.seed c.args.race c.args.ballot_row c.args.candidate
    small.version small.candidates c.requires.candidate)
