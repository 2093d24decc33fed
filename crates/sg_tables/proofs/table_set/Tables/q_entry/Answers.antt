-- The column of the candidate stands in the row of the ballot.
use Rattle.std.proofs.Common.{◌≡◌, ◌+◌, ◌*◌, arith, ap, ◌∙◌}
use Rattle.sg_tables.specs.Tables.{column_showing, entry_showing}
use Rattle.sg_tables.proofs.Sizes.{sizes}
use Rattle.sg_tables.proofs.Standing.{column_stands, number_small, stands_read}
use Rattle.sg_tables.proofs.Values.{column_shows, entry_showing-below}
use Rattle.sg_tables.proofs.table_set.Tables.q_entry.Goals as goal

pub overflow_mul-first : goal.overflow_mul-first
overflow_mul-first c =
    let plan = c.args.self.now.plan in
    let lists = c.lists-lists.result.now in
    let small = sizes plan c.args.race c.lists-lists.ensures.limits c.requires.race in
    omega (
      arith,
      number_small plan c.args.race c.args.ballot_row c.args.candidate lists.candidates small
          c.lists-lists.ensures.lists.candidates c.requires.ballot_row c.requires.candidate,
    )

pub overflow_add-first : goal.overflow_add-first
overflow_add-first c =
    let plan = c.args.self.now.plan in
    let lists = c.lists-lists.result.now in
    let small = sizes plan c.args.race c.lists-lists.ensures.limits c.requires.race in
    omega (
      arith,
      number_small plan c.args.race c.args.ballot_row c.args.candidate lists.candidates small
          c.lists-lists.ensures.lists.candidates c.requires.ballot_row c.requires.candidate,
    )

pub get-requires : goal.get-requires
get-requires c =
    (column_stands c.args.self.now.plan c.args.self.now.seed c.args.race c.lists-lists.result.now c.lists-lists.ensures.lists
    c.args.ballot_row c.args.candidate c.requires.ballot_row c.requires.candidate).within

pub overflow_add-result : goal.overflow_add-result
overflow_add-result c =
    let plan = c.args.self.now.plan in
    let seed = c.args.self.now.seed in
    let race = c.args.race in
    let row = c.args.ballot_row in
    let lists = c.lists-lists.result.now in
    let small = sizes plan race c.lists-lists.ensures.limits c.requires.race in
    let stands = column_stands plan seed race lists c.lists-lists.ensures.lists row c.args.candidate c.requires.ballot_row c.requires.candidate in
    let column = column_showing plan seed race row c.args.candidate in
    let is : c.get.result.now ≡ column = stands_read _ _ _ _ stands c.get.ensures.item in
    let shows = column_shows plan seed race row c.args.candidate c.requires.candidate in
    omega (arith, is, number_small plan race row column lists.candidates small c.lists-lists.ensures.lists.candidates c.requires.ballot_row shows.within)

pub returns-clause-value : goal.returns-clause-value
unfolding entry_showing
returns-clause-value c =
    let plan = c.args.self.now.plan in
    let seed = c.args.self.now.seed in
    let race = c.args.race in
    let row = c.args.ballot_row in
    let lists = c.lists-lists.result.now in
    let stands = column_stands plan seed race lists c.lists-lists.ensures.lists row c.args.candidate c.requires.ballot_row c.requires.candidate in
    let column = column_showing plan seed race row c.args.candidate in
    let is : c.get.result.now ≡ column = stands_read _ _ _ _ stands c.get.ensures.item in
    ap (λ n. row * lists.candidates + n) is ∙ ap (λ k. row * k + column) c.lists-lists.ensures.lists.candidates

pub returns-clause-bound : goal.returns-clause-bound
returns-clause-bound c =
    rw (returns-clause-value c) (entry_showing-below c.args.self.now.plan c.args.self.now.seed c.args.race
    c.args.ballot_row c.args.candidate c.requires.ballot_row c.requires.candidate)
