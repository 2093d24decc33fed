-- The row stands in the list of the candidate.
use Rattle.std.proofs.Common.{length, arith, ap, sym}
use Rattle.std.proofs.lemmas.Option.{get_or_from_slice_get}
use Rattle.sg_plan.specs.Ballots.{candidates_of}
use Rattle.sg_tables.specs.Tables.{place_row, place_rows_of}
use Rattle.sg_tables.proofs.Lists.{length-map_below}
use Rattle.sg_tables.proofs.Standing.{lists_stand}
use Rattle.sg_tables.proofs.Values.{place_row-below, place_rows_of-one_to_one}
use Rattle.sg_tables.proofs.table_set.Tables.place_row.Goals as goal

pub get-rows-requires : goal.get-rows-requires
get-rows-requires c =
    let plan = c.args.self.now.plan in
    omega (
      arith,
      ap length c.lists.ensures.lists.place_rows,
      length-map_below (place_rows_of plan c.args.self.now.seed c.args.race) (candidates_of plan c.args.race),
      c.requires.candidate,
    )

pub get-requires : goal.get-requires
get-requires c =
    let plan = c.args.self.now.plan in
    let seed = c.args.self.now.seed in
    let list = lists_stand (place_rows_of plan seed c.args.race) (candidates_of plan c.args.race) c.args.candidate c.lists.result.now.place_rows
    c.get-rows.result.now c.lists.ensures.lists.place_rows c.requires.candidate c.get-rows.ensures.item in
    omega (arith, ap length list, (place_rows_of-one_to_one plan seed c.args.race c.args.candidate).many, c.requires.ballot_row)

pub returns-clause-value : goal.returns-clause-value
unfolding place_row
returns-clause-value c =
    let plan = c.args.self.now.plan in
    let seed = c.args.self.now.seed in
    let list = lists_stand (place_rows_of plan seed c.args.race) (candidates_of plan c.args.race) c.args.candidate c.lists.result.now.place_rows
    c.get-rows.result.now c.lists.ensures.lists.place_rows c.requires.candidate c.get-rows.ensures.item in
    rw (← list) (sym (get_or_from_slice_get c.get-rows.result.now c.args.ballot_row c.get.result.now 0 c.get.ensures.item))

pub returns-clause-bound : goal.returns-clause-bound
returns-clause-bound c =
    rw (returns-clause-value c) (place_row-below c.args.self.now.plan c.args.self.now.seed c.args.race
    c.args.ballot_row c.args.candidate c.requires.ballot_row)
