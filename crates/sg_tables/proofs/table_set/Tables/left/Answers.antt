-- The pointer stands in the list of the instance.
use Rattle.std.proofs.Common.{length, arith, ap, sym}
use Rattle.std.proofs.lemmas.Option.{get_or_from_slice_get}
use Rattle.sg_tables.specs.Tables.{left_of, lefts_of}
use Rattle.sg_tables.proofs.Lists.{length-map_below}
use Rattle.sg_tables.proofs.Standing.{lists_stand}
use Rattle.sg_tables.proofs.Values.{left_of-below, lefts_of-one_to_one}
use Rattle.sg_tables.proofs.table_set.Tables.left.Goals as goal

pub get-entries-requires : goal.get-entries-requires
get-entries-requires c =
    let plan = c.args.self.now.plan in
    omega (
      arith,
      ap length c.lists.ensures.lists.lefts,
      length-map_below (lefts_of plan c.args.self.now.seed c.args.race) plan.instances,
      c.requires.instance,
    )

pub get-requires : goal.get-requires
get-requires c =
    let plan = c.args.self.now.plan in
    let seed = c.args.self.now.seed in
    let list = lists_stand (lefts_of plan seed c.args.race) plan.instances c.args.instance c.lists.result.now.lefts c.get-entries.result.now
    c.lists.ensures.lists.lefts c.requires.instance c.get-entries.ensures.item in
    omega (arith, ap length list, (lefts_of-one_to_one plan seed c.args.race c.args.instance).many, c.requires.row)

pub returns-clause-value : goal.returns-clause-value
unfolding left_of
returns-clause-value c =
    let plan = c.args.self.now.plan in
    let seed = c.args.self.now.seed in
    let list = lists_stand (lefts_of plan seed c.args.race) plan.instances c.args.instance c.lists.result.now.lefts c.get-entries.result.now
    c.lists.ensures.lists.lefts c.requires.instance c.get-entries.ensures.item in
    rw (← list) (sym (get_or_from_slice_get c.get-entries.result.now c.args.row c.get.result.now 0 c.get.ensures.item))

pub returns-clause-bound : goal.returns-clause-bound
returns-clause-bound c =
    rw (returns-clause-value c) (left_of-below c.args.self.now.plan c.args.self.now.seed c.args.race c.args.instance c.args.row c.requires.row)
