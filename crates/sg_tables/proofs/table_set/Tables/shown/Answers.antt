-- The candidate stands at the entry.
use Rattle.sg_tables.proofs.Sizes.{sizes}
use Rattle.sg_tables.proofs.Standing.{shown_stands, stands_read}
use Rattle.sg_tables.proofs.Values.{shown_by-below}
use Rattle.sg_tables.proofs.table_set.Tables.shown.Goals as goal

pub get-requires : goal.get-requires
get-requires c =
    let plan = c.args.self.now.plan in
    let small = sizes plan c.args.race c.lists.ensures.limits c.requires.race in
    (shown_stands plan c.args.self.now.seed c.args.race c.lists.result.now small c.lists.ensures.lists c.args.entry c.requires.entry).within

pub returns-clause-value : goal.returns-clause-value
returns-clause-value c =
    let plan = c.args.self.now.plan in
    let small = sizes plan c.args.race c.lists.ensures.limits c.requires.race in
    let stands = shown_stands plan c.args.self.now.seed c.args.race c.lists.result.now small c.lists.ensures.lists c.args.entry c.requires.entry in
    stands_read _ _ _ _ stands c.get.ensures.item

pub returns-clause-bound : goal.returns-clause-bound
returns-clause-bound c =
    let plan = c.args.self.now.plan in
    let small = sizes plan c.args.race c.lists.ensures.limits c.requires.race in
    rw (returns-clause-value c) (shown_by-below plan c.args.self.now.seed c.args.race c.args.entry small.some_candidate)
