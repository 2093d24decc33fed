use Rattle.std.proofs.Common.{◌++◌, arith}
use Rattle.std.specs.List.{range_with_len}
use Rattle.sg_plan.proofs.IndexLists.{rising-step}
use Rattle.sg_plan.proofs.index_tables.push_rising.Goals as goal

pub loop-at-preserved : goal.loop-at-preserved
loop-at-preserved c =
    rw c.in_ok-push.ensures.ok
    (rising-step c.loop-at.numbers c.args.first c.loop-at.at c.args.count (c.args.numbers.now ++ range_with_len c.args.first c.args.count) (omega arith) c.loop-at.invariant)
