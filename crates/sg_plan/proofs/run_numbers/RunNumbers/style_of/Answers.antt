use Rattle.std.proofs.Common.{◌-◌}
use Rattle.sg_plan.proofs.IndexLists.{run_tells}
use Rattle.sg_plan.proofs.run_numbers.RunNumbers.style_of.Goals as goal

pub get-requires : goal.get-requires
get-requires c = c.number_of-number.ensures.within

pub returns : goal.returns
returns c =
    (run_tells c.args.runs.now (c.args.ballot - 1) c.number_of-number.result c.get.result.now c.get.ensures.front c.get.ensures.rest c.number_of-number.ensures).style
