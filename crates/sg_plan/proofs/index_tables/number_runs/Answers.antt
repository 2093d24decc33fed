use Rattle.sg_plan.proofs.IndexLists.{numbers-step}
use Rattle.sg_plan.specs.Runs.{run_numbers}
use Rattle.sg_plan.proofs.index_tables.number_runs.Goals as goal

pub loop-at-preserved : goal.loop-at-preserved
loop-at-preserved c =
    rw c.in_ok-push_run.ensures.ok (numbers-step c.args.runs.now c.loop-at.at c.get.result.now c.loop-at.numbers (run_numbers 0 c.args.runs.now) c.get.ensures.rest c.loop-at.invariant)
