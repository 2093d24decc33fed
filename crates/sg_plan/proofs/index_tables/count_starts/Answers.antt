use Rattle.std.proofs.Common.{true}
use Rattle.sg_plan.proofs.IndexLists.{counts-step, left-step}
use Rattle.sg_plan.specs.inside.Index.{counts_before}
use Rattle.sg_plan.proofs.index_tables.count_starts.Goals as goal

pub loop-at-preserved : goal.loop-at-preserved
loop-at-preserved c =
    let runs = c.args.runs.now in
    let run = c.get.result.now in
    let kept = c.loop-at.invariant in
    record {
      few = (left-step (λ style. true) runs c.loop-at.at c.loop-at.start run 20000 c.get.ensures.rest kept.few).1;
      rest = rw c.in_ok-push.ensures.ok (counts-step (λ style. true) runs c.loop-at.at c.loop-at.start run c.loop-at.starts (counts_before (λ style. true) 0 runs) c.get.ensures.rest kept.rest);
    }
