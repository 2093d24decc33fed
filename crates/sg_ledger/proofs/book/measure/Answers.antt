use Rattle.std.proofs.Common.{[], ◌∷◌, ap, ◌∙◌, length, length-append, add-one, arith}
use Rattle.sg_ledger.proofs.Made.{values-push}
use Rattle.sg_plan.proofs.PlanLaws.{bounds, entries_before-more}
use Rattle.sg_plan.specs.Limits.{fault_of}
use Rattle.sg_plan.specs.Ballots.{entries_before, entries_of}
use Rattle.sg_ledger.proofs.book.measure.Goals as goal

pub overflow_cast-race : goal.overflow_cast-race
overflow_cast-race c = omega (arith, (bounds c.plan-plan.result.now (ap fault_of c.plan-plan.ensures.plan ∙ c.plan-plan.ensures.good)).few_races)

pub overflow_add-all : goal.overflow_add-all
overflow_add-all c =
    let plan = c.plan-plan.result.now in
    omega (arith, c.loop-race.invariant.all_is, c.entries-count.ensures, entries_before-more plan c.loop-race.race (length plan.races) (omega arith), (bounds plan (ap fault_of c.plan-plan.ensures.plan ∙ c.plan-plan.ensures.good)).few_all_entries)

pub loop-race-preserved : goal.loop-race-preserved
loop-race-preserved c =
    let plan = c.plan-plan.result.now in
    let race = c.loop-race.race in
    let kept = c.loop-race.invariant in
    record {
      befores = omega (arith, ap length c.in_ok-push.ensures.ok, length-append c.loop-race.before (c.loop-race.all ∷ []), kept.befores);
      counts = omega (arith, ap length c.in_ok-push-2.ensures.ok, length-append c.loop-race.entries (c.entries-count.result ∷ []), kept.counts);
      before_is = rw c.in_ok-push.ensures.ok (values-push c.loop-race.before (entries_before plan) race c.loop-race.all kept.befores kept.all_is kept.before_is);
      count_is = rw c.in_ok-push-2.ensures.ok (values-push c.loop-race.entries (entries_of plan) race c.entries-count.result kept.counts c.entries-count.ensures kept.count_is);
      all_is = rw add-one (omega (arith, kept.all_is, c.entries-count.ensures));
    }
