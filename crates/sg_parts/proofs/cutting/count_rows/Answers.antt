-- The entries of one more race.
use Rattle.std.proofs.Common.{suc, ◌+◌, ◌≡◌, length, ap, arith}
use Rattle.sg_plan.proofs.PlanLaws.{bounds, entries_before-more}
use Rattle.sg_plan.specs.Ballots.{entries_before, entries_of}
use Rattle.sg_plan.specs.declared.plan.Plan.{Plan}
use Rattle.sg_parts.proofs.cutting.count_rows.Goals as goal

pub overflow_add-entries : goal.overflow_add-entries
overflow_add-entries c =
    let more = entries_before-more c.args.index.now c.loop-race.race (length c.args.index.now.races) (omega (arith, c.loop-race-test.true, c.len-race-end.ensures, ap (λ (p : Plan). length p.races) c.plan-plan.ensures.plan)) in
    omega (arith, more, c.loop-race.invariant, c.entries-entries.ensures, ap (λ (p : Plan). entries_of p c.loop-race.race) c.plan-plan.ensures.plan, (bounds c.args.index.now c.plan-plan.ensures.good).few_all_entries)

pub loop-race-preserved : goal.loop-race-preserved
loop-race-preserved c =
    let one : suc c.loop-race.race ≡ c.loop-race.race + 1 = omega arith in
    omega (arith, c.loop-race.invariant, c.entries-entries.ensures, ap (λ (p : Plan). entries_of p c.loop-race.race) c.plan-plan.ensures.plan, ap (entries_before c.args.index.now) one)
