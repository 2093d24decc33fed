use Rattle.std.proofs.Common.{sym, subst}
use Rattle.sg_plan.specs.declared.plan.Plan.{Plan}
use Rattle.sg_grammar.proofs.PlanCounts.{run_counted}
use Rattle.sg_grammar.specs.Slots.{RunFits}
use Rattle.sg_grammar.proofs.counted.CountedPlan.add_run.Goals as goal

pub invariant_of-self-2 : goal.invariant_of-self-2
invariant_of-self-2 c =
    let fits = subst (λ (p : Plan). RunFits p c.args.run.style c.args.run.count) (sym c.self.view_is) c.requires in
    let counted = run_counted c.self.inside.plan c.self.inside.entries c.entries_with_run-entries.result c.self.inside.numbers c.args.run.style c.args.run.count c.self.invariant fits c.entries_with_run-entries.ensures in
    rw (c.in_ok-push_run.ensures.runs, c.in_ok-push_run.ensures.numbers) counted
